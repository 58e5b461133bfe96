-- Made by tests/widths from crates/iddqd_bi/proofs/entry/OccupiedEntryMut/data2_mut/Answers.antt: change that file.
use Rattle.std.proofs.Common.{rules}
use Rattle.iddqd_store.proofs.MapLemmas.Updating.{held_data, held_live}
use Rattle.iddqd_tri.proofs.entry.OccupiedEntryMut.data3_mut.Goals as goal

pub returns : goal.returns
returns g c =
    let m = c.args.self.now.map.now in
    let slot = c.args.self.now.slot3 in (
      search rules,
      record {
        lends = tt;
        value = held_data g.T.TriHashItemMut.data_of m.slots slot c.data_mut_of.result c.requires.live3 c.data_mut_of.ensures.some c.data_mut_of.ensures.value;
        swaps = c.data_mut_of.ensures.swaps;
        holds = λ f. record {
          live1 = held_live f m slot c.args.self.now.slot1 c.requires.live1;
          live2 = held_live f m slot c.args.self.now.slot2 c.requires.live2;
          live3 = held_live f m slot c.args.self.now.slot3 c.requires.live3;
        };
      },
    )
