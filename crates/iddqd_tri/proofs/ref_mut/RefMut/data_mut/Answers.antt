-- Made by tests/widths from crates/iddqd_bi/proofs/ref_mut/RefMut/data_mut/Answers.antt: change that file.
use Rattle.std.proofs.Common.{refl}
use Rattle.iddqd_store.specs.Slots.{get}
use Rattle.iddqd_store.proofs.MapLemmas.Written.{item_written, if_some}
use Rattle.iddqd_tri.proofs.RefLemmas.{ref_written}
use Rattle.iddqd_tri.proofs.ref_mut.RefMut.data_mut.Goals as goal

pub returns : goal.returns
returns g c =
    let r = c.args.self.now in
    let item = get r.map.now.slots r.slot in (
      (refl, λ w. ref_written r (λ x. g.T.TriHashItemMut.put x w) _),
      record {
        writes_back = tt;
        value = if_some item (λ x is. c.data_mut_at.ensures.value x is);
        writes = λ d. if_some item (λ x is. item_written r.map.now r.slot (λ x. g.T.TriHashItemMut.put x d) x is);
        swaps = λ d. if_some item (λ x is. c.data_mut_at.ensures.swaps x d is);
      },
    )
