use Rattle.std.proofs.Common.{refl, ◌≡◌, map, subst, sym, [], ◌∷◌}
use Rattle.std.specs.Option.{IfSome, option_and_then, option_copied_mut, option_to_list}
use Rattle.iddqd_store.specs.Slots.{IsLive, get}
use Rattle.iddqd_store.proofs.MapLemmas.Updating.{held_data, held_live}
use Rattle.iddqd_store.proofs.SlotLemmas.Entries.{by_all_live}
use Rattle.iddqd_bi.specs.Entries.{unique_slot}
use Rattle.iddqd_bi.proofs.entry.OccupiedEntryMut.data_unique_mut.Goals as goal

pub returns : goal.returns
returns g c =
    let m = c.args.self.now.map.now in
    let slot = unique_slot c.args.self.now in
    let same = c.one_of-slot.ensures in
    let live = by_all_live m.slots (c.args.self.now.slot1 ∷ c.args.self.now.slot2 ∷ []) (c.requires.live1, (c.requires.live2, tt)) in
    let part = g.T.BiHashItemMut.data_of in (
      rw same refl,
      record {
        lends = tt;
        value = subst (λ s. option_to_list (option_copied_mut c.data_mut_of.result) ≡ map part (option_to_list (option_and_then (get m.slots) s))) same
            (held_data part m.slots c.one_of-slot.result c.data_mut_of.result (subst (λ s. IfSome s (IsLive m.slots)) (sym same) live) c.data_mut_of.ensures.some c.data_mut_of.ensures.value);
        swaps = rw same at c.data_mut_of.ensures.swaps;
        holds = λ f. record {
          live1 = held_live f m slot c.args.self.now.slot1 c.requires.live1;
          live2 = held_live f m slot c.args.self.now.slot2 c.requires.live2;
        };
      },
    )
