use Rattle.std.proofs.Common.{None, refl, sym, ap, ◌∙◌}
use Rattle.std.proofs.lemmas.List.{map-set, get_or-map}
use Rattle.std.proofs.lemmas.Option.{slice_get_within}
use Rattle.iddqd_store.specs.Slots.Chain.{item_of}
use Rattle.iddqd_store.proofs.SlotLemmas.Chain.{occupied_at, IsChained-rewrite}
use Rattle.iddqd_store.proofs.SlotLemmas.FreeBefore.{live_behind, IsFreeBefore-set}
use Rattle.iddqd_store.proofs.item_set.ItemSet.item_mut.Goals as goal

pub invariant_of-self-lent : goal.invariant_of-self-lent
invariant_of-self-lent g c w =
    let at = c.number.result in
    let found = occupied_at c.self.inside.slots.items at (rw (← c.self.view_is, ← c.number.ensures.value) at c.requires) in
    let behind = live_behind _ _ at found.0 c.self.invariant.1 found.1 in
    (IsChained-rewrite _ _ _ at found.0 w c.self.invariant.0 found.1, IsFreeBefore-set _ behind c.self.invariant.1)

pub returns : goal.returns
returns g c =
    let at = c.number.result in
    let found = occupied_at c.self.inside.slots.items at (rw (← c.self.view_is, ← c.number.ensures.value) at c.requires) in
    let within = slice_get_within c.self.inside.slots.items at _ found.1 in
    let value = get_or-map item_of c.self.inside.slots.items at c.index_mut.result.now None within in (
      (refl, λ w. rw (← c.self.view_is, ← c.number.ensures.value, map-set)),
      record { writes_back = tt; value = rw (← c.self.view_is, ← c.number.ensures.value) (value ∙ ap item_of (sym c.index_mut.ensures.value) ∙ c.item_mut.ensures.value) },
    )
