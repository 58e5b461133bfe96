-- What the slots say that searches by the keys of an item found.
use Rattle.std.specs.Prelude.{◌≡◌, ◌≢◌, ℕ, List, [], ◌∷◌, length, None, slice_set}
use Rattle.std.proofs.Common.{sym}
use Rattle.iddqd_store.specs.Bag.{Ranks, conflicts_of}
use Rattle.iddqd_store.specs.Map.{ConflictsAt, Map}
use Rattle.iddqd_store.specs.Slots.{contents}
use Rattle.iddqd_store.proofs.MapLemmas.Places.{stand_in}
use Rattle.iddqd_store.proofs.MapLemmas.Rekeyed.{another_found, more_found}
use Rattle.iddqd_store.proofs.SlotLemmas.Found.{none_conflict}
use Rattle.iddqd_store.proofs.RankLemmas.Displaced.{gives_way}

module _ {T S : Type 0} {ranks : Ranks T} {m : Map T S} {x : T} {found : List ℕ} (conflict : ConflictsAt ranks m x found) where
  -- there is one
  pub some_found : length found ≡ 0 → ⊥
  some_found short = conflict.some (none_conflict ranks m.slots x found conflict.found.items short)

  -- if there is another slot than this one, an item there conflicts
  pub other_conflicts : {at slot : ℕ} {more : List ℕ} → found ≡ at ∷ more → at ≢ slot → conflicts_of ranks (contents (slice_set m.slots slot None)) x ≢ []
  other_conflicts {at} {slot} {more} is apart = another_found ranks m.slots x slot found conflict.found at more is apart

  pub second_conflicts : {slot at : ℕ} {more : List ℕ} → found ≡ slot ∷ at ∷ more → conflicts_of ranks (contents (slice_set m.slots slot None)) x ≢ []
  second_conflicts {slot} {at} {more} is = more_found ranks m.slots x slot found conflict.found at more is

  -- if it is the only one, nothing else conflicts
  pub none_else : {slot : ℕ} → found ≡ slot ∷ [] → conflicts_of ranks (contents (slice_set m.slots slot None)) x ≡ []
  none_else {slot} is = gives_way ranks m x (slot ∷ []) (stand_in (sym is) conflict.found)
