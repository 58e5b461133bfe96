-- Written by hand; tests/one_key.patch says why.

-- What an entry's calls do to the map that it was asked of. The proofs of callers cite these lemmas.
use Rattle.std.specs.Prelude.{◌≡◌, Bool, ◌∷◌, Option, Some, None, IsSome, Ok, IsPermutation}
use Rattle.std.specs.Option.{option_to_list}
use Rattle.std.proofs.Common.{refl, ap, ◌∙◌}
use Rattle.std.specs.declared.cmp.PartialEq as equal
use Rattle.std.specs.declared.hash.Hash as hash
use Rattle.std.specs.declared.hash.Hasher as hasher
use Rattle.std.specs.declared.hash.BuildHasher as builder
use Rattle.iddqd_store.specs.Bag.{IsOnly}
use Rattle.iddqd_store.specs.Map.{Map, bag}
use Rattle.iddqd_id.specs.Keys.{has}
use Rattle.iddqd_id.specs.Entries.{HasFound, IsFound, KeepsFound, OnVacant, OnOccupied, PutsIn, entry_key, entry_map, found_item}
use Rattle.iddqd_id.specs.RefMuts.{ref_map}
use Rattle.iddqd_id.specs.declared.item.IdHashItem as item
use Rattle.iddqd_store.specs.declared.query.Query as query
use Rattle.iddqd_id.specs.declared.entry.Entry.{Entry}
use Rattle.iddqd_id.specs.declared.entry.Entry.TheVariants.{Vacant, Occupied}
use Rattle.iddqd_id.specs.declared.entry.OccupiedEntry.{OccupiedEntry}
use Rattle.iddqd_id.specs.declared.error.EntryRefusal.{EntryRefusal}
use Rattle.iddqd_id.specs.declared.ref_mut.RefMut.{RefMut}
-- nothing conflicts with an item exactly if its key finds nothing
pub use Rattle.iddqd_store.proofs.BagLemmas.Steps.{conflicts_of-empty, conflicting-empty}

-- an occupied entry has found something
found_some : {T S Q Key H : Type 0} (of : item.Ghosts T Key) (stands : Q → Key → Bool) (o : OccupiedEntry T S Q Key H) → HasFound of stands o → IsOnly (has of stands o.query) (bag o.map.now) None → ⊥
found_some of stands o found none = by_item (found_item o) refl found.live
  where
    by_item : (i : Option _) → found_item o ≡ i → IsSome i → ⊥
    by_item None is some = absurd (cc)
    by_item (Some y) is some = let both = ap option_to_list is in let only = found.only in absurd (cc (both, only, none))

module _ {T S Q Key H : Type 0} {of : item.Ghosts T Key} {eq : equal.Ghosts Key} {input : hash.Ghosts Key}
    {build : builder.Ghosts S H} {hashes : hasher.Ghosts H} {q : query.Ghosts Q Key} {w : hash.Ghosts Q} {e : equal.Ghosts Q} where
  -- an item that `or_insert` inserted is in the map if its key found nothing
  pub went_in : (n : Entry T S Q Key H of eq input build hashes q w e) (r : RefMut T S Key H of eq input build hashes) (x : T) (k : Q) (old : Map T S) →
      OnVacant n (λ v. PutsIn v x (Ok r)) → IsFound n → entry_key n ≡ k → entry_map n ≡ old →
      IsOnly (has of q.stands_for k) (bag old) None → IsPermutation (bag (ref_map r)) (x ∷ bag old)
  went_in (Vacant v) r x k old put found is_key is_map none = rw (← is_map) put.gains_and_lends.gains.items
  went_in (Occupied o) r x k old put found is_key is_map none = absurd (found_some of q.stands_for o found (rw (is_key, is_map) none))

  -- if its key found something, the map is as it was
  pub stayed : (n : Entry T S Q Key H of eq input build hashes q w e) (r : RefMut T S Key H of eq input build hashes) (k : Q) (old : Map T S) (y : T) →
      OnOccupied n (λ o. KeepsFound o {E = EntryRefusal T S Key H} (Ok r)) → entry_key n ≡ k → entry_map n ≡ old →
      IsOnly (has of q.stands_for k) (bag old) (Some y) → (OnVacant n (λ v. IsOnly (has of q.stands_for v.query) (bag v.map.now) None)) → ref_map r ≡ old
  stayed (Vacant v) r k old y kept is_key is_map some none = absurd (let without = rw (is_key, is_map) at none in cc (some, without))
  stayed (Occupied o) r k old y kept is_key is_map some none = kept.unchanged ∙ is_map
