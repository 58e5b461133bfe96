-- What an entry's calls do to the map that it was asked of. The proofs of callers cite these lemmas.
use Rattle.std.specs.Prelude.{◌≡◌, ◌≢◌, Bool, true, [], ◌∷◌, List, is_some, Option, Some, None, IfSome, Ok, IsPermutation}
use Rattle.std.proofs.Common.{ap, ◌∙◌}
use Rattle.std.proofs.lemmas.List.Sorted.{IsPermutation-refl}
use Rattle.std.specs.declared.cmp.PartialEq as equal
use Rattle.std.specs.declared.hash.Hash as hash
use Rattle.std.specs.declared.hash.Hasher as hasher
use Rattle.std.specs.declared.hash.BuildHasher as builder
use Rattle.iddqd_store.specs.Bag.{Ranks, listing, swap, unique, non_unique}
use Rattle.iddqd_store.specs.Bag as bags
use Rattle.iddqd_store.specs.Bag.Storing.{Stores}
use Rattle.iddqd_store.specs.Map.{Map, bag}
use Rattle.iddqd_bi.specs.Keys.{key_tests}
use Rattle.iddqd_bi.specs.Entries.{HasFound, HoldsFound, IsFound, KeepsFound, OnVacant, OnOccupied, PutsIn, entry_key1, entry_key2, entry_map, held_entry, held_unique, entry_tests}
use Rattle.iddqd_bi.specs.declared.item.BiHashItem as item
use Rattle.iddqd_store.specs.declared.query.Query as query
use Rattle.iddqd_bi.specs.declared.entry.Entry.{Entry}
use Rattle.iddqd_bi.specs.declared.entry.Entry.TheVariants.{Vacant, Occupied}
use Rattle.iddqd_bi.specs.declared.entry.OccupiedEntry.{OccupiedEntry}
use Rattle.iddqd_bi.specs.declared.entry.OccupiedEntryMut.{OccupiedEntryMut}
use Rattle.iddqd_bi.specs.declared.error.EntryRefusal.{EntryRefusal}
use Rattle.iddqd_store.specs.Callers.{InsertsOrWrites}
-- nothing conflicts with an item exactly if its keys find nothing
pub use Rattle.iddqd_store.proofs.BagLemmas.Steps.{conflicts_of-empty, conflicting-empty}
use Rattle.iddqd_store.proofs.CallerLemmas.Entries.{IsInsertedOrHeld, occupied_as, one_not, one_unique, writes_found}

module _ {T S K1 K2 H : Type 0} (m : OccupiedEntryMut T S K1 K2 H) where
  -- a unique entry holds its item under both keys, and any other entry holds no item under both
  pub unique_held : (y : T) → held_entry m ≡ unique y → held_unique m ≡ Some y
  unique_held y is = one_unique _ (held_unique m) y is

  pub none_held : (ys : List T) → held_entry m ≡ non_unique ys → held_unique m ≡ None
  none_held ys is = one_not _ (held_unique m) ys is

module _ {T S Q1 Q2 K1 K2 H : Type 0} (of : item.Ghosts T K1 K2) (stands1 : Q1 → K1 → Bool) (stands2 : Q2 → K2 → Bool) where
  -- the same where `into_mut` holds what an occupied entry found
  pub writes_occupied : (ranks : Ranks T) (write : T → T) (o : OccupiedEntry T S Q1 Q2 K1 K2 H)
      (m : OccupiedEntryMut T S K1 K2 H) (x : T) (k1 : Q1) (k2 : Q2) (old : Map T S) (new : List T) (found : Option T) →
      HasFound (key_tests of stands1 stands2) o → HoldsFound of stands1 stands2 o m → m.map.now ≡ o.map.now → o.query1 ≡ k1 → o.query2 ≡ k2 → o.map.now ≡ old →
      found ≡ held_unique m → is_some found ≡ true → IfSome found (λ y. IsPermutation new (swap ranks (bag m.map.now) y (write y))) →
      InsertsOrWrites ranks write (bag old) x (bags.entry (key_tests of stands1 stands2 k1 k2) (bag old)) new
  writes_occupied ranks write o m x k1 k2 old new found has holds same is1 is2 is item some swaps =
      rw (← is1, ← is2, ← is) (writes_found (bag o.map.now) x ranks write
      (listing (entry_tests (key_tests of stands1 stands2) o) (bag o.map.now)) _ (bag m.map.now) new (held_entry m) found
      (held_unique m) has.some (ap (λ (n : Map T S). bag n) same) holds.value (unique_held m) (none_held m) item some swaps)

module _ {T S Q1 Q2 K1 K2 H : Type 0} {of : item.Ghosts T K1 K2} {eq1 : equal.Ghosts K1} {input1 : hash.Ghosts K1}
    {eq2 : equal.Ghosts K2} {input2 : hash.Ghosts K2} {build : builder.Ghosts S H} {hashes : hasher.Ghosts H} {q1 : query.Ghosts Q1 K1}
    {w1 : hash.Ghosts Q1} {e1 : equal.Ghosts Q1} {q2 : query.Ghosts Q2 K2} {w2 : hash.Ghosts Q2} {e2 : equal.Ghosts Q2} where
  -- what is stored in an entry's items is stored in those that its keys name
  pub stores_named : {F D : Type 0} (step : F → T → D → F → Type 0) (put : T → D → T) (ranks : Ranks T) (f : F)
      (e r : Entry T S Q1 Q2 K1 K2 H of eq1 input1 eq2 input2 build hashes q1 w1 e1 q2 w2 e2) (k1 : Q1) (k2 : Q2) (m : Map T S) →
      OnVacant e (λ v. r ≡ e) → OnOccupied e
      (λ o. Stores step put ranks f (listing (entry_tests (key_tests of q1.stands_for q2.stands_for) o) (bag o.map.now)) (bag o.map.now) (bag (entry_map r))) →
      entry_key1 e ≡ k1 → entry_key2 e ≡ k2 → entry_map e ≡ m →
      Stores step put ranks f (listing (key_tests of q1.stands_for q2.stands_for k1 k2) (bag m)) (bag m) (bag (entry_map r))
  stores_named step put ranks f (Vacant v) r k1 k2 m stays stored is1 is2 is =
      rw (← is1, ← is2, ← is, stays, v.absent) (IsPermutation-refl (bag v.map.now))
  stores_named step put ranks f (Occupied o) r k1 k2 m stays stored is1 is2 is = rw (← is1, ← is2, ← is) stored

  -- what `or_insert` leaves if it succeeds
  pub inserted_or_held : (e : Entry T S Q1 Q2 K1 K2 H of eq1 input1 eq2 input2 build hashes q1 w1 e1 q2 w2 e2)
      (m : OccupiedEntryMut T S K1 K2 H) (x : T) (k1 : Q1) (k2 : Q2) (old : Map T S) →
      OnVacant e (λ v. PutsIn v x (Ok m)) → OnOccupied e (λ o. KeepsFound of q1.stands_for q2.stands_for o {E = EntryRefusal T S K1 K2 H} (Ok m)) → IsFound e →
      entry_key1 e ≡ k1 → entry_key2 e ≡ k2 → entry_map e ≡ old →
      IsInsertedOrHeld (bag old) x (bags.entry (key_tests of q1.stands_for q2.stands_for k1 k2) (bag old)) (bag m.map.now) (held_entry m)
  inserted_or_held (Vacant v) m x k1 k2 old put kept found is1 is2 is =
      rw (← is1, ← is2, ← is, v.absent) (put.gains_and_holds.gains.items, put.gains_and_holds.unique)
  inserted_or_held (Occupied o) m x k1 k2 old put kept found is1 is2 is =
      rw (← is1, ← is2, ← is) (occupied_as (bag o.map.now) x (listing (entry_tests (key_tests of q1.stands_for q2.stands_for) o) (bag o.map.now)) _ (bag m.map.now)
      (held_entry m) found.some (ap (λ (n : Map T S). bag n) kept.unchanged) (kept.holds found).value)

  -- an item that `or_insert` inserted is in the map if its keys found nothing
  pub went_in : (e : Entry T S Q1 Q2 K1 K2 H of eq1 input1 eq2 input2 build hashes q1 w1 e1 q2 w2 e2)
      (m : OccupiedEntryMut T S K1 K2 H) (x : T) (k1 : Q1) (k2 : Q2) (old : Map T S) →
      OnVacant e (λ v. PutsIn v x (Ok m)) → IsFound e → entry_key1 e ≡ k1 → entry_key2 e ≡ k2 → entry_map e ≡ old →
      listing (key_tests of q1.stands_for q2.stands_for k1 k2) (bag old) ≡ [] → IsPermutation (bag m.map.now) (x ∷ bag old)
  went_in (Vacant v) m x k1 k2 old put found is1 is2 is none = rw (← is) put.gains_and_holds.gains.items
  went_in (Occupied o) m x k1 k2 old put found is1 is2 is none = absurd (found.some (rw (is1, is2, is) none))

  -- if its keys found something, the map is as it was
  pub stayed : (e : Entry T S Q1 Q2 K1 K2 H of eq1 input1 eq2 input2 build hashes q1 w1 e1 q2 w2 e2)
      (m : OccupiedEntryMut T S K1 K2 H) (k1 : Q1) (k2 : Q2) (old : Map T S) →
      OnOccupied e (λ o. KeepsFound of q1.stands_for q2.stands_for o {E = EntryRefusal T S K1 K2 H} (Ok m))
      → entry_key1 e ≡ k1 → entry_key2 e ≡ k2 → entry_map e ≡ old →
      listing (key_tests of q1.stands_for q2.stands_for k1 k2) (bag old) ≢ [] → m.map.now ≡ old
  stayed (Vacant v) m k1 k2 old kept is1 is2 is some = absurd (some (rw (← is1, ← is2, ← is) v.absent))
  stayed (Occupied o) m k1 k2 old kept is1 is2 is some = kept.unchanged ∙ is
