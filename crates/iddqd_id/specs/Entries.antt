-- Written by hand; tests/one_key.patch says why.

-- What contracts say of entries.
use Rattle.std.specs.Prelude.{◌≡◌, ◌<◌, length, Bool, List, [], Option, Some, None, ⊤}
use Rattle.std.specs.Prelude.{IsPermutation, Result, Ok, Err, IsOk, IfOk, IfErr, OnOk}
use Rattle.std.specs.Borrow.{Fml, GName, Lends, RattleType, MutBor, RestsIfErr, follows}
use Rattle.std.specs.HashMap.Lent.{HashMembers}
use Rattle.std.specs.declared.cmp.PartialEq as equal
use Rattle.std.specs.declared.hash.Hash as hash
use Rattle.std.specs.declared.hash.Hasher as hasher
use Rattle.std.specs.declared.hash.BuildHasher as builder
use mir.Syntax.{named}
use Rattle.iddqd_store.specs.Bag.{IsOnly, Ranks, first_mismatch, swap}
use Rattle.iddqd_store.specs.Map.{Map, bag, Gains}
use Rattle.iddqd_store.specs.Map.Written.{map_with}
use Rattle.iddqd_store.specs.Slots.{get, IsLive}
use Rattle.iddqd_id.specs.Keys.{has, key_tests, ranks}
use Rattle.iddqd_id.specs.Mismatch.{HandsBack, IsInsert}
use Rattle.iddqd_id.specs.InsertErrors.{map_row}
use Rattle.iddqd_id.specs.RefMuts.{ref_item, ref_lender, ref_map}
use Rattle.iddqd_id.specs.declared.item.IdHashItem as item
use Rattle.iddqd_store.specs.declared.query.Query as query
use Rattle.iddqd_id.specs.declared.entry.Entry.{Entry}
use Rattle.iddqd_id.specs.declared.entry.Entry.TheVariants.{Vacant, Occupied}
use Rattle.iddqd_id.specs.declared.entry.VacantEntry.{VacantEntry}
use Rattle.iddqd_id.specs.declared.entry.OccupiedEntry.{OccupiedEntry}
use Rattle.iddqd_id.specs.declared.error.EntryRefusal.{EntryRefusal}
use Rattle.iddqd_id.specs.declared.error.TryEntryError.TheVariants.{Closure}
use Rattle.iddqd_id.specs.declared.error.TryEntryRefusal.{TryEntryRefusal}
use Rattle.iddqd_id.specs.declared.ref_mut.RefMut.{RefMut}
use Rattle.iddqd_id.specs.contracts.entry.OccupiedEntry.{the_row as occupied_row}

module _ {T S : Type 0} where
  -- The second reference is to the same map as the first, and the map is as it was.
  -- Example: If the map has a, b, it has a, b then.
  pub record IsSameMap (before after : MutBor (Map T S)) : Type 0 where
    pub same_map : after.ghost_name ≡ before.ghost_name
    pub unchanged : after.now ≡ before.now

-- The call failed because the closure failed, and returns the closure's error.
-- Example: If the closure returned `Err e`, the error is `Closure e`.
abbrev pub FailsAsClosure : {T S Key H E M : Type 0} → E → Result M (TryEntryRefusal T E S Key H) → Type 0
FailsAsClosure error (Ok m) = ⊥
FailsAsClosure error (Err refusal) = refusal.error ≡ Closure error

module _ {T S Q Key H : Type 0} where
  -- `found_item` is the item that the occupied entry has found.
  -- Example: If its key names a, it is `Some a`.
  abbrev pub found_item : OccupiedEntry T S Q Key H → Option T
  found_item o = get o.map.now.slots o.slot

  -- `entry_with` is the entry, where `f` of its item has replaced the item in the map.
  -- Example: If that item is a, the map has `f a` in its place.
  abbrev pub entry_with : OccupiedEntry T S Q Key H → (T → T) → OccupiedEntry T S Q Key H
  entry_with o f = record o { map = record o.map { now = map_with o.map.now o.slot f } }

  module _ (of : item.Ghosts T Key) (stands : Q → Key → Bool) where
    -- The occupied entry has found the item that its key names. The call `entry` of a map ensures it.
    -- Example: If its key names a, it has found a.
    pub record HasFound (o : OccupiedEntry T S Q Key H) : Type 0 where
      pub only : IsOnly (has of stands o.query) (bag o.map.now) (found_item o)
      pub live : IsLive o.map.now.slots o.slot

    -- The item `x` is in the same map in the place of the entry's item `gone`, and the entry, with the same key, has found
    -- it. Nothing else changes.
    -- Example: In a map of a, b, where the entry has found a, the map becomes `x`, b, and the entry has found `x`.
    pub record PutsOver (ranks : Ranks T) (before : OccupiedEntry T S Q Key H) (gone x : T)
        (after : OccupiedEntry T S Q Key H) : Type 0 where
      pub same_map : after.map.ghost_name ≡ before.map.ghost_name
      pub items : IsPermutation (bag after.map.now) (swap ranks (bag before.map.now) gone x)
      pub has_found : HasFound after
      pub item : found_item after ≡ Some x
      pub key : after.query ≡ before.query
      pub capacity : after.map.now.capacity ≡ before.map.now.capacity
      pub builder : after.map.now.builder ≡ before.map.now.builder

module _ {T S Q Key H : Type 0} {of : item.Ghosts T Key}
    {eq : equal.Ghosts Key} {input : hash.Ghosts Key}
    {build : builder.Ghosts S H} {hashes : hasher.Ghosts H} where
  -- The call succeeds and changes nothing, and the guard that it returns is that of the entry's item.
  -- Example: If the entry has found a, the guard is one of a.
  pub record KeepsFound (o : OccupiedEntry T S Q Key H) {E : Type 0}
      (result : Result (RefMut T S Key H of eq input build hashes) E) : Type 0 where
    pub granted : IsOk result
    pub unchanged : IfOk result (λ r. ref_map r ≡ o.map.now)
    pub item : IfOk result (λ r. ref_item r ≡ found_item o)

module _ {T S Q Key H : Type 0} {of : item.Ghosts T Key}
    {eq : equal.Ghosts Key} {input : hash.Ghosts Key}
    {build : builder.Ghosts S H} {hashes : hasher.Ghosts H}
    {q : query.Ghosts Q Key} {e : equal.Ghosts Q} {w : hash.Ghosts Q} where
  -- `entry_lender` is the name of the entry's reference to the map.
  -- Example: For what `map.entry(..)` returned it is the name of the reference `map`.
  abbrev pub entry_lender : Entry T S Q Key H of eq input build hashes q w e → GName
  entry_lender (Vacant v) = v.map.ghost_name
  entry_lender (Occupied o) = o.map.ghost_name

  -- `entry_map` is the map of the entry.
  -- Example: For an entry of a map of a, b it has a, b.
  abbrev pub entry_map : Entry T S Q Key H of eq input build hashes q w e → Map T S
  entry_map (Vacant v) = v.map.now
  entry_map (Occupied o) = o.map.now

  -- `entry_key` is the entry's query for the key.
  -- Example: For what `map.entry(query)` returned it is `query`.
  abbrev pub entry_key : Entry T S Q Key H of eq input build hashes q w e → Q
  entry_key (Vacant v) = v.query
  entry_key (Occupied o) = o.query

  -- `entry_item` is the item that the entry has found, if there is one.
  -- Example: It is `None` for a vacant entry, and `Some a` for an occupied one whose key names a.
  abbrev pub entry_item : Entry T S Q Key H of eq input build hashes q w e → Option T
  entry_item (Vacant v) = None
  entry_item (Occupied o) = found_item o

  -- If the entry is vacant, then `P` holds for it.
  -- Example: The word holds for any occupied entry.
  abbrev pub OnVacant : Entry T S Q Key H of eq input build hashes q w e
      → (VacantEntry T S Q Key H of eq input build hashes q w e → Type 0) → Type 0
  OnVacant (Vacant v) P = P v
  OnVacant (Occupied o) P = ⊤

  -- If the entry is occupied, then `P` holds for it.
  -- Example: The word holds for any vacant entry.
  abbrev pub OnOccupied : Entry T S Q Key H of eq input build hashes q w e
      → (OccupiedEntry T S Q Key H → Type 0) → Type 0
  OnOccupied (Vacant v) P = ⊤
  OnOccupied (Occupied o) P = P o

  module _ (v : VacantEntry T S Q Key H of eq input build hashes q w e) where
    -- `vacant_tests` has the test whether an item has the key of the vacant entry.
    -- Example: No item of the map passes it.
    abbrev pub vacant_tests : List (T → Bool)
    vacant_tests = key_tests of q.stands_for v.query

    -- The item `x` was inserted into this very map (`Gains`), and the guard `r` borrows it.
    -- Example: A map of a, b becomes `x`, a, b, and `ref_item r` is `Some x`.
    pub record GainsAndLends (x : T) (r : RefMut T S Key H of eq input build hashes) : Type 0 where
      pub same_map : ref_lender r ≡ v.map.ghost_name
      pub item : ref_item r ≡ Some x
      pub gains : Gains 1 v.map.now x (ref_map r)

    -- The item `x` was inserted into this very map (`Gains`), and the occupied entry, with the key of the vacant one, has
    -- found it.
    -- Example: A map of a, b becomes `x`, a, b, and the entry has found `x`.
    pub record GainsAndFinds (x : T) (o : OccupiedEntry T S Q Key H) : Type 0 where
      pub same_map : o.map.ghost_name ≡ v.map.ghost_name
      pub gains : Gains 1 v.map.now x o.map.now
      pub key : o.query ≡ v.query
      pub item : found_item o ≡ Some x
      pub has_found : HasFound of q.stands_for o

    -- The item `x` was inserted into the map of the vacant entry and is lent (`GainsAndLends`), or the error returns it
    -- (`HandsBack`) and the map is as it was. The call succeeds if `x` has the key of the entry and the map is not full.
    -- Example: If `x` has another key than the entry, the error is `Key x`.
    pub record PutsIn (x : T)
        (result : Result (RefMut T S Key H of eq input build hashes) (EntryRefusal T S Key H)) : Type 0 where
      pub gains_and_lends : IfOk result (GainsAndLends x)
      pub same_keys : OnOk result (first_mismatch vacant_tests x ≡ None)
      pub granted : first_mismatch vacant_tests x ≡ None → length (bag v.map.now) < v.map.now.capacity → IsOk result
      pub unchanged : IfErr result (λ refusal. refusal.map.now ≡ v.map.now)
      pub hands_back : IfErr result (λ refusal. HandsBack (ranks of eq.eq) vacant_tests v.map.now x refusal.error)

    -- The item `x`, which a closure made, was inserted into the map of the vacant entry and is lent (`GainsAndLends`), or
    -- the error is that of the entry and returns it (`HandsBack`). The call succeeds if `x` has the key of the entry and
    -- the map is not full.
    -- Example: If `x` has another key than the entry, the error is `Insert (Key x)`.
    pub record PutsMadeIn {E : Type 0} (x : T)
        (result : Result (RefMut T S Key H of eq input build hashes) (TryEntryRefusal T E S Key H)) : Type 0 where
      pub gains_and_lends : IfOk result (GainsAndLends x)
      pub same_keys : OnOk result (first_mismatch vacant_tests x ≡ None)
      pub granted : first_mismatch vacant_tests x ≡ None → length (bag v.map.now) < v.map.now.capacity → IsOk result
      pub hands_back : IfErr result (λ refusal.
          IsInsert refusal.error (HandsBack (ranks of eq.eq) vacant_tests v.map.now x))

    -- The item that the closure made is inserted (`PutsMadeIn`), or the closure's error is returned
    -- (`FailsAsClosure`).
    -- Example: If it returned `Ok x`, and `x` has the key of the entry, then `x` is in the map unless that was full.
    abbrev pub PutsInMade : {E : Type 0} → Result T E
        → Result (RefMut T S Key H of eq input build hashes) (TryEntryRefusal T E S Key H) → Type 0
    PutsInMade (Ok x) result = PutsMadeIn x result
    PutsInMade (Err error) result = FailsAsClosure error result

  -- The entries are vacant, or they are occupied with the same key.
  abbrev pub IsSameEntry : Entry T S Q Key H of eq input build hashes q w e
      → Entry T S Q Key H of eq input build hashes q w e → Type 0
  IsSameEntry (Vacant v) (Vacant u) = ⊤
  IsSameEntry (Vacant v) (Occupied p) = ⊥
  IsSameEntry (Occupied o) (Vacant u) = ⊥
  IsSameEntry (Occupied o) (Occupied p) = p.query ≡ o.query

  -- The entries have the same map, kind and key. The capacity and the builder stay.
  -- Example: An entry that has found a has the same key once a is written.
  pub record KeepsEntry (before after : Entry T S Q Key H of eq input build hashes q w e) : Type 0 where
    pub same_map : entry_lender after ≡ entry_lender before
    pub capacity : (entry_map after).capacity ≡ (entry_map before).capacity
    pub builder : (entry_map after).builder ≡ (entry_map before).builder
    pub places : IsSameEntry before after

  -- If the entry is occupied, it has found what its key names (`HasFound`).
  -- Example: It holds for any vacant entry.
  abbrev pub IsFound : Entry T S Q Key H of eq input build hashes q w e → Type 0
  IsFound (Vacant v) = ⊤
  IsFound (Occupied o) = HasFound of q.stands_for o

module _ (T S Key H : RattleType) (of : item.Ghosts T.Denot Key.Denot) (keys : HashMembers Key.Denot)
    (build : builder.Ghosts S.Denot H.Denot) (hashes : hasher.Ghosts H.Denot) where
  abbrev whole_row : RattleType
  whole_row = map_row T S Key H of keys build hashes

  -- If the call failed, the map ends as it was. Otherwise it ends as the result leaves it, whose reference to the map
  -- has the name `lender`.
  -- Example: After an error a map of a, b ends as a, b.
  abbrev pub rests_if_err : {A E : Type 0} → (A → GName) → MutBor (Map T.Denot S.Denot) → Result A E → Fml
  rests_if_err lender m r = RestsIfErr whole_row m lender r (λ n. n ≡ m.now)

  module _ (Q : RattleType) where
    abbrev Found : Type 0
    Found = OccupiedEntry T.Denot S.Denot Q.Denot Key.Denot H.Denot

    -- `entry_row` is the type of an occupied entry in the logic. No public clause cites it.
    abbrev pub entry_row : RattleType
    entry_row = occupied_row (record { mir = named 1; lft = [] }) T S Q Key H of
        (record { eq = keys.eq }) (record { hash_input = keys.hash_input }) build hashes

    -- The entry ends with the map as the guard of its item leaves it.
    -- Example: If a becomes `put a d` through the guard, the map of the entry has `put a d`.
    abbrev pub lends_guard : MutBor Found → RefMut T.Denot S.Denot Key.Denot H.Denot of
        (record { eq = keys.eq }) (record { hash_input = keys.hash_input }) build hashes → Fml
    lends_guard m r = follows entry_row whole_row m.ghost_name (ref_lender r)
        (λ n. record m.now { map = record m.now.map { now = n } })

    module _ (D : RattleType) (put : T.Denot → D.Denot → T.Denot) where
      -- What is written through `r` is the data of the entry's item.
      -- Example: If d is written, and that item is a, the map has `put a d` in its place.
      abbrev pub lends_entry_data : MutBor Found → MutBor D.Denot → Fml
      lends_entry_data m r = Lends entry_row D m r (λ d. entry_with m.now (λ x. put x d))
