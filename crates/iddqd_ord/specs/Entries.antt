-- What contracts say of entries. In the examples an item is a number, which is its key.
use Rattle.std.specs.Prelude.{◌≡◌, ◌<◌, ℕ, Bool, true, [], length, Option, Some, None, slice_get, slice_set, ⊤, Result, Ok, Err, IsOk, IfOk, IfErr, OnOk}
use Rattle.std.specs.Borrow.{Fml, GName, Lends, RattleType, MutBor, RestsIfErr, follows}
use Rattle.std.specs.BTreeMap.Lent.{OrdMembers}
use Rattle.std.specs.declared.cmp.Ord as ord
use Rattle.std.specs.declared.cmp.PartialEq as equal
use Rattle.std.specs.declared.cmp.PartialOrd as partial
use mir.Syntax.{named}
use Rattle.iddqd_ord.specs.Items.{OrdMap, items, has, Gains}
use Rattle.iddqd_ord.specs.Mismatch.{HandsBack}
use Rattle.iddqd_ord.specs.Lent.{map_row}
use Rattle.iddqd_ord.specs.Writing.{map_with}
use Rattle.iddqd_ord.specs.RefMuts.{ref_item, ref_lender, ref_map}
use Rattle.iddqd_order.specs.Row.{position, HasEntry}
use Rattle.iddqd_ord.specs.declared.item.IdOrdItem as item
use Rattle.iddqd_ord.specs.declared.query.OrdQuery as query
use Rattle.iddqd_ord.specs.declared.entry.Entry.{Entry}
use Rattle.iddqd_ord.specs.declared.entry.Entry.TheVariants.{Vacant, Occupied}
use Rattle.iddqd_ord.specs.declared.entry.VacantEntry.{VacantEntry}
use Rattle.iddqd_ord.specs.declared.entry.OccupiedEntry.{OccupiedEntry}
use Rattle.iddqd_ord.specs.declared.error.EntryRefusal.{EntryRefusal}
use Rattle.iddqd_ord.specs.declared.error.EntryError.{EntryError}
use Rattle.iddqd_ord.specs.declared.entry.try_error.TryEntryError.{TryEntryError}
use Rattle.iddqd_ord.specs.declared.entry.try_error.TryEntryError.TheVariants.{Closure, Insert}
use Rattle.iddqd_ord.specs.declared.entry.try_error.TryEntryRefusal.{TryEntryRefusal}
use Rattle.iddqd_ord.specs.declared.ref_mut.RefMut.{RefMut}
use Rattle.iddqd_ord.specs.contracts.entry.OccupiedEntry.{the_row as occupied_row}
use Rattle.iddqd_ord.specs.contracts.map.IdOrdMap.{the_row as ord_row}

-- The error is that of the entry, and `P` holds for that error.
-- Example: It does not hold for `Closure e`.
abbrev pub IsInsert : {T E : Type 0} → TryEntryError (EntryError T) E → (EntryError T → Type 0) → Type 0
IsInsert (Closure e) P = ⊥
IsInsert (Insert error) P = P error

-- The call failed because the closure failed, and returns the closure's error.
-- Example: If the closure returned `Err e`, the error is `Closure e`.
abbrev pub FailsAsClosure : {T Key E M : Type 0} → E → Result M (TryEntryRefusal T E Key) → Type 0
FailsAsClosure error (Ok m) = ⊥
FailsAsClosure error (Err refusal) = refusal.error ≡ Closure error

module _ {T Key : Type 0} where
  -- The entry has an item. The calls that make an entry ensure it.
  abbrev pub HasItem : OccupiedEntry T Key → Type 0
  HasItem o = HasEntry o.map.now.blocks o.place

  -- `found_index` is the index of the entry's item in the list of the items.
  -- Example: In a map of 3, 5 it is 1 for the entry of 5.
  abbrev pub found_index : OccupiedEntry T Key → ℕ
  found_index o = position o.map.now.blocks o.place

  -- `found_item` is the item of the entry.
  -- Example: If its key names 5, it is `Some 5`.
  abbrev pub found_item : OccupiedEntry T Key → Option T
  found_item o = slice_get (items o.map.now) (position o.map.now.blocks o.place)

  -- `entry_with` is the entry, where `f` of its item has replaced the item in the map.
  -- Example: If that item is 5, the map has `f 5` in its place.
  abbrev pub entry_with : OccupiedEntry T Key → (T → T) → OccupiedEntry T Key
  entry_with o f = record o { map = record o.map { now = map_with o.map.now o.place f } }

  -- The item `x` is in the same map in the place of the entry's item, and the entry has it. Nothing else changes.
  -- Example: In a map of 3, 5, where the entry has 5, the map becomes 3, `x`, and the entry has `x`.
  pub record PutsOver (before : OccupiedEntry T Key) (x : T) (after : OccupiedEntry T Key) : Type 0 where
    pub same_map : after.map.ghost_name ≡ before.map.ghost_name
    pub lists : items after.map.now ≡ slice_set (items before.map.now) (found_index before) x
    pub item : found_item after ≡ Some x
    pub same_index : found_index after ≡ found_index before
    pub has_item : HasItem after
    pub capacity : after.map.now.capacity ≡ before.map.now.capacity

module _ {T Key : Type 0} {of : item.Ghosts T Key} {order : ord.Ghosts Key} {eq : equal.Ghosts Key} {some_order : partial.Ghosts Key} where
  -- The call succeeds and changes nothing, and the guard that it returns is that of the entry's item.
  -- Example: If the entry has 5, the guard is one of 5.
  pub record KeepsFound (o : OccupiedEntry T Key) {E : Type 0} (result : Result (RefMut T Key of order eq some_order) E) : Type 0 where
    pub granted : IsOk result
    pub unchanged : IfOk result (λ r. ref_map r ≡ o.map.now)
    pub item : IfOk result (λ r. ref_item r ≡ found_item o)

module _ {T Q Key : Type 0} {of : item.Ghosts T Key} {order : ord.Ghosts Key} {eq : equal.Ghosts Key} {some_order : partial.Ghosts Key}
    {q : query.Ghosts Q Key} where
  module _ (v : VacantEntry T Q Key of order eq some_order q) where
    -- `vacant_test` tells whether an item has the key of the vacant entry.
    -- Example: No item of the map passes it.
    abbrev pub vacant_test : T → Bool
    vacant_test = has of q.compare v.query

    -- The item `x` was inserted into this very map (`Gains`), and the guard `r` borrows it.
    -- Example: A map of 3, 7 becomes 3, 5, 7, and `ref_item r` is `Some 5`.
    pub record GainsAndLends (x : T) (r : RefMut T Key of order eq some_order) : Type 0 where
      pub same_map : ref_lender r ≡ v.map.ghost_name
      pub item : ref_item r ≡ Some x
      pub gains : Gains of order.cmp v.map.now x (ref_map r)

    -- The item `x` was inserted into this very map (`Gains`), and the occupied entry `o` has it.
    -- Example: A map of 3, 7 becomes 3, 5, 7, and `found_item o` is `Some 5`.
    pub record GainsAndFinds (x : T) (o : OccupiedEntry T Key) : Type 0 where
      pub same_map : o.map.ghost_name ≡ v.map.ghost_name
      pub item : found_item o ≡ Some x
      pub has_item : HasItem o
      pub gains : Gains of order.cmp v.map.now x o.map.now

    -- The item `x` was inserted into the map of the vacant entry and is lent (`GainsAndLends`), or the error returns it
    -- (`HandsBack`) and the map is as it was. The call succeeds if `x` has the key of the entry and the map is not full.
    -- Example: If `x` has another key than the entry, the error is `Key x`.
    pub record PutsIn (x : T) (result : Result (RefMut T Key of order eq some_order) (EntryRefusal T Key)) : Type 0 where
      pub gains_and_lends : IfOk result (GainsAndLends x)
      pub same_key : OnOk result (vacant_test x ≡ true)
      pub granted : vacant_test x ≡ true → length (items v.map.now) < v.map.now.capacity → IsOk result
      pub unchanged : IfErr result (λ refusal. refusal.map.now ≡ v.map.now)
      pub hands_back : IfErr result (λ refusal. HandsBack of order.cmp vacant_test v.map.now x refusal.error)

    -- The item `x`, which a closure made, was inserted into the map of the vacant entry and is lent (`GainsAndLends`), or the
    -- error is that of the entry and returns it (`HandsBack`). The call succeeds if `x` has the key of the entry and the map
    -- is not full.
    -- Example: If `x` has another key than the entry, the error is `Insert (Key x)`.
    pub record PutsMadeIn {E : Type 0} (x : T) (result : Result (RefMut T Key of order eq some_order) (TryEntryRefusal T E Key)) : Type 0 where
      pub gains_and_lends : IfOk result (GainsAndLends x)
      pub same_key : OnOk result (vacant_test x ≡ true)
      pub granted : vacant_test x ≡ true → length (items v.map.now) < v.map.now.capacity → IsOk result
      pub hands_back : IfErr result (λ refusal. IsInsert refusal.error (HandsBack of order.cmp vacant_test v.map.now x))

    -- The item that the closure made is inserted (`PutsMadeIn`), or the closure's error is returned (`FailsAsClosure`).
    -- Example: If it returned `Ok x`, and `x` has the key of the entry, then `x` is in the map unless that was full.
    abbrev pub PutsInMade : {E : Type 0} → Result T E → Result (RefMut T Key of order eq some_order) (TryEntryRefusal T E Key) → Type 0
    PutsInMade (Ok x) result = PutsMadeIn x result
    PutsInMade (Err error) result = FailsAsClosure error result

  -- `entry_lender` is the name of the entry's reference to the map.
  abbrev pub entry_lender : Entry T Q Key of order eq some_order q → GName
  entry_lender (Vacant v) = v.map.ghost_name
  entry_lender (Occupied o) = o.map.ghost_name

  -- `entry_map` is the map of the entry.
  abbrev pub entry_map : Entry T Q Key of order eq some_order q → OrdMap T
  entry_map (Vacant v) = v.map.now
  entry_map (Occupied o) = o.map.now

  -- `entry_item` is the item that the entry has found, if there is one.
  -- Example: It is `None` for a vacant entry, and `Some 5` for an occupied one whose key names 5.
  abbrev pub entry_item : Entry T Q Key of order eq some_order q → Option T
  entry_item (Vacant v) = None
  entry_item (Occupied o) = found_item o

  -- If the entry is vacant, then `P` holds for it.
  -- Example: The word holds for any occupied entry.
  abbrev pub OnVacant : Entry T Q Key of order eq some_order q → (VacantEntry T Q Key of order eq some_order q → Type 0) → Type 0
  OnVacant (Vacant v) P = P v
  OnVacant (Occupied o) P = ⊤

  -- The entry is occupied.
  -- Example: It holds for an entry of 5.
  abbrev pub IsOccupied : Entry T Q Key of order eq some_order q → Type 0
  IsOccupied (Vacant v) = ⊥
  IsOccupied (Occupied o) = ⊤

  -- If the entry is occupied, then `P` holds for it.
  -- Example: The word holds for any vacant entry.
  abbrev pub OnOccupied : Entry T Q Key of order eq some_order q → (OccupiedEntry T Key → Type 0) → Type 0
  OnOccupied (Vacant v) P = ⊤
  OnOccupied (Occupied o) P = P o

  -- If the entry is occupied, it has an item (`HasItem`).
  -- Example: It holds for any vacant entry.
  abbrev pub IsFound : Entry T Q Key of order eq some_order q → Type 0
  IsFound (Vacant v) = ⊤
  IsFound (Occupied o) = HasItem o

module _ (T Key : RattleType) (of : item.Ghosts T.Denot Key.Denot) (keys : OrdMembers Key.Denot) where
  -- `entry_row` is the type of an occupied entry in the logic. No public clause cites it.
  abbrev pub entry_row : RattleType
  entry_row = occupied_row (record { mir = named 1; lft = [] }) T Key of (record { cmp = keys.cmp }) (record { eq = keys.eq }) (record { partial_cmp = keys.partial_cmp })

  -- The entry ends with the map as the guard of its item leaves it.
  -- Example: If 5 is replaced through the guard, the map of the entry has the new item.
  abbrev pub lends_guard : MutBor (OccupiedEntry T.Denot Key.Denot) → RefMut T.Denot Key.Denot of (record { cmp = keys.cmp }) (record { eq = keys.eq }) (record { partial_cmp = keys.partial_cmp }) → Fml
  lends_guard m r = follows entry_row (map_row T Key of keys) m.ghost_name (ref_lender r) (λ n. record m.now { map = record m.now.map { now = n } })

  module _ (D : RattleType) (put : T.Denot → D.Denot → T.Denot) where
    -- What is written through `r` is the data of the entry's item.
    -- Example: If d is written, and that item is a, the map has `put a d` in its place.
    abbrev pub lends_entry_data : MutBor (OccupiedEntry T.Denot Key.Denot) → MutBor D.Denot → Fml
    lends_entry_data m r = Lends entry_row D m r (λ d. entry_with m.now (λ x. put x d))

module _ (T Key : RattleType) {of : item.Ghosts T.Denot Key.Denot} {order : ord.Ghosts Key.Denot} {eq : equal.Ghosts Key.Denot} {some_order : partial.Ghosts Key.Denot} where
  -- If the call failed, the map ends as it was. Otherwise it ends as the guard leaves it.
  -- Example: After an error a map of 3, 5 ends as 3, 5.
  abbrev pub rests_if_err : {E : Type 0} → MutBor (OrdMap T.Denot) → Result (RefMut T.Denot Key.Denot of order eq some_order) E → Fml
  rests_if_err m r = RestsIfErr (ord_row T Key of order eq some_order) m ref_lender r (λ n. n ≡ m.now)
