-- Made by tests/widths from crates/iddqd_bi/specs/Entries.antt: change that file.

-- What contracts say of entries.
use Rattle.std.specs.Prelude.{◌≡◌, ◌≢◌, ◌<◌, ℕ, length, Bool, [], ◌∷◌, List, Option, Some, None, ⊤}
use Rattle.std.specs.Prelude.{IsPermutation, Result, Ok, Err, IsOk, IfOk, IfErr, OnOk}
use Rattle.std.specs.Option.{option_and_then, IfSome}
use Rattle.std.specs.Borrow.{Fml, GName, RattleType, MutBor, LendsIf, RestsIfErr, follows}
use Rattle.std.specs.HashMap.Lent.{HashMembers}
use Rattle.std.specs.declared.cmp.PartialEq as equal
use Rattle.std.specs.declared.hash.Hash as hash
use Rattle.std.specs.declared.hash.Hasher as hasher
use Rattle.std.specs.declared.hash.BuildHasher as builder
use mir.Syntax.{named}
use Rattle.iddqd_store.specs.Bag.{IsOnly, Ranks, first_mismatch, entry, listing, with_item, unique, vacant}
use Rattle.iddqd_store.specs.Bag as bags
use Rattle.iddqd_store.specs.Map.{Map, bag, Gains}
use Rattle.iddqd_store.specs.Map.Written.{map_with_if}
use Rattle.iddqd_store.specs.Slots.{get, IsLive}
use Rattle.iddqd_store.specs.Slots.Found.{AreFound, entry_at, found_by_all, held_at}
use Rattle.iddqd_tri.specs.Keys.{has1, has2, has3, key_tests, ranks}
use Rattle.iddqd_tri.specs.Mismatch.{HandsBack, IsInsert}
use Rattle.iddqd_tri.specs.InsertErrors.{map_row}
use Rattle.iddqd_tri.specs.RefMuts.{ref_item, ref_lender, ref_map}
use Rattle.iddqd_tri.specs.declared.item.TriHashItem as item
use Rattle.iddqd_store.specs.declared.query.Query as query
use Rattle.iddqd_tri.specs.declared.entry.Entry.{Entry}
use Rattle.iddqd_tri.specs.declared.entry.Entry.TheVariants.{Vacant, Occupied}
use Rattle.iddqd_tri.specs.declared.entry.VacantEntry.{VacantEntry}
use Rattle.iddqd_tri.specs.declared.entry.OccupiedEntry.{OccupiedEntry}
use Rattle.iddqd_tri.specs.declared.entry.OccupiedEntryMut.{OccupiedEntryMut}
use Rattle.iddqd_tri.specs.declared.error.EntryRefusal.{EntryRefusal}
use Rattle.iddqd_tri.specs.declared.error.TryEntryError.TheVariants.{Closure}
use Rattle.iddqd_tri.specs.declared.error.TryEntryRefusal.{TryEntryRefusal}
use Rattle.iddqd_tri.specs.declared.ref_mut.RefMut.{RefMut}
use Rattle.iddqd_tri.specs.contracts.entry.OccupiedEntry.{the_row as occupied_row}
use Rattle.iddqd_tri.specs.contracts.entry.OccupiedEntryMut.{the_row as occupied_mut_row}

module _ {T S : Type 0} where
  -- The second reference is to the same map as the first, and the map is as it was.
  -- Example: If the map has a, b, it has a, b then.
  pub record IsSameMap (before after : MutBor (Map T S)) : Type 0 where
    pub same_map : after.ghost_name ≡ before.ghost_name
    pub unchanged : after.now ≡ before.now

module _ {T S Q1 Q2 Q3 K1 K2 K3 H : Type 0} where
  -- `entry_tests` has for each rank the test whether an item has the key of the occupied entry.
  -- Example: An item that has every key of the entry passes every test.
  abbrev pub entry_tests : (Q1 → Q2 → Q3 → List (T → Bool)) → OccupiedEntry T S Q1 Q2 Q3 K1 K2 K3 H → List (T → Bool)
  entry_tests tests o = tests o.query1 o.query2 o.query3

  abbrev entry_slots : OccupiedEntry T S Q1 Q2 Q3 K1 K2 K3 H → List (Option ℕ)
  entry_slots o = o.slot1 ∷ o.slot2 ∷ o.slot3 ∷ []

  -- The occupied entry has found what its keys name, which is at least one item. The call `entry` of a map ensures
  -- it.
  -- Example: If its keys name a and b, it has found a and b.
  pub record HasFound (tests : Q1 → Q2 → Q3 → List (T → Bool)) (o : OccupiedEntry T S Q1 Q2 Q3 K1 K2 K3 H) : Type 0 where
    pub found : AreFound (entry_tests tests o) o.map.now.slots (entry_slots o)
    pub value : entry_at o.map.now.slots (entry_slots o) ≡ entry (entry_tests tests o) (bag o.map.now)
    pub listed : held_at o.map.now.slots (entry_slots o) ≡ listing (entry_tests tests o) (bag o.map.now)
    pub some : listing (entry_tests tests o) (bag o.map.now) ≢ []

  -- The occupied entries have the same keys, and the same slots of the map.
  -- Example: It holds for an entry that has found a and b, before and after new data are written to a.
  pub record FindsSame (o p : OccupiedEntry T S Q1 Q2 Q3 K1 K2 K3 H) : Type 0 where
    pub query1 : p.query1 ≡ o.query1
    pub query2 : p.query2 ≡ o.query2
    pub query3 : p.query3 ≡ o.query3
    pub same1 : p.slot1 ≡ o.slot1
    pub same2 : p.slot2 ≡ o.slot2
    pub same3 : p.slot3 ≡ o.slot3

  -- The item is in the same map in the place of those that conflict with it, and the entry, with the same keys, finds
  -- it alone. Nothing else changes.
  -- Example: In a map of a, b, c, where `item` conflicts with a and b, the map becomes `item`, c, and the entry has
  -- found `unique item`.
  pub record PutsOver (ranks : Ranks T) (tests : Q1 → Q2 → Q3 → List (T → Bool))
      (before : OccupiedEntry T S Q1 Q2 Q3 K1 K2 K3 H) (item : T) (after : OccupiedEntry T S Q1 Q2 Q3 K1 K2 K3 H) : Type 0 where
    pub same_map : after.map.ghost_name ≡ before.map.ghost_name
    pub items : IsPermutation (bag after.map.now) (with_item ranks (bag before.map.now) item)
    pub has_found : HasFound tests after
    pub unique : entry (entry_tests tests after) (bag after.map.now) ≡ unique item
    pub keys : (after.query1 ≡ before.query1) × (after.query2 ≡ before.query2) × (after.query3 ≡ before.query3)
    pub capacity : after.map.now.capacity ≡ before.map.now.capacity
    pub builder : after.map.now.builder ≡ before.map.now.builder

module _ {T S K1 K2 K3 H : Type 0} where
  -- The items that are held for writing are in the map. The call `into_mut` of an occupied entry ensures it.
  -- Example: If a and b are held, the map has a and b.
  pub record Holds (m : OccupiedEntryMut T S K1 K2 K3 H) : Type 0 where
    pub live1 : IfSome m.slot1 (IsLive m.map.now.slots)
    pub live2 : IfSome m.slot2 (IsLive m.map.now.slots)
    pub live3 : IfSome m.slot3 (IsLive m.map.now.slots)

  -- The items of the same slots are held.
  -- Example: It holds for what is held, before and after new data are written to it.
  pub record HoldsSame (m n : OccupiedEntryMut T S K1 K2 K3 H) : Type 0 where
    pub same1 : n.slot1 ≡ m.slot1
    pub same2 : n.slot2 ≡ m.slot2
    pub same3 : n.slot3 ≡ m.slot3

  -- The call failed because the closure failed, and returns the closure's error.
  -- Example: If the closure returned `Err e`, the error is `Closure e`.
  abbrev pub FailsAsClosure : {E M : Type 0} → E → Result M (TryEntryRefusal T E S K1 K2 K3 H) → Type 0
  FailsAsClosure error (Ok m) = ⊥
  FailsAsClosure error (Err refusal) = refusal.error ≡ Closure error

  abbrev held_slots : OccupiedEntryMut T S K1 K2 K3 H → List (Option ℕ)
  held_slots m = m.slot1 ∷ m.slot2 ∷ m.slot3 ∷ []

  -- `held_items` lists the items that are held for writing, each once.
  -- Example: If every key names a, it is a.
  abbrev pub held_items : OccupiedEntryMut T S K1 K2 K3 H → List T
  held_items m = held_at m.map.now.slots (held_slots m)

  -- `held_entry` is what is held for writing, as an `Entry`.
  -- Example: If every key names a, it is `unique a`.
  abbrev pub held_entry : OccupiedEntryMut T S K1 K2 K3 H → bags.Entry T
  held_entry m = entry_at m.map.now.slots (held_slots m)

  -- `held_item1` is the item that is held for the first key, if there is one.
  -- Example: If every key names a, it is `Some a`.
  abbrev pub held_item1 : OccupiedEntryMut T S K1 K2 K3 H → Option T
  held_item1 m = option_and_then (get m.map.now.slots) m.slot1

  abbrev pub held_item2 : OccupiedEntryMut T S K1 K2 K3 H → Option T
  held_item2 m = option_and_then (get m.map.now.slots) m.slot2

  abbrev pub held_item3 : OccupiedEntryMut T S K1 K2 K3 H → Option T
  held_item3 m = option_and_then (get m.map.now.slots) m.slot3

  -- `unique_slot` is the slot of the item that has all keys, if there is one.
  -- Example: If every key names a, in the slot 2, it is `Some 2`.
  abbrev pub unique_slot : OccupiedEntryMut T S K1 K2 K3 H → Option ℕ
  unique_slot m = found_by_all (held_slots m)

  -- `held_unique` is the item that has all keys, if there is one.
  -- Example: If every key names a, it is `Some a`.
  abbrev pub held_unique : OccupiedEntryMut T S K1 K2 K3 H → Option T
  held_unique m = option_and_then (get m.map.now.slots) (unique_slot m)

  -- `held_with` is what is held, where `f` of the item of this slot, if there is one, has replaced it in the map.
  -- Example: If that item is a, the map has `f a` in its place.
  abbrev pub held_with : OccupiedEntryMut T S K1 K2 K3 H → Option ℕ → (T → T) → OccupiedEntryMut T S K1 K2 K3 H
  held_with m slot f = record m { map = record m.map { now = map_with_if m.map.now slot f } }

module _ {T S Q1 Q2 Q3 K1 K2 K3 H : Type 0} where
  module _ (of : item.Ghosts T K1 K2 K3) (stands1 : Q1 → K1 → Bool) (stands2 : Q2 → K2 → Bool) (stands3 : Q3 → K3 → Bool)
      (o : OccupiedEntry T S Q1 Q2 Q3 K1 K2 K3 H) where
    -- What is held for writing is what the entry found.
    -- Example: If the entry has found a and b, then a and b are held.
    pub record HoldsFound (m : OccupiedEntryMut T S K1 K2 K3 H) : Type 0 where
      pub holds : Holds m
      pub listed : held_items m ≡ listing (entry_tests (key_tests of stands1 stands2 stands3) o) (bag o.map.now)
      pub value : held_entry m ≡ entry (entry_tests (key_tests of stands1 stands2 stands3) o) (bag o.map.now)
      pub by_key1 : IsOnly (has1 of stands1 o.query1) (bag o.map.now) (held_item1 m)
      pub by_key2 : IsOnly (has2 of stands2 o.query2) (bag o.map.now) (held_item2 m)
      pub by_key3 : IsOnly (has3 of stands3 o.query3) (bag o.map.now) (held_item3 m)

    -- The call succeeds and changes nothing, and if the entry has found what its keys name, then that is held for
    -- writing.
    -- Example: If the entry has found a and b, then a and b are held.
    pub record KeepsFound {E : Type 0} (result : Result (OccupiedEntryMut T S K1 K2 K3 H) E) : Type 0 where
      pub granted : IsOk result
      pub unchanged : IfOk result (λ m. m.map.now ≡ o.map.now)
      pub holds : HasFound (key_tests of stands1 stands2 stands3) o → IfOk result HoldsFound

  -- `entry_with` is the entry, where `f` of the item of this slot, if there is one, has replaced it in the map.
  -- Example: If that item is a, the map has `f a` in its place.
  abbrev pub entry_with : OccupiedEntry T S Q1 Q2 Q3 K1 K2 K3 H → Option ℕ → (T → T) → OccupiedEntry T S Q1 Q2 Q3 K1 K2 K3 H
  entry_with o slot f = record o { map = record o.map { now = map_with_if o.map.now slot f } }

module _ {T S K1 K2 K3 H : Type 0} {of : item.Ghosts T K1 K2 K3}
    {eq1 : equal.Ghosts K1} {input1 : hash.Ghosts K1}
    {eq2 : equal.Ghosts K2} {input2 : hash.Ghosts K2}
    {eq3 : equal.Ghosts K3} {input3 : hash.Ghosts K3}
    {build : builder.Ghosts S H} {hashes : hasher.Ghosts H} where
  module _ {Q1 Q2 Q3 : Type 0} {q1 : query.Ghosts Q1 K1} {e1 : equal.Ghosts Q1} {w1 : hash.Ghosts Q1}
      {q2 : query.Ghosts Q2 K2} {e2 : equal.Ghosts Q2} {w2 : hash.Ghosts Q2}
      {q3 : query.Ghosts Q3 K3} {e3 : equal.Ghosts Q3} {w3 : hash.Ghosts Q3} where
    -- `entry_lender` is the name of the entry's reference to the map.
    -- Example: For what `map.entry(..)` returned it is the name of the reference `map`.
    abbrev pub entry_lender : Entry T S Q1 Q2 Q3 K1 K2 K3 H of eq1 input1 eq2 input2 eq3 input3 build hashes q1 w1 e1 q2 w2 e2 q3 w3 e3 → GName
    entry_lender (Vacant e) = e.map.ghost_name
    entry_lender (Occupied e) = e.map.ghost_name

    -- `entry_map` is the map of the entry.
    -- Example: For an entry of a map of a, b it has a, b.
    abbrev pub entry_map : Entry T S Q1 Q2 Q3 K1 K2 K3 H of eq1 input1 eq2 input2 eq3 input3 build hashes q1 w1 e1 q2 w2 e2 q3 w3 e3 → Map T S
    entry_map (Vacant e) = e.map.now
    entry_map (Occupied e) = e.map.now

    -- `entry_key1` is the entry's query for the first key.
    -- Example: For what `map.entry(query1, query2, query3)` returned it is `query1`.
    abbrev pub entry_key1 : Entry T S Q1 Q2 Q3 K1 K2 K3 H of eq1 input1 eq2 input2 eq3 input3 build hashes q1 w1 e1 q2 w2 e2 q3 w3 e3 → Q1
    entry_key1 (Vacant e) = e.query1
    entry_key1 (Occupied e) = e.query1

    abbrev pub entry_key2 : Entry T S Q1 Q2 Q3 K1 K2 K3 H of eq1 input1 eq2 input2 eq3 input3 build hashes q1 w1 e1 q2 w2 e2 q3 w3 e3 → Q2
    entry_key2 (Vacant e) = e.query2
    entry_key2 (Occupied e) = e.query2

    abbrev pub entry_key3 : Entry T S Q1 Q2 Q3 K1 K2 K3 H of eq1 input1 eq2 input2 eq3 input3 build hashes q1 w1 e1 q2 w2 e2 q3 w3 e3 → Q3
    entry_key3 (Vacant e) = e.query3
    entry_key3 (Occupied e) = e.query3

    -- The entry has these queries for its keys.
    -- Example: It holds for what `map.entry(k1, k2, k3)` returned.
    pub record HasKeys (e : Entry T S Q1 Q2 Q3 K1 K2 K3 H of eq1 input1 eq2 input2 eq3 input3 build hashes q1 w1 e1 q2 w2 e2 q3 w3 e3)
        (k1 : Q1) (k2 : Q2) (k3 : Q3) : Type 0 where
      pub key1 : entry_key1 e ≡ k1
      pub key2 : entry_key2 e ≡ k2
      pub key3 : entry_key3 e ≡ k3

    -- `entry_value` is what the entry has found.
    -- Example: It is `vacant` for a vacant entry, and `unique a` for an occupied one all of whose keys name a.
    abbrev pub entry_value : Entry T S Q1 Q2 Q3 K1 K2 K3 H of eq1 input1 eq2 input2 eq3 input3 build hashes q1 w1 e1 q2 w2 e2 q3 w3 e3 → bags.Entry T
    entry_value (Vacant e) = vacant
    entry_value (Occupied e) = entry_at e.map.now.slots (entry_slots e)

    -- If the entry is vacant, then `P` holds for it.
    -- Example: The word holds for any occupied entry.
    abbrev pub OnVacant : Entry T S Q1 Q2 Q3 K1 K2 K3 H of eq1 input1 eq2 input2 eq3 input3 build hashes q1 w1 e1 q2 w2 e2 q3 w3 e3
        → (VacantEntry T S Q1 Q2 Q3 K1 K2 K3 H of eq1 input1 eq2 input2 eq3 input3 build hashes q1 w1 e1 q2 w2 e2 q3 w3 e3 → Type 0) → Type 0
    OnVacant (Vacant e) P = P e
    OnVacant (Occupied e) P = ⊤

    -- If the entry is occupied, then `P` holds for it.
    -- Example: The word holds for any vacant entry.
    abbrev pub OnOccupied : Entry T S Q1 Q2 Q3 K1 K2 K3 H of eq1 input1 eq2 input2 eq3 input3 build hashes q1 w1 e1 q2 w2 e2 q3 w3 e3
        → (OccupiedEntry T S Q1 Q2 Q3 K1 K2 K3 H → Type 0) → Type 0
    OnOccupied (Vacant e) P = ⊤
    OnOccupied (Occupied e) P = P e

    module _ (e : VacantEntry T S Q1 Q2 Q3 K1 K2 K3 H of eq1 input1 eq2 input2 eq3 input3 build hashes q1 w1 e1 q2 w2 e2 q3 w3 e3) where
      -- `vacant_tests` has for each rank the test whether an item has the key of the vacant entry.
      -- Example: No item of the map passes one of them.
      abbrev pub vacant_tests : List (T → Bool)
      vacant_tests = key_tests of q1.stands_for q2.stands_for q3.stands_for e.query1 e.query2 e.query3

      -- The item `x` was inserted into this very map (`Gains`), and the guard `r` borrows it.
      -- Example: A map of a, b becomes `x`, a, b, and `ref_item r` is `Some x`.
      pub record GainsAndLends (x : T)
          (r : RefMut T S K1 K2 K3 H of eq1 input1 eq2 input2 eq3 input3 build hashes) : Type 0 where
        pub same_map : ref_lender r ≡ e.map.ghost_name
        pub item : ref_item r ≡ Some x
        pub gains : Gains 1 e.map.now x (ref_map r)

      -- The item `x` was inserted into this very map (`Gains`), and is held for writing, by each of its keys.
      -- Example: A map of a, b becomes `x`, a, b, and `held_items` is `x`.
      pub record GainsAndHolds (x : T) (m : OccupiedEntryMut T S K1 K2 K3 H) : Type 0 where
        pub same_map : m.map.ghost_name ≡ e.map.ghost_name
        pub gains : Gains 1 e.map.now x m.map.now
        pub holds : Holds m
        pub held : held_items m ≡ x ∷ []
        pub unique : held_entry m ≡ unique x
        pub unique_held : held_unique m ≡ Some x
        pub by_key1 : held_item1 m ≡ Some x
        pub by_key2 : held_item2 m ≡ Some x
        pub by_key3 : held_item3 m ≡ Some x

      -- The item `x` was inserted into the map of the vacant entry and is held for writing (`GainsAndHolds`), or the
      -- error returns it (`HandsBack`) and the map is as it was. The call succeeds if `x` has the keys of the entry and
      -- the map is not full.
      -- Example: If `x` has another first key than the entry, the error is `Key1 x`.
      pub record PutsIn (x : T)
          (result : Result (OccupiedEntryMut T S K1 K2 K3 H) (EntryRefusal T S K1 K2 K3 H)) : Type 0 where
        pub gains_and_holds : IfOk result (GainsAndHolds x)
        pub same_keys : OnOk result (first_mismatch vacant_tests x ≡ None)
        pub granted : first_mismatch vacant_tests x ≡ None → length (bag e.map.now) < e.map.now.capacity → IsOk result
        pub unchanged : IfErr result (λ refusal. refusal.map.now ≡ e.map.now)
        pub hands_back : IfErr result (λ refusal.
            HandsBack (ranks of eq1.eq eq2.eq eq3.eq) vacant_tests e.map.now x refusal.error)

      -- The item `x`, which a closure made, was inserted into the map of the vacant entry and is held for writing
      -- (`GainsAndHolds`), or the error is that of the entry and returns it (`HandsBack`). The call succeeds if `x` has
      -- the keys of the entry and the map is not full.
      -- Example: If `x` has another first key than the entry, the error is `Insert (Key1 x)`.
      pub record PutsMadeIn {E : Type 0} (x : T)
          (result : Result (OccupiedEntryMut T S K1 K2 K3 H) (TryEntryRefusal T E S K1 K2 K3 H)) : Type 0 where
        pub gains_and_holds : IfOk result (GainsAndHolds x)
        pub same_keys : OnOk result (first_mismatch vacant_tests x ≡ None)
        pub granted : first_mismatch vacant_tests x ≡ None → length (bag e.map.now) < e.map.now.capacity → IsOk result
        pub hands_back : IfErr result (λ refusal.
            IsInsert refusal.error (HandsBack (ranks of eq1.eq eq2.eq eq3.eq) vacant_tests e.map.now x))

      -- The item that the closure made is inserted (`PutsMadeIn`), or the closure's error is returned
      -- (`FailsAsClosure`).
      -- Example: If it returned `Ok x`, and `x` has the keys of the entry, then `x` is in the map unless that was full.
      abbrev pub PutsInMade : {E : Type 0} → Result T E
          → Result (OccupiedEntryMut T S K1 K2 K3 H) (TryEntryRefusal T E S K1 K2 K3 H) → Type 0
      PutsInMade (Ok x) result = PutsMadeIn x result
      PutsInMade (Err error) result = FailsAsClosure error result

    -- The entries are vacant, or they are occupied with the same keys and slots.
    abbrev pub IsSameEntry : Entry T S Q1 Q2 Q3 K1 K2 K3 H of eq1 input1 eq2 input2 eq3 input3 build hashes q1 w1 e1 q2 w2 e2 q3 w3 e3
        → Entry T S Q1 Q2 Q3 K1 K2 K3 H of eq1 input1 eq2 input2 eq3 input3 build hashes q1 w1 e1 q2 w2 e2 q3 w3 e3 → Type 0
    IsSameEntry (Vacant e) (Vacant f) = ⊤
    IsSameEntry (Vacant e) (Occupied p) = ⊥
    IsSameEntry (Occupied o) (Vacant f) = ⊥
    IsSameEntry (Occupied o) (Occupied p) = FindsSame o p

    -- The entries have the same map, kind, keys and slots. The capacity and the builder stay.
    -- Example: An entry that has found a still finds its slot once a is written.
    pub record KeepsEntry
        (before after : Entry T S Q1 Q2 Q3 K1 K2 K3 H of eq1 input1 eq2 input2 eq3 input3 build hashes q1 w1 e1 q2 w2 e2 q3 w3 e3) : Type 0 where
      pub same_map : entry_lender after ≡ entry_lender before
      pub capacity : (entry_map after).capacity ≡ (entry_map before).capacity
      pub builder : (entry_map after).builder ≡ (entry_map before).builder
      pub places : IsSameEntry before after

    -- If the entry is occupied, it has found what its keys name (`HasFound`).
    -- Example: It holds for any vacant entry.
    abbrev pub IsFound : Entry T S Q1 Q2 Q3 K1 K2 K3 H of eq1 input1 eq2 input2 eq3 input3 build hashes q1 w1 e1 q2 w2 e2 q3 w3 e3 → Type 0
    IsFound (Vacant e) = ⊤
    IsFound (Occupied e) = HasFound (key_tests of q1.stands_for q2.stands_for q3.stands_for) e

    -- The item `x` was inserted into this very map (`Gains`), and the occupied entry, with the keys of the vacant one,
    -- finds it alone.
    -- Example: A map of a, b becomes `x`, a, b, and the entry has found `unique x`.
    pub record GainsAndFinds
        (e : VacantEntry T S Q1 Q2 Q3 K1 K2 K3 H of eq1 input1 eq2 input2 eq3 input3 build hashes q1 w1 e1 q2 w2 e2 q3 w3 e3)
        (x : T) (o : OccupiedEntry T S Q1 Q2 Q3 K1 K2 K3 H) : Type 0 where
      pub same_map : o.map.ghost_name ≡ e.map.ghost_name
      pub gains : Gains 1 e.map.now x o.map.now
      pub keys : (o.query1 ≡ e.query1) × (o.query2 ≡ e.query2) × (o.query3 ≡ e.query3)
      pub has_found : HasFound (key_tests of q1.stands_for q2.stands_for q3.stands_for) o
      pub unique : entry (vacant_tests e) (bag o.map.now) ≡ unique x

module _ (T S K1 K2 K3 H : RattleType) (of : item.Ghosts T.Denot K1.Denot K2.Denot K3.Denot)
    (keys1 : HashMembers K1.Denot) (keys2 : HashMembers K2.Denot) (keys3 : HashMembers K3.Denot)
    (build : builder.Ghosts S.Denot H.Denot) (hashes : hasher.Ghosts H.Denot) where
  abbrev Held : Type 0
  Held = OccupiedEntryMut T.Denot S.Denot K1.Denot K2.Denot K3.Denot H.Denot

  abbrev whole_row : RattleType
  whole_row = map_row T S K1 K2 K3 H of keys1 keys2 keys3 build hashes

  -- If the call failed, the map ends as it was. Otherwise it ends as the result leaves it, whose reference to the map
  -- has the name `lender`.
  -- Example: After an error a map of a, b ends as a, b.
  abbrev pub rests_if_err : {A E : Type 0} → (A → GName) → MutBor (Map T.Denot S.Denot) → Result A E → Fml
  rests_if_err lender m r = RestsIfErr whole_row m lender r (λ n. n ≡ m.now)

  abbrev held_row : RattleType
  held_row = occupied_mut_row (record { mir = named 1; lft = [] }) T S K1 K2 K3 H of
      (record { eq = keys1.eq }) (record { hash_input = keys1.hash_input })
      (record { eq = keys2.eq }) (record { hash_input = keys2.hash_input })
      (record { eq = keys3.eq }) (record { hash_input = keys3.hash_input }) build hashes

  module _ (D : RattleType) (put : T.Denot → D.Denot → T.Denot) where
    -- What is written through `r` is the data of the item of this slot. If there is no `r`, what is held stays.
    -- Example: If d is written, and that item is a, the map has `put a d` in its place.
    abbrev pub lends_held_data : MutBor Held → Option ℕ → Option (MutBor D.Denot) → Fml
    lends_held_data m slot r = LendsIf held_row D m r (λ d. held_with m.now slot (λ x. put x d)) m.now

  module _ (Q1 Q2 Q3 : RattleType) where
    abbrev Found : Type 0
    Found = OccupiedEntry T.Denot S.Denot Q1.Denot Q2.Denot Q3.Denot K1.Denot K2.Denot K3.Denot H.Denot

    -- `entry_row` is the type of an occupied entry in the logic. No public clause cites it.
    abbrev pub entry_row : RattleType
    entry_row = occupied_row (record { mir = named 1; lft = [] }) T S Q1 Q2 Q3 K1 K2 K3 H of
        (record { eq = keys1.eq }) (record { hash_input = keys1.hash_input })
        (record { eq = keys2.eq }) (record { hash_input = keys2.hash_input })
        (record { eq = keys3.eq }) (record { hash_input = keys3.hash_input }) build hashes

    -- The entry ends with the map as the borrow of its items leaves it.
    -- Example: If a becomes `put a d` in that borrow, the map of the entry has `put a d`.
    abbrev pub lends_held : MutBor Found → Held → Fml
    lends_held m r = follows entry_row whole_row m.ghost_name r.map.ghost_name
        (λ n. record m.now { map = record m.now.map { now = n } })

    module _ (D : RattleType) (put : T.Denot → D.Denot → T.Denot) where
      -- What is written through `r` is the data of the item of this slot. If there is no `r`, the entry stays.
      -- Example: If d is written, and that item is a, the map has `put a d` in its place.
      abbrev pub lends_entry_data : MutBor Found → Option ℕ → Option (MutBor D.Denot) → Fml
      lends_entry_data m slot r = LendsIf entry_row D m r (λ d. entry_with m.now slot (λ x. put x d)) m.now
