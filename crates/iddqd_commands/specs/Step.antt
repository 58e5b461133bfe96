-- One step of a map, for any number of ranks: what a command may return, and what the map holds then.
use Rattle.std.specs.Prelude.{◌≡◌, ◌≢◌, ◌+◌, ◌<◌, ◌≤◌, ℕ, List, [], ◌∷◌, ◌++◌}
use Rattle.std.specs.Prelude.{Bool, Some, None, filter, length, IsPermutation}
use Rattle.std.specs.List.{list_any}
use Rattle.std.specs.Option.{option_to_list}
use Rattle.iddqd_store.specs.Bag.{Ranks, IsOnly, IsSound, conflicts_of, first_mismatch, tests_of, listing, conflicting, with_item, swap}
use Rattle.iddqd_store.specs.Bag.Building.{AddsTo, IsReason}
use Rattle.iddqd_store.specs.Map.{shrunk_to}
use Rattle.iddqd_store.specs.Map.State.{State, ExtendsTo}
use Rattle.iddqd_store.specs.Table.Limit.{most_room}
use Rattle.iddqd_commands.specs.Reply.{Reply, done, duplicate, displaced, found, present, taken, memory}
use Rattle.iddqd_commands.specs.Reply.{refused, size, items, kept, key, absent, absent_data, extend_refused}

-- The items fit the capacity, which is at most `most_room`.
-- Example: With the bag and the capacity 7 it holds, and with 2 it does not.
abbrev pub Fits : {T : Type 0} → State T → Type 0
Fits s = (length s.items ≤ s.capacity) × (s.capacity ≤ most_room)

module _ {T : Type 0} where
  -- The item `x` is returned for lack of memory, which happens only in a full map where nothing conflicts with `x`,
  -- and nothing changes.
  -- Example: With the bag and the capacity 3 it may happen to (4, 40), and not to (1, 40).
  abbrev pub Starves : Ranks T → State T → T → T → State T → Type 0
  Starves ranks old x y new =
      (y ≡ x) × (conflicts_of ranks old.items x ≡ []) × (length old.items ≡ old.capacity) × (new ≡ old)

  -- The capacity is no lower, and it stays if the items of the list fit before the call.
  -- Example: With the bag and the capacity 7, it stays for a list of 4 items.
  abbrev pub GrowsFor : List T → State T → State T → Type 0
  GrowsFor xs old new =
      (old.capacity ≤ new.capacity) × (length old.items + length xs ≤ old.capacity → new.capacity ≡ old.capacity)

module _ {T D : Type 0} where
  -- If nothing conflicts with `x`, it is inserted, and the capacity grows only if the map was full. Otherwise the reply
  -- has `x` and the items that conflict with it. In a full map where nothing conflicts, the reply may be `x` for lack
  -- of memory.
  -- Example: For (4, 40) the reply is `done`, and for (1, 20) it is `duplicate` with (1, 20) and (1, 10), (2, 20).
  abbrev pub InsertsUnique : Ranks T → State T → T → Reply T D → State T → Type 0
  InsertsUnique ranks old x done new =
      (conflicts_of ranks old.items x ≡ []) × IsPermutation new.items (x ∷ old.items)
      × (old.capacity ≤ new.capacity) × (length old.items < old.capacity → new.capacity ≡ old.capacity)
  InsertsUnique ranks old x (duplicate y ys) new =
      (y ≡ x) × (conflicts_of ranks old.items x ≢ []) × (ys ≡ conflicting ranks old.items x) × (new ≡ old)
  InsertsUnique ranks old x (memory y) new = Starves ranks old x y new
  InsertsUnique ranks old x reply new = ⊥

  -- The item replaces the items that conflict with it, which the reply has. The capacity grows only if the map was full
  -- and nothing conflicts. In a full map where nothing conflicts, the reply may be `x` for lack of memory.
  -- Example: For (1, 20) the reply is `displaced` with (1, 10), (2, 20), and the bag becomes (1, 20), (3, 30).
  abbrev pub InsertsOverwrite : Ranks T → State T → T → Reply T D → State T → Type 0
  InsertsOverwrite ranks old x (displaced ys) new =
      (ys ≡ conflicting ranks old.items x) × IsPermutation new.items (with_item ranks old.items x)
      × (old.capacity ≤ new.capacity) × (length old.items < old.capacity → new.capacity ≡ old.capacity)
      × (conflicts_of ranks old.items x ≢ [] → new.capacity ≡ old.capacity)
  InsertsOverwrite ranks old x (memory y) new = Starves ranks old x y new
  InsertsOverwrite ranks old x reply new = ⊥

  -- The reply is the only item that passes the test, or `None`, and nothing changes.
  -- Example: For the first key 2 it is `found` with (2, 20).
  abbrev pub Gets : State T → (T → Bool) → Reply T D → State T → Type 0
  Gets old test (found o) new = IsOnly test old.items o × (new ≡ old)
  Gets old test reply new = ⊥

  -- The reply is whether an item passes the test, and nothing changes.
  -- Example: For the first key 2 it is `present true`.
  abbrev pub Tells : State T → (T → Bool) → Reply T D → State T → Type 0
  Tells old test (present b) new = (b ≡ list_any test old.items) × (new ≡ old)
  Tells old test reply new = ⊥

  -- The only item that passes the test leaves the bag, and the reply has it. The capacity stays.
  -- Example: For the first key 2 the reply is `taken` with (2, 20), and the bag becomes (1, 10), (3, 30).
  abbrev pub Removes : State T → (T → Bool) → Reply T D → State T → Type 0
  Removes old test (taken o) new =
      IsOnly test old.items o × IsPermutation old.items (option_to_list o ++ new.items)
      × (new.capacity ≡ old.capacity)
  Removes old test reply new = ⊥

  -- After `done`, `more` items fit, and the capacity grew only if they did not fit before. The bag stays. The reply is
  -- `refused` only if they do not fit, and then nothing changes.
  -- Example: With the bag and the capacity 7, after `done` for 5 more the capacity is 8 at least, and after `refused`
  -- it is 7.
  abbrev pub Reserves : State T → ℕ → Reply T D → State T → Type 0
  Reserves old more done new =
      (new.items ≡ old.items) × (length old.items + more ≤ new.capacity) × (old.capacity ≤ new.capacity)
      × (length old.items + more ≤ old.capacity → new.capacity ≡ old.capacity)
  Reserves old more refused new = (old.capacity < length old.items + more) × (new ≡ old)
  Reserves old more reply new = ⊥

  -- After `done` the capacity is the number of items or, if that is more, the lower one of `least` and the old
  -- capacity. The reply is `refused` only if that is neither 0 nor the old capacity, and then nothing changes.
  -- Example: With the bag and the capacity 14, it is 5 for the least 5, and 3 for 0.
  abbrev pub ShrinksTo : State T → ℕ → Reply T D → State T → Type 0
  ShrinksTo old least done new =
      (new.items ≡ old.items) × (new.capacity ≡ shrunk_to (length old.items) least old.capacity)
  ShrinksTo old least refused new =
      (0 < shrunk_to (length old.items) least old.capacity)
      × (shrunk_to (length old.items) least old.capacity ≢ old.capacity) × (new ≡ old)
  ShrinksTo old least reply new = ⊥

  -- No item is left, and the capacity stays.
  -- Example: The bag becomes empty.
  abbrev pub Clears : State T → Reply T D → State T → Type 0
  Clears old done new = (new.items ≡ []) × (new.capacity ≡ old.capacity)
  Clears old reply new = ⊥

  -- The reply is how many items there are, and nothing changes.
  -- Example: It is `size 3`.
  abbrev pub Sizes : State T → Reply T D → State T → Type 0
  Sizes old (size n) new = (n ≡ length old.items) × (new ≡ old)
  Sizes old reply new = ⊥

  -- The reply lists the items in some order, and nothing changes.
  -- Example: It may be `items` with (3, 30), (1, 10), (2, 20).
  abbrev pub Lists : State T → Reply T D → State T → Type 0
  Lists old (items xs) new = IsPermutation xs old.items × (new ≡ old)
  Lists old reply new = ⊥

  -- The items of the list are inserted one by one, each with `with_item`, until there is no memory for one in a full map.
  -- The reply has that one. The capacity grows only if the items may not all fit.
  -- Example: For (1, 20), (3, 40) the reply is `done`, and the bag becomes (3, 40), (1, 20).
  abbrev pub Extends : Ranks T → State T → List T → Reply T D → State T → Type 0
  Extends ranks old xs done new =
      ExtendsTo ranks old xs new × (length old.items + length xs ≤ old.capacity → new.capacity ≡ old.capacity)
  Extends ranks old xs (memory y) new =
      (front : List T) × (rest : List T) × (xs ≡ front ++ y ∷ rest) × ExtendsTo ranks old front new
      × (conflicts_of ranks new.items y ≡ []) × (length new.items ≡ new.capacity)
  Extends ranks old xs reply new = ⊥

  -- All items of the list are inserted, or none is, because one is rejected for a conflict or for lack of memory. Then
  -- the reply has that item, and those before it in order. The capacity grows only if they do not all fit.
  -- Example: For (4, 40), (1, 50) the reply is `extend_refused` with `Duplicate`, (4, 40), and (1, 50).
  abbrev pub ExtendsUnique : Ranks T → State T → List T → Reply T D → State T → Type 0
  ExtendsUnique ranks old xs done new =
      AddsTo ranks old.items new.items xs × IsSound ranks new.items × GrowsFor xs old new
  ExtendsUnique ranks old xs (extend_refused reason ys y) new =
      (rest : List T) × (xs ≡ ys ++ y ∷ rest) × IsPermutation new.items old.items × IsSound ranks (ys ++ old.items)
      × IsReason reason (conflicts_of ranks (ys ++ old.items) y) × GrowsFor xs old new
  ExtendsUnique ranks old xs reply new = ⊥

  -- The item replaces the items that have one of the keys, which the reply has. If a key of `x` is not the one asked
  -- for, the reply has the lowest such rank. In a full map where nothing conflicts, the reply may be `x` for lack of
  -- memory.
  -- Example: For the keys 1 and 20 and the item (1, 20) the reply is `displaced` with (1, 10), (2, 20), and for the
  -- item (1, 50) it is `key 1 (1, 50)`.
  abbrev pub EntryInserts : Ranks T → List (T → Bool) → State T → T → Reply T D → State T → Type 0
  EntryInserts ranks tests old x (displaced ys) new =
      (first_mismatch tests x ≡ None) × InsertsOverwrite ranks old x (displaced ys) new
  EntryInserts ranks tests old x (key r y) new = (first_mismatch tests x ≡ Some r) × (y ≡ x) × (new ≡ old)
  EntryInserts ranks tests old x (memory y) new = (first_mismatch tests x ≡ None) × Starves ranks old x y new
  EntryInserts ranks tests old x reply new = ⊥

  -- The items that have one of the keys leave the bag, and the reply has them in the order of the keys.
  -- Example: For the keys 2 and 10 the reply is `displaced` with (2, 20), (1, 10), and (3, 30) is left.
  abbrev pub EntryRemoves : List (T → Bool) → State T → Reply T D → State T → Type 0
  EntryRemoves tests old (displaced ys) new =
      (ys ≡ listing tests old.items) × IsPermutation old.items (ys ++ new.items) × (new.capacity ≡ old.capacity)
  EntryRemoves tests old reply new = ⊥

  -- If no item has one of the keys, the item is inserted as by `InsertsUnique`, and if a key of `x` is not the one
  -- asked for, the reply has the lowest such rank. If an item has one of the keys, nothing changes, whatever the keys
  -- of `x` are.
  -- Example: For the keys 4 and 40 and the item (4, 40) the reply is `done`, and for the keys 1 and 20 it is `kept`.
  abbrev pub OrInserts : Ranks T → List (T → Bool) → State T → T → Reply T D → State T → Type 0
  OrInserts ranks tests old x kept new = (listing tests old.items ≢ []) × (new ≡ old)
  OrInserts ranks tests old x (key r y) new =
      (listing tests old.items ≡ []) × (first_mismatch tests x ≡ Some r) × (y ≡ x) × (new ≡ old)
  OrInserts ranks tests old x done new =
      (listing tests old.items ≡ []) × (first_mismatch tests x ≡ None) × InsertsUnique ranks old x done new
  OrInserts ranks tests old x (memory y) new =
      (listing tests old.items ≡ []) × (first_mismatch tests x ≡ None) × Starves ranks old x y new
  OrInserts ranks tests old x reply new = ⊥

  -- The item replaces the one that passes the test, if it has the same keys, and the reply has the old one. Otherwise
  -- nothing changes, and the reply has the lowest rank at which the keys differ, or says that no item passes the test.
  -- Example: For the first key 2 the item (2, 50) is returned with `key 1`, and for the first key 7 it is `absent`.
  abbrev pub Replaces : Ranks T → (T → Bool) → State T → T → Reply T D → State T → Type 0
  Replaces ranks test old x (displaced ys) new =
      (z : T) × IsOnly test old.items (Some z) × (ys ≡ z ∷ []) × (first_mismatch (tests_of ranks z) x ≡ None)
      × IsPermutation new.items (swap ranks old.items z x) × (new.capacity ≡ old.capacity)
  Replaces ranks test old x (key r y) new =
      (z : T) × IsOnly test old.items (Some z) × (first_mismatch (tests_of ranks z) x ≡ Some r) × (y ≡ x) × (new ≡ old)
  Replaces ranks test old x (absent y) new = (filter test old.items ≡ []) × (y ≡ x) × (new ≡ old)
  Replaces ranks test old x reply new = ⊥

  -- The item that passes the test gets this data. If none passes, the reply has the data, and nothing changes.
  -- Example: For the first key 7 the reply is `absent_data` with the data.
  abbrev pub Sets : Ranks T → (T → D → T) → (T → Bool) → State T → D → Reply T D → State T → Type 0
  Sets ranks put test old d done new =
      (z : T) × IsOnly test old.items (Some z) × IsPermutation new.items (swap ranks old.items z (put z d))
      × (new.capacity ≡ old.capacity)
  Sets ranks put test old d (absent_data e) new = (filter test old.items ≡ []) × (e ≡ d) × (new ≡ old)
  Sets ranks put test old d reply new = ⊥
