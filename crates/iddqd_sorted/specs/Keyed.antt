-- What calls that find an item by the key of one rank say of a map. In the examples an item is a pair of its first key and its
-- sort key, and the map has (2, 3), (1, 5).
use Rattle.std.specs.Prelude.{◌≡◌, ◌≢◌, ◌+◌, ◌≤◌, ℕ, Bool, not, List, [], ◌∷◌, Option, Some, None, IfNone, Result, Err, filter, length, map, true}
use Rattle.std.specs.declared.cmp.Ordering.{Ordering}
use Rattle.iddqd_store.specs.Bag.{IsOnly, Ranks, conflicts_of}
use Rattle.iddqd_store.specs.Rank.{Costs, SearchCosts, walks_within}
use Rattle.iddqd_store.specs.Rank.All.{PlacingCosts}
use Rattle.iddqd_sorted.specs.Batches.{with_items}
use Rattle.iddqd_sorted.specs.Items.{with_item}
use Rattle.iddqd_sorted.specs.declared.map.rekey.Refused.{Refused}
use Rattle.iddqd_sorted.specs.declared.map.rekey.Refused.TheVariants as refused

-- A removal by a key costs as much as a search (`SearchCosts`) and, if it removes an item, `walks` through the tables
-- (`walks_within`).
-- Example: With 2 items, two ranks, one walk at each and a hash of its own for each key it asks at most once, and probes at most
-- 9 cells.
pub record RemovingCosts {T A : Type 0} (hash_of : T → ℕ) (bag : List T) (room hash : ℕ) (walks : List ℕ) (result : Option A)
    (before after : Costs) : Type 0 where
  pub slot : Option ℕ
  pub between : ℕ
  pub search : SearchCosts hash_of bag room hash slot before.asked after.asked before.probed between
  pub rest : after.probed ≤ between + walks_within (length bag) walks
  pub absent : IfNone result (after.probed ≡ between)

module _ {T : Type 0} where
  -- `refused_item` is the item that did not replace another.
  -- Example: For `Absent x` it is `x`.
  abbrev pub refused_item : Refused T → T
  refused_item (refused.Absent x) = x
  refused_item (refused.Conflict x) = x

  -- `Absent` says that no item of the list passes the test; `Conflict` says that one does, and that some other item conflicts
  -- with `y`.
  -- Example: (1, 7) cannot replace the item with the first key 2, since (1, 5) conflicts with it.
  abbrev pub TellsWhyRefused : Ranks T → (T → Bool) → List T → T → Refused T → Type 0
  TellsWhyRefused ranks test old y (refused.Absent e) = IsOnly test old None
  TellsWhyRefused ranks test old y (refused.Conflict e) =
      (x : T) × IsOnly test old (Some x) × (conflicts_of ranks (filter (λ z. not (test z)) old) y ≢ [])

  -- A search by one rank, for an item that another one is to replace, costs what `SearchCosts` says. If it finds one, the
  -- call then searches at each rank for the keys of the new item, and walks this often through each table
  -- (`PlacingCosts`).
  -- Example: With 2 items, two ranks, two walks at each and a hash of its own for each key it asks at most three times,
  -- and probes at most 21 cells.
  abbrev pub RekeyingCosts : (T → ℕ) → List (T → ℕ) → List T → ℕ → ℕ → List ℕ → List ℕ → Result T (Refused T)
      → Costs → Costs → Type 0
  RekeyingCosts hash_of hashes bag room hash hs walks (Err (refused.Absent e)) before after =
      SearchCosts {A = ℕ} hash_of bag room hash None before.asked after.asked before.probed after.probed
  RekeyingCosts hash_of hashes bag room hash hs walks answer before after =
      PlacingCosts (hash_of ∷ hashes) bag room (hash ∷ hs) walks before after

  -- One item of the list passes the test, and `new` lists the others and this item with what `answers` gives at it as its data,
  -- at the place of its sort key.
  -- Example: For the test whether the first key is 2, and the answer 7, where the data are the sort key, `new` is (1, 5), (2, 7).
  pub record StoresOne {D : Type 0} (answers : T → D → Type 0) (put : T → D → T) (by : T → T → Ordering) (test : T → Bool)
      (old new : List T) : Type 0 where
    pub item : T
    pub stored : D
    pub only : IsOnly test old (Some item)
    pub answered : answers item stored
    pub lists : new ≡ with_item by (filter (λ y. not (test y)) old) (put item stored)

  -- `new` lists the items that fail the test and, at the place of its sort key, `write` of the one that passes, if there is one. `write` is
  -- each function that stores in such an item what is answered at it.
  -- Example: For the test whether the first key is 2, and the answer 7, where the data are the sort key, `new` is (1, 5), (2, 7).
  abbrev pub MapsOne : {D : Type 0} → (T → D → Type 0) → (T → D → T) → (T → T → Ordering) → (T → Bool) → List T → List T → Type 0
  MapsOne {D} answers put by test old new =
      (write : T → T) → ((x : T) (d : D) → test x ≡ true → answers x d → write x ≡ put x d)
      → new ≡ with_items by (filter (λ y. not (test y)) old) (map write (filter test old))
