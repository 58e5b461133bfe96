-- Data that a closure returns, stored in the items of a bag.
use Rattle.std.specs.Prelude.{◌≡◌, Bool, true, false, List, [], ◌∷◌, ◌++◌, map, Option, Some, IsPermutation}
use Rattle.std.specs.List.{filter_map}
use Rattle.std.specs.Option.{option_map, option_to_list}
use Rattle.iddqd_store.specs.Bag.{IsOnly, Ranks, swap}

module _ {F T D : Type 0} (step : F → T → D → F → Type 0) (put : T → D → T) (ranks : Ranks T) where
  -- The closure `f` was called at each item of the list in turn, and `new` is the bag with what it returned as the
  -- data of these items.
  -- Example: Where an item is (1, 10) with the data 5, and the closure returns 7 at it, `new` has (1, 10) with the
  -- data 7.
  abbrev pub Stores : F → List T → List T → List T → Type 0
  Stores f [] bag new = IsPermutation new bag
  Stores f (x ∷ xs) bag new = (d : D) × (g : F) × step f x d g × Stores g xs (swap ranks bag x (put x d)) new

module _ {F T D : Type 0} (step : F → T → D → F → Type 0) (put : T → D → T) where
  -- The closure `f` was called at each item of the list in turn, and `new` lists these items with what it returned as
  -- their data.
  -- Example: Where the closure returns 7 at every item, `new` is the list with 7 as the data of each.
  abbrev pub Writes : F → List T → List T → Type 0
  Writes f [] new = new ≡ []
  Writes f (x ∷ xs) new = (d : D) × (g : F) × (rest : List T) × step f x d g × (new ≡ put x d ∷ rest) × Writes g xs rest

  -- The closure `f` was called at each item of the bag once, in some order, and `new` is the bag with what it
  -- returned as their data.
  -- Example: Where the closure returns 7 at every item, `new` is the bag with 7 as the data of each.
  pub record StoresInAll (f : F) (bag new : List T) : Type 0 where
    pub listed : List T
    pub same : IsPermutation bag listed
    pub written : List T
    pub writes : Writes f listed written
    pub are : IsPermutation new written

  -- For each function `write` that makes of an item what the closure's data make of it, where no call changes the
  -- closure `f`, `new` has `write` of each item of the bag.
  -- Example: Where the closure returns 7 at every item, `new` has each item with the data 7.
  abbrev pub MapsAll : F → List T → List T → Type 0
  MapsAll f bag new =
      (write : T → T) → ((x : T) (d : D) (g : F) → step f x d g → (g ≡ f) × (write x ≡ put x d))
      → IsPermutation new (map write bag)

module _ {F T D : Type 0} (step : F → T → Option D → F → Type 0) (put : T → D → T) where
  -- The closure `f` was called at each item of the list in turn, and `new` lists those items for which it returned
  -- data, each with this data.
  -- Example: Where the closure returns `Some 7` at (1, 10), and `None` at (2, 20), `new` is (1, 10) with the data 7.
  abbrev pub Rewrites : F → List T → List T → Type 0
  Rewrites f [] new = new ≡ []
  Rewrites f (x ∷ xs) new =
      (o : Option D) × (g : F) × (rest : List T) × step f x o g
      × (new ≡ option_to_list (option_map (put x) o) ++ rest) × Rewrites g xs rest

  -- The closure `f` was called at each item of the bag once, in some order, and `new` is the bag of those items for
  -- which it returned data, each with this data.
  -- Example: Where the closure returns `Some 7` if the first key is odd, and else `None`, `new` is (1, 10), (3, 30),
  -- each with the data 7.
  pub record RewritesAll (f : F) (bag new : List T) : Type 0 where
    pub listed : List T
    pub same : IsPermutation bag listed
    pub left : List T
    pub rewrites : Rewrites f listed left
    pub are : IsPermutation new left

  -- For each function `write` that makes of an item what the closure's data make of it, or `None` if it returns none,
  -- where no call changes the closure `f`, `new` has what `write` makes of the items of the bag.
  -- Example: Where the closure returns `Some 7` if the first key is odd, and else `None`, `new` has (1, 10), (3, 30),
  -- each with the data 7.
  abbrev pub FilterMapsAll : F → List T → List T → Type 0
  FilterMapsAll f bag new =
      (write : T → Option T) → ((x : T) (o : Option D) (g : F) → step f x o g → (g ≡ f) × (write x ≡ option_map (put x) o))
      → IsPermutation new (filter_map write bag)

module _ {T D : Type 0} (answers : T → D → Type 0) (put : T → D → T) (ranks : Ranks T) where
  -- One item passes the test, and `new` is the bag with what `answers` gives at this item as its data.
  -- Example: For the test whether the first key is 2, and the answer 7, `new` has (2, 20) with the data 7, (1, 10)
  -- and (3, 30).
  abbrev pub StoresOne : (T → Bool) → List T → List T → Type 0
  StoresOne test bag new =
      (x : T) × (d : D) × IsOnly test bag (Some x) × answers x d × IsPermutation new (swap ranks bag x (put x d))

module _ {T D : Type 0} (answers : T → D → Type 0) (put : T → D → T) where
  -- For each function `write` that leaves an item as it is if the item fails the test, and otherwise makes of it what
  -- the data that `answers` gives make of it, `new` has `write` of each item of the bag.
  -- Example: For the test whether the first key is 2, and the answer 7, `new` has (1, 10), (2, 20) with the data 7, and
  -- (3, 30).
  abbrev pub MapsOne : (T → Bool) → List T → List T → Type 0
  MapsOne test bag new =
      (write : T → T) → ((x : T) (d : D) → test x ≡ true → answers x d → write x ≡ put x d)
      → ((x : T) → test x ≡ false → write x ≡ x) → IsPermutation new (map write bag)
