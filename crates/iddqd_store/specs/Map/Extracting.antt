-- Items that leave a map one by one, in an iteration.
use Rattle.std.specs.Prelude.{◌≡◌, ◌<◌, ℕ, Bool, true, false, List, [], ◌∷◌, ◌++◌, Option, IfSome, IfNone}
use Rattle.std.specs.Option.{option_to_list}
use Rattle.iddqd_store.specs.Map.{Map}
use Rattle.iddqd_store.specs.Map.Walk.{passed_items, to_come}

module _ {F T : Type 0} (step : F → T → Bool → F → Type 0) where
  -- The closure `f` was called once with each item of the list in turn, returned `false` each time, and is in the
  -- state `q` then.
  -- Example: A closure that tells whether the first key is 3 rejects (1, 10), (2, 20).
  abbrev pub Rejects : F → List T → F → Type 0
  Rejects f [] q = f ≡ q
  Rejects f (x ∷ xs) q = (g : F) × step f x false g × Rejects g xs q

module _ {F T S : Type 0} (step : F → T → Bool → F → Type 0) where
  -- The closure `f` was called once with each item from the place `from` on, in turn, up to the first for which it
  -- returned `true`. That item is `o`, and it left. The items before it stay, and are before the place `to`. If `f`
  -- returned `false` for every item, `o` is `None`, and no item is after the place `to`.
  -- Example: From the place 0 on, a closure that tells whether the first key is even extracts (2, 20) from the bag.
  -- Then (1, 10) is before the place, and (3, 30) is after it.
  pub record Extracts (f : F) (m : Map T S) (from : ℕ) (o : Option T) (n : Map T S) (to : ℕ) : Type 0 where
    pub rejected : List T
    pub state : F
    pub rejects : Rejects step f rejected state
    pub accepts : IfSome o (λ x. (g : F) × step state x true g)
    pub comes : to_come m from ≡ rejected ++ (option_to_list o ++ to_come n to)
    pub before : passed_items n to ≡ passed_items m from ++ rejected
    pub none_left : IfNone o (to_come n to ≡ [])
    pub onward : IfSome o (λ _. from < to)

module _ {T S : Type 0} where
  -- The next item from the place `from` on is `o`, and it left. The items before that place are those before the place
  -- `to`. If `o` is `None`, no item was there.
  -- Example: From the place 0 on, (1, 10) leaves the bag first. Then no item is before the place, and (2, 20), (3, 30)
  -- are after it.
  pub record PopsFrom (m : Map T S) (from : ℕ) (o : Option T) (n : Map T S) (to : ℕ) : Type 0 where
    pub comes : to_come m from ≡ option_to_list o ++ to_come n to
    pub before : passed_items n to ≡ passed_items m from
    pub none_left : IfNone o (to_come n to ≡ [])
    pub onward : IfSome o (λ _. from < to)
