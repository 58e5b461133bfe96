-- Writes that leave an item where it stands in the order, and what they compare then. In the examples an item is a pair of its first
-- key and its sort key. No public clause cites what is here.
use Rattle.std.specs.Prelude.{◌≡◌, ◌+◌, ◌≤◌, ℕ, Bool, List, Some}
use Rattle.std.specs.declared.cmp.Ordering.{Ordering}
use Rattle.std.specs.declared.cmp.Ordering.TheVariants.{Equal}
use Rattle.iddqd_store.specs.Bag.{IsOnly}

-- If `stays` holds, which says that the item keeps its place, the call compares once at most, and so it searches for no place.
-- Example: If `stays` says that the sort key stays, 7 comparisons before the call are 8 at most after it.
abbrev pub ComparesOnceIf : Type 0 → ℕ → ℕ → Type 0
ComparesOnceIf stays before after = stays → after ≤ before + 1

module _ {T : Type 0} where
  -- Both items have the same place in the order: their sort keys are equal, and their first keys.
  -- Example: (2, 3) shares its place with another (2, 3), and not with (2, 5).
  abbrev pub SharePlace : (T → T → Ordering) → T → T → Type 0
  SharePlace by x y = by x y ≡ Equal

  -- With what `answers` gives as its data, the item of the list that passes the test has a sort key equal to its own.
  -- Example: Where the data are the sort key, (2, 3) keeps it if 3 is answered, and not if 5 is.
  abbrev pub KeepsSortKey : {D K : Type 0} → (T → D → Type 0) → (T → D → T) → (T → K) → (K → K → Ordering) → (T → Bool) → List T → Type 0
  KeepsSortKey {D} answers put sort cmp test old =
      (x : T) (d : D) → IsOnly test old (Some x) → answers x d → cmp (sort x) (sort (put x d)) ≡ Equal
