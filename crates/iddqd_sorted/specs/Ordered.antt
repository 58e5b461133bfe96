-- Lists in an order, and places in them. In the examples the list is 1, 3, 4. No public clause cites what is here, but for
-- `IsAscending`.
use Rattle.std.specs.Prelude.{◌≡◌, ℕ, ◌<◌, List, length, slice_index_or}
use Rattle.std.specs.declared.cmp.Ordering.{Ordering}
use Rattle.std.specs.declared.cmp.Ordering.TheVariants.{Less, Greater}

module _ {T : Type 0} where
  -- Each item is lower than those after it.
  -- Example: It holds of 1, 3, 4 by the order of numbers, and not of 1, 3, 3.
  abbrev pub IsAscending : (T → T → Ordering) → List T → Type 0
  IsAscending by xs = (i j : ℕ) (d : T) → i < j → j < length xs → by (slice_index_or xs i d) (slice_index_or xs j d) ≡ Less

  -- A comparison with what is sought rises with the order.
  -- Example: The comparison of each number with 3 rises with the order of numbers.
  pub record IsRising (by : T → T → Ordering) (compare : T → Ordering) : Type 0 where
    pub less : (x y : T) → by x y ≡ Less → compare y ≡ Less → compare x ≡ Less
    pub greater : (x y : T) → by x y ≡ Less → compare x ≡ Greater → compare y ≡ Greater
