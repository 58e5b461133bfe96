-- What a search finds. In the examples an entry is a number.
use Rattle.std.specs.Prelude.{◌≡◌, ℕ, ◌+◌, ◌<◌, ◌≤◌, Bool, List, Option, Some, None, length, slice_index_or, true, false, ◌*◌, ◌^◌}
use Rattle.std.specs.Ordering.{is_gt, is_ge}
use Rattle.std.specs.declared.cmp.Ordering.{Ordering}
use Rattle.std.specs.declared.cmp.Ordering.TheVariants.{Less, Equal, Greater}

module _ {E : Type 0} (order : E → Ordering) where
  -- The comparisons with what is sought rise along the list.
  -- Example: The comparisons with 3 rise along 1, 3, 3, 4.
  pub record IsSearchable (xs : List E) : Type 0 where
    pub less : (i j : ℕ) (d : E) → i ≤ j → j < length xs → order (slice_index_or xs j d) ≡ Less → order (slice_index_or xs i d) ≡ Less
    pub greater : (i j : ℕ) (d : E) → i ≤ j → j < length xs → order (slice_index_or xs i d) ≡ Greater → order (slice_index_or xs j d) ≡ Greater

  -- The entries before the index `i` are lower than what is sought, then `n` entries are it, and those after them are higher.
  -- Example: Among 1, 3, 3, 4 and for the comparison with 3 it holds of 1 and two entries, and with 2 of 1 and none.
  pub record IsSplit (xs : List E) (i n : ℕ) : Type 0 where
    pub in_range : i + n ≤ length xs
    pub below : (k : ℕ) (d : E) → k < i → order (slice_index_or xs k d) ≡ Less
    pub equal : (k : ℕ) (d : E) → i ≤ k → k < i + n → order (slice_index_or xs k d) ≡ Equal
    pub above : (k : ℕ) (d : E) → i + n ≤ k → k < length xs → order (slice_index_or xs k d) ≡ Greater

  -- The last of the entries that are sought stands at the index `i`, and `more` of them stand before it.
  -- Example: Among 1, 3, 3, 4 and for the comparison with 3 it holds of 2.
  pub record IsLastEqual (xs : List E) (i : ℕ) : Type 0 where
    pub first : ℕ
    pub more : ℕ
    pub last : first + more ≡ i
    pub split : IsSplit xs first (more + 1)

-- The entries that pass the test start at this index: those before it fail, and those from it on pass. No public clause cites it.
-- Example: Among 1, 3, 4 and for the test whether an entry is at least 3 it holds of 1.
pub record IsStartOf {E : Type 0} (test : E → Bool) (xs : List E) (i : ℕ) : Type 0 where
  pub in_range : i ≤ length xs
  pub before : (j : ℕ) (d : E) → j < i → test (slice_index_or xs j d) ≡ false
  pub after : (j : ℕ) (d : E) → i ≤ j → j < length xs → test (slice_index_or xs j d) ≡ true

-- `is_past` tells of a comparison whether the entry is higher, or if `past` is false, whether it is not lower. No public clause
-- cites it.
-- Example: For `Equal` it is the contrary of `past`.
abbrev pub is_past : Bool → Ordering → Bool
is_past true o = is_gt o
is_past false o = is_ge o

-- `side_of` tells on which side of a place an entry is: of the place before the entries that are sought, or if `past`, behind
-- them. No public clause cites it.
-- Example: For `Equal` it is `Greater`, and if `past`, `Less`.
abbrev pub side_of : Bool → Ordering → Ordering
side_of past Less = Less
side_of true Equal = Less
side_of false Equal = Greater
side_of past Greater = Greater

-- Of so many entries, those before this index are not higher than what is sought, and those from it on are. `at k` is the
-- comparison of the entry at `k`. No public clause cites it.
-- Example: Of 1, 3, 3, 4 and for the comparison with 3 it is 3.
pub record IsPartitionPoint (at : ℕ → Ordering) (len i : ℕ) : Type 0 where
  pub in_range : i ≤ len
  pub below : (k : ℕ) → k < i → is_gt (at k) ≡ false
  pub above : (k : ℕ) → i ≤ k → k < len → is_gt (at k) ≡ true

-- `order_at` compares an entry, if there is one. No public clause cites it.
abbrev pub order_at : {E : Type 0} → (E → Ordering) → Option E → Ordering
order_at order None = Less
order_at order (Some x) = order x

-- A call compares at most `a * r + b` times, for each `r` such that the list has fewer than `4 ^ r` entries.
-- Example: With 3 and 19 a search among 15 entries compares at most 25 times, by `r` = 2.
abbrev pub ComparesWithin : ℕ → ℕ → ℕ → ℕ → ℕ → Type 0
ComparesWithin a b long before after = (r : ℕ) → long < 4 ^ r → after ≤ before + (a * r + b)
