-- What a search in four parts finds.
use Rattle.std.proofs.Common.{◌≡◌, ℕ, zero, suc, ◌+◌, ◌-◌, ◌*◌, ◌/◌, ◌^◌, ◌<◌, ◌≤◌, ◌≢◌, Bool, true, false, List, length, get_or, Option, Some, None, refl, sym, ap, subst, ◌∙◌, arith, inl, inr}
use Rattle.std.specs.Prelude.{slice_get}
use Rattle.std.specs.Ordering.{is_gt}
use Rattle.std.specs.declared.cmp.Ordering.{Ordering}
use Rattle.std.specs.declared.cmp.Ordering.TheVariants.{Less, Equal, Greater}
use Rattle.std.proofs.Math.Nat.{pow-suc}
use Rattle.std.proofs.lemmas.Bool.{cases_lt, false≢true}
use Rattle.std.proofs.lemmas.Option.{slice_get-get_or, get_or_from_slice_get}
use Rattle.iddqd_order.specs.Search.{IsPartitionPoint, IsSearchable, IsSplit, IsLastEqual, order_at}
use Rattle.iddqd_order.specs.Row.{line, block_at, start_of, IsRow}
use Rattle.iddqd_order.proofs.LineLemmas.{length_parts, start_of-next, start_of-all, get_at_position}

-- of at most one more than twice a power of four, what is left of a quarter is at most one more than twice the power before
pub quartered : (s k : ℕ) → 4 ≤ s → s ≤ 2 * 4 ^ k + 1 → (j : ℕ) × (k ≡ j + 1) × (s - 3 * ((s - 3) / 4 + 1) ≤ 2 * 4 ^ j + 1)
quartered s zero some few = absurd (omega arith)
quartered s (suc j) some few = (j, omega arith, omega (arith, pow-suc 4 j))

module _ (at : ℕ → Ordering) (len : ℕ) (rises : (j k : ℕ) → j ≤ k → k < len → is_gt (at j) ≡ true → is_gt (at k) ≡ true) where
  -- an entry is not above what is sought: nor are those before it
  pub not_above : (j k : ℕ) → k ≤ j → j < len → is_gt (at j) ≡ false → is_gt (at k) ≡ false
  not_above j k le lt passed = by_case (is_gt (at k)) refl
    where
      by_case : (b : Bool) → is_gt (at k) ≡ b → is_gt (at k) ≡ false
      by_case false e = e
      by_case true e = absurd (false≢true (sym passed ∙ rises k j le lt e))

  -- the last entries of three parts were compared
  pub below_passed : (low part a b c k : ℕ) → 0 < part → low + 3 * part ≤ len → a ≤ 1 → b ≤ 1 → c ≤ 1
      → (a ≡ 1 → is_gt (at (low + part - 1)) ≡ false) → (b ≡ 1 → is_gt (at (low + 2 * part - 1)) ≡ false) → (c ≡ 1 → is_gt (at (low + 3 * part - 1)) ≡ false)
      → 0 < part * (a + b + c) → k < low + part * (a + b + c) → is_gt (at k) ≡ false
  below_passed low part (suc (suc a)) b c k some within la lb lc pa pb pc any lt = absurd (omega arith)
  below_passed low part a (suc (suc b)) c k some within la lb lc pa pb pc any lt = absurd (omega arith)
  below_passed low part a b (suc (suc c)) k some within la lb lc pa pb pc any lt = absurd (omega arith)
  below_passed low part zero zero (suc zero) k some within la lb lc pa pb pc any lt = not_above (low + 3 * part - 1) k (omega arith) (omega arith) (pc refl)
  below_passed low part (suc zero) zero (suc zero) k some within la lb lc pa pb pc any lt = not_above (low + 3 * part - 1) k (omega arith) (omega arith) (pc refl)
  below_passed low part zero (suc zero) (suc zero) k some within la lb lc pa pb pc any lt = not_above (low + 3 * part - 1) k (omega arith) (omega arith) (pc refl)
  below_passed low part (suc zero) (suc zero) (suc zero) k some within la lb lc pa pb pc any lt = not_above (low + 3 * part - 1) k (omega arith) (omega arith) (pc refl)
  below_passed low part zero (suc zero) zero k some within la lb lc pa pb pc any lt = not_above (low + 2 * part - 1) k (omega arith) (omega arith) (pb refl)
  below_passed low part (suc zero) (suc zero) zero k some within la lb lc pa pb pc any lt = not_above (low + 2 * part - 1) k (omega arith) (omega arith) (pb refl)
  below_passed low part (suc zero) zero zero k some within la lb lc pa pb pc any lt = not_above (low + part - 1) k (omega arith) (omega arith) (pa refl)
  below_passed low part zero zero zero k some within la lb lc pa pb pc any lt = absurd (omega arith)

is_greater : (o : Ordering) → is_gt o ≡ true → o ≡ Greater
is_greater Less e = absurd (false≢true e)
is_greater Equal e = absurd (false≢true e)
is_greater Greater e = refl

is_less : (o : Ordering) → is_gt o ≡ false → o ≢ Equal → o ≡ Less
is_less Less e differs = refl
is_less Equal e differs = absurd (differs refl)
is_less Greater e differs = absurd (false≢true (sym e))

module _ {E : Type 0} (order : E → Ordering) where
  -- the comparison at an index is that of the entry there
  pub read_at : (xs : List E) (i : ℕ) (d : E) → i < length xs → order_at order (slice_get xs i) ≡ order (get_or xs i d)
  read_at xs i d lt = ap (order_at order) (slice_get-get_or xs i d lt)

  pub rises_at : (xs : List E) → IsSearchable order xs → (j k : ℕ) → j ≤ k → k < length xs → is_gt (order_at order (slice_get xs j)) ≡ true → is_gt (order_at order (slice_get xs k)) ≡ true
  rises_at xs up j k le lt above = by_entry (slice_get xs j) refl above
    where
      by_entry : (o : Option E) → slice_get xs j ≡ o → is_gt (order_at order o) ≡ true → is_gt (order_at order (slice_get xs k)) ≡ true
      by_entry None is e = absurd (false≢true e)
      by_entry (Some x) is e =
          let first : order (get_or xs j x) ≡ Greater = ap order (get_or_from_slice_get xs j x x is) ∙ is_greater (order x) e in
          ap is_gt (read_at xs k x lt ∙ up.greater j k x le lt first)

  -- so many entries before this one are lower, and all from there up to it are sought
  abbrev EqualsUpTo : List E → ℕ → Type 0
  EqualsUpTo xs i = (first more : ℕ) × (first + more ≡ i) × ((k : ℕ) (d : E) → k < first → order (get_or xs k d) ≡ Less) × ((k : ℕ) (d : E) → first ≤ k → k ≤ i → order (get_or xs k d) ≡ Equal)

  one_more : (xs : List E) → IsSearchable order xs → E → (i : ℕ) → suc i < length xs → ((d : E) → order (get_or xs (suc i) d) ≡ Equal)
      → (((d : E) → order (get_or xs i d) ≡ Equal) → EqualsUpTo xs i) → EqualsUpTo xs (suc i)
  one_more xs up x i lt equal before = by_order (order (get_or xs i x)) refl
    where
      in_range : i < length xs
      in_range = omega (arith, lt)

      as_read : (d : E) → order (get_or xs i d) ≡ order (get_or xs i x)
      as_read d = sym (read_at xs i d in_range) ∙ read_at xs i x in_range

      at_end : (k : ℕ) (d : E) → suc i ≤ k → k ≤ suc i → order (get_or xs k d) ≡ Equal
      at_end k d le small = let same : suc i ≡ k = omega (arith, le, small) in subst (λ (q : ℕ). order (get_or xs q d) ≡ Equal) same (equal d)

      by_order : (o : Ordering) → order (get_or xs i x) ≡ o → EqualsUpTo xs (suc i)
      by_order Less is = (suc i, 0, omega arith, (λ k d below. up.less k i d (omega (arith, below)) in_range (as_read d ∙ is)), at_end)
      by_order Equal is =
          let all = before (λ d. as_read d ∙ is) in (
            all.0,
            all.1 + 1,
            omega (arith, all.2),
            all.3,
            λ k d le small. elim (cases_lt k (suc i)) [
              | inl less ↦ all.4 k d le (omega (arith, less))
              | inr last ↦ at_end k d last small
            ],
          )
      by_order Greater is = absurd (false≢true (sym (ap is_gt (equal x)) ∙ ap is_gt (up.greater i (suc i) x (omega arith) lt is)))

  -- the entries that are sought stand together
  first_equal : (xs : List E) → IsSearchable order xs → E → (i : ℕ) → i < length xs → ((d : E) → order (get_or xs i d) ≡ Equal) → EqualsUpTo xs i
  first_equal xs up x zero lt equal =
      (0, 0, refl, (λ k d below. absurd (omega (arith, below))), λ k d le small. let same : 0 ≡ k = omega (arith, small) in subst (λ (q : ℕ). order (get_or xs q d) ≡ Equal) same (equal d))
  first_equal xs up x (suc i) lt equal = one_more xs up x i lt equal (λ found. first_equal xs up x i (omega (arith, lt)) found)

  -- what a partition point of the list says of what is sought
  pub found_at : (xs : List E) (i : ℕ) → IsSearchable order xs → E → IsPartitionPoint (λ k. order_at order (slice_get xs k)) (length xs) (i + 1) → ((d : E) → order (get_or xs i d) ≡ Equal) → IsLastEqual order xs i
  found_at xs i up x point equal =
      let within : i < length xs = omega (arith, point.in_range) in
      let all = first_equal xs up x i within equal in
      record {
        first = all.0;
        more = all.1;
        last = all.2;
        split = record {
          in_range = omega (arith, all.2, within);
          below = all.3;
          equal = λ k d le lt. all.4 k d le (omega (arith, lt, all.2));
          above = λ k d le lt. sym (read_at xs k d lt) ∙ is_greater _ (point.above k (omega (arith, le, all.2)) lt);
        };
      }

  pub gap_at : (xs : List E) (i : ℕ) → IsSearchable order xs → IsPartitionPoint (λ k. order_at order (slice_get xs k)) (length xs) i → (0 < i → (d : E) → order (get_or xs (i - 1) d) ≢ Equal) → IsSplit order xs i 0
  gap_at xs i up point differs = record {
    in_range = omega (arith, point.in_range);
    below = λ k d lt.
        let last : i - 1 < length xs = omega (arith, point.in_range, lt) in
        let passed = point.below (i - 1) (omega (arith, lt)) in
        let less : order (get_or xs (i - 1) d) ≡ Less = is_less _ (ap is_gt (sym (read_at xs (i - 1) d last)) ∙ passed) (differs (omega (arith, lt)) d) in
        up.less k (i - 1) d (omega (arith, lt)) last less;
    equal = λ k d le lt. absurd (omega (arith, le, lt));
    above = λ k d le in_range. sym (read_at xs k d in_range) ∙ is_greater _ (point.above k (omega (arith, le)) in_range);
  }

  -- the end is the place of what is sought, if the last entry is lower
  pub behind_lower : (xs : List E) → IsSearchable order xs → (i : ℕ) → i ≡ length xs → ((d : E) → order (get_or xs (length xs - 1) d) ≡ Less) → IsSplit order xs i 0
  behind_lower xs up i end low = record {
    in_range = omega (arith, end);
    below = λ k d lt. up.less k (length xs - 1) d (omega (arith, lt, end)) (omega (arith, lt, end)) (low d);
    equal = λ k d le lt. absurd (omega (arith, le, lt));
    above = λ k d le lt. absurd (omega (arith, le, lt, end));
  }

  module _ (memory : ℕ) (row : List (List E)) (r : IsRow memory row) (up : IsSearchable order (line row)) where
    first : ℕ → Ordering
    first b = order_at order (slice_get (block_at row (b + 1)) 0)

    -- the first entry of a block is compared as the one at its position
    pub first_is : (b : ℕ) → b + 1 < length row → order_at order (slice_get (block_at row (b + 1)) 0) ≡ order_at order (slice_get (line row) (start_of row (b + 1)))
    first_is b lt =
        let same : start_of row (b + 1) + 0 ≡ start_of row (b + 1) = omega arith in
        sym (ap (order_at order) (get_at_position row (b + 1) 0 lt (r (b + 1) lt).some)) ∙ ap (λ (n : ℕ). order_at order (slice_get (line row) n)) same

    start_below : (b : ℕ) → b < length row → start_of row b < length (line row)
    start_below b lt = omega (arith, length_parts row b lt, (r b lt).some)

    start_le : (a b : ℕ) → a ≤ b → b < length row → start_of row a ≤ start_of row b
    start_le a zero le lt = omega (arith, ap (start_of row) (by_zero a le))
      where
        by_zero : (n : ℕ) → n ≤ 0 → n ≡ 0
        by_zero n small = omega arith
    start_le a (suc b) le lt = elim (cases_lt a (suc b)) [
      | inl less ↦
          let one : b + 1 ≡ suc b = omega arith in
          omega (arith, start_le a b (omega (arith, less)) (omega (arith, lt)), start_of-next row b (omega (arith, lt)), ap (start_of row) one)
      | inr more ↦
          let same : a ≡ suc b = omega (arith, more, le) in
          omega (arith, ap (start_of row) same)
    ]

    -- the first entries of the blocks rise, if all entries do
    pub first_rises : (j k : ℕ) → j ≤ k → k < length row - 1 → is_gt (order_at order (slice_get (block_at row (j + 1)) 0)) ≡ true → is_gt (order_at order (slice_get (block_at row (k + 1)) 0)) ≡ true
    first_rises j k le lt above =
        let far : k + 1 < length row = omega (arith, lt) in
        let near : j + 1 < length row = omega (arith, lt, le) in
        let there = start_below (k + 1) far in
        let ordered = start_le (j + 1) (k + 1) (omega (arith, le)) far in
        ap is_gt (first_is k far) ∙ rises_at (line row) up (start_of row (j + 1)) (start_of row (k + 1)) ordered there (ap is_gt (sym (first_is j near)) ∙ above)

    -- and so do those of a block
    pub block_rises : (b : ℕ) → b < length row → (j k : ℕ) → j ≤ k → k < length (block_at row b) → is_gt (order_at order (slice_get (block_at row b) j)) ≡ true → is_gt (order_at order (slice_get (block_at row b) k)) ≡ true
    block_rises b within j k le lt above =
        let at = λ (n : ℕ) (small : n < length (block_at row b)). ap (order_at order) (get_at_position row b n within small) in
        let in_line : start_of row b + k < length (line row) = omega (arith, length_parts row b within, lt) in
        sym (ap is_gt (at k lt)) ∙ rises_at (line row) up (start_of row b + j) (start_of row b + k) (omega (arith, le)) in_line (ap is_gt (at j (omega (arith, le, lt))) ∙ above)

    module _ (b : ℕ) (offset : ℕ) (some : 0 < length row) (blocks : IsPartitionPoint (λ i. order_at order (slice_get (block_at row (i + 1)) 0)) (length row - 1) b)
        (entries : IsPartitionPoint (λ i. order_at order (slice_get (block_at row b) i)) (length (block_at row b)) offset) where
      pub within : b < length row
      within = omega (arith, blocks.in_range, some)

      at_offset : (k : ℕ) → k < length (block_at row b) → order_at order (slice_get (line row) (start_of row b + k)) ≡ order_at order (slice_get (block_at row b) k)
      at_offset k lt = ap (order_at order) (get_at_position row b k within lt)

      before_block : (k : ℕ) → k < start_of row b → is_gt (order_at order (slice_get (line row) k)) ≡ false
      before_block k lt = elim (cases_lt 0 b) [
        | inl later ↦
            let back : b - 1 + 1 ≡ b = omega (arith, later) in
            let passed = blocks.below (b - 1) (omega (arith, later)) in
            let in_row : b - 1 + 1 < length row = omega (arith, later, within) in
            let here : is_gt (order_at order (slice_get (line row) (start_of row b))) ≡ false =
            subst (λ (n : ℕ). is_gt (order_at order (slice_get (line row) (start_of row n))) ≡ false) back (ap is_gt (sym (first_is (b - 1) in_row)) ∙ passed) in
            not_above (λ i. order_at order (slice_get (line row) i)) (length (line row)) (rises_at (line row) up) (start_of row b) k (omega (arith, lt)) (start_below b within) here
        | inr none ↦
            let zero_block : b ≡ 0 = omega (arith, none) in
            absurd (omega (arith, lt, ap (start_of row) zero_block))
      ]

      -- the cuts of the row and of the block are one of the list
      pub point_joined : IsPartitionPoint (λ i. order_at order (slice_get (line row) i)) (length (line row)) (start_of row b + offset)
      point_joined = record {
        in_range = omega (arith, length_parts row b within, entries.in_range);
        below = λ k lt. elim (cases_lt k (start_of row b)) [
          | inl less ↦ before_block k less
          | inr le ↦
              let back : start_of row b + (k - start_of row b) ≡ k = omega (arith, le) in
              let small : k - start_of row b < offset = omega (arith, le, lt) in
              let in_block : k - start_of row b < length (block_at row b) = omega (arith, small, entries.in_range) in
              subst (λ (n : ℕ). is_gt (order_at order (slice_get (line row) n)) ≡ false) back (ap is_gt (at_offset (k - start_of row b) in_block) ∙ entries.below (k - start_of row b) small)
        ];
        above = λ k le in_range. elim (cases_lt k (start_of row b + length (block_at row b))) [
          | inl less ↦
              let back : start_of row b + (k - start_of row b) ≡ k = omega (arith, le) in
              let in_block : k - start_of row b < length (block_at row b) = omega (arith, less, le) in
              subst (λ (n : ℕ). is_gt (order_at order (slice_get (line row) n)) ≡ true) back (ap is_gt (at_offset (k - start_of row b) in_block) ∙ entries.above (k - start_of row b) (omega (arith, le)) in_block)
          | inr past ↦ behind k past in_range
        ];
      }
        where
          behind : (k : ℕ) → start_of row b + length (block_at row b) ≤ k → k < length (line row) → is_gt (order_at order (slice_get (line row) k)) ≡ true
          behind k past in_range = elim (cases_lt (b + 1) (length row)) [
            | inl more ↦
                let first_above = blocks.above b (omega arith) (omega (arith, more)) in
                rises_at (line row) up (start_of row (b + 1)) k (omega (arith, start_of-next row b within, past)) in_range (ap is_gt (sym (first_is b more)) ∙ first_above)
            | inr last ↦ absurd (omega (arith, start_of-next row b within, start_of-all row (b + 1) last, past, in_range))
          ]

      -- at the front of a block that is not the first one no search ends
      pub front : offset ≡ 0 → start_of row b + offset ≡ 0
      front none = elim (cases_lt 0 b) [
        | inl later ↦
            let back : b - 1 + 1 ≡ b = omega (arith, later) in
            let passed = subst (λ (n : ℕ). is_gt (order_at order (slice_get (block_at row n) 0)) ≡ false) back (blocks.below (b - 1) (omega (arith, later))) in
            let is_above = entries.above 0 (omega (arith, none)) (r b within).some in
            absurd (false≢true (sym passed ∙ is_above))
        | inr none_before ↦
            let zero_block : b ≡ 0 = omega (arith, none_before) in
            omega (arith, none, ap (start_of row) zero_block)
      ]
