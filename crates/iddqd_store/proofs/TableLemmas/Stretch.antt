-- The full places from a home on are the occupied cells from there on.
use Rattle.std.proofs.Common.{◌≡◌, ℕ, ◌+◌, ◌-◌, ◌<◌, ◌≤◌, ◌%◌, Bool, true, false, leb, ltb, List, Option, None, length, get_or, map, sym, ap, cond, ◌∙◌, arith}
use Rattle.std.specs.List.{list_any, prefix_len, range_with_len}
use Rattle.std.specs.Prelude.{◌≢◌, nat_lt, if◌then◌else◌}
use Rattle.std.specs.Bool.{Decides}
use Rattle.std.specs.List.Sorted.{IsPermutation}
use Rattle.std.proofs.Math.Path.{fun_ext}
use Rattle.std.proofs.lemmas.List.Sorted.{sum_by-IsPermutation}
use Rattle.std.proofs.lemmas.List.{length-append, get_or_append_left, get_or-append_right}
use Rattle.std.proofs.lemmas.List.FromFn.{length-range_with_len, get_or-range_with_len}
use Rattle.std.proofs.lemmas.List.Folds.{Any-from_list_any, list_any_at}
use Rattle.std.proofs.lemmas.List.Sums.{prefix_len_is, prefix_len_stops}
use Rattle.std.proofs.lemmas.Bool.{both_ways, leb-true, le-leb, false_from_ne_true}
use Rattle.std.proofs.lemmas.Bool.Decides.{nat_tests}
use Rattle.iddqd_store.specs.Slots.{contents}
use Rattle.iddqd_store.specs.Table.Ring.{gap, ending, IsFull, is_full, round, stretch, cell, IsReached}
use Rattle.iddqd_store.proofs.Plain.{by_order}
use Rattle.iddqd_store.proofs.TableLemmas.Full.{occupied_exactly_full}

pub is_full_decides : (hashes : List ℕ) (n p : ℕ) → Decides (is_full hashes n p) (IsFull hashes n p)
is_full_decides hashes n p =
    let enough : ℕ → Bool = λ j. leb j (ending hashes n p j) in (
      λ t.
          let f = Any-from_list_any enough (range_with_len 1 n) t in
          let within : f.0 < n = omega (arith, f.2, length-range_with_len 1 n) in
          let at : f.1 ≡ 1 + f.0 = sym f.3 ∙ get_or-range_with_len 1 n f.0 f.1 within in
          (f.1, omega arith, omega arith, leb-true _ _ f.4),
      λ f.
          let at : get_or (range_with_len 1 n) (f.0 - 1) 0 ≡ f.0 = get_or-range_with_len 1 n (f.0 - 1) 0 (omega arith) ∙ omega arith in
          list_any_at enough (range_with_len 1 n) (f.0 - 1) 0 (omega (arith, length-range_with_len 1 n)) (rw at (le-leb _ _ f.3)),
    )

-- the place k steps on from a
abbrev pub place : ℕ → ℕ → ℕ → ℕ
place n a k = if nat_lt (a + k) n then a + k else (a + k) - n

pub place_below : (n a k : ℕ) → a < n → k < n → place n a k < n
place_below n a k b c = grind (arith, nat_tests)

pub gap_place : (n a k : ℕ) → a < n → k < n → gap n a (place n a k) ≡ k
gap_place n a k b c = grind (arith, nat_tests)

pub place_gap : (n a q : ℕ) → a < n → q < n → place n a (gap n a q) ≡ q
place_gap n a q b c = grind (arith, nat_tests)

pub place_more : (n a k : ℕ) → a < n → k + 1 < n → place n a (k + 1) ≡ (if nat_lt (place n a k + 1) n then place n a k + 1 else 0)
place_more n a k b c = grind (arith, nat_tests)

pub length-round : (n a : ℕ) → a < n → length (round n a) ≡ n
length-round n a l = simp (length-append, length-range_with_len) (omega arith)

pub get_or-round : (n a k : ℕ) → a < n → k < n → get_or (round n a) k 0 ≡ place n a k
get_or-round n a k l m =
    by_order k (n - a) (λ (h : k < n - a).
    let e : a + k ≡ place n a k = grind (arith, nat_tests) in
    get_or_append_left (range_with_len a (n - a)) (range_with_len 0 a) 0 k (rw length-range_with_len h) ∙ (get_or-range_with_len a (n - a) k 0 h ∙ e))
    (λ (h : n - a ≤ k).
    let e : 0 + (k - (n - a)) ≡ place n a k = grind (arith, nat_tests) in
    get_or-append_right (range_with_len a (n - a)) (range_with_len 0 a) (n - a) k 0 (length-range_with_len a (n - a)) h ∙ (get_or-range_with_len 0 a (k - (n - a)) 0 (omega arith) ∙ e))

module _ {X : Type 0} (key : X → ℕ) (n : ℕ) (cs : List (Option X)) (len : length cs ≡ n) (pos : 0 < n) (reached : IsReached (λ x. key x % n) n cs) where
  pub full_at : (e : ℕ) → e < n → cell cs e ≡ None → (p : ℕ) → p < n → cell cs p ≢ None → is_full (map key (contents cs)) n p ≡ true
  full_at e le none p lp some = (is_full_decides (map key (contents cs)) n p).1 ((occupied_exactly_full key n cs len pos reached e le none p lp).0 some)

  pub not_full_at : (p : ℕ) → p < n → cell cs p ≡ None → is_full (map key (contents cs)) n p ≡ false
  not_full_at p lp none =
      false_from_ne_true _ (λ t. (occupied_exactly_full key n cs len pos reached p lp none p lp).1 ((is_full_decides (map key (contents cs)) n p).0 t) none)

  -- the run ends at the first empty cell
  pub stretch_is : (h s : ℕ) → s < n → ((k : ℕ) → k < s → cell cs (place n (h % n) k) ≢ None) → cell cs (place n (h % n) s) ≡ None → stretch (map key (contents cs)) n h ≡ s
  stretch_is h s ls some none =
      let a : h % n < n = omega arith in
      let lr : length (round n (h % n)) ≡ n = length-round n (h % n) a in
      let pl : place n (h % n) s < n = place_below n (h % n) s a ls in
      prefix_len_is (is_full (map key (contents cs)) n) (round n (h % n)) s 0 (omega arith)
      (λ k lk. rw (get_or-round n (h % n) k a (omega arith)) (full_at (place n (h % n) s) pl none (place n (h % n) k) (place_below n (h % n) k a (omega arith)) (some k lk)))
      (λ _. rw (get_or-round n (h % n) s a ls) (not_full_at (place n (h % n) s) pl none))

  -- the run is no shorter than the occupied cells that are known
  pub stretch_at_least : (e : ℕ) → e < n → cell cs e ≡ None → (h m : ℕ) → m ≤ n → ((k : ℕ) → k < m → cell cs (place n (h % n) k) ≢ None) → m ≤ stretch (map key (contents cs)) n h
  stretch_at_least e le none h m lm some =
      let a : h % n < n = omega arith in
      let lr : length (round n (h % n)) ≡ n = length-round n (h % n) a in
      let s : ℕ = stretch (map key (contents cs)) n h in
      by_order s m (λ (l : s < m).
      let f : is_full (map key (contents cs)) n (get_or (round n (h % n)) s 0) ≡ false = prefix_len_stops (is_full (map key (contents cs)) n) (round n (h % n)) 0 (omega arith) in
      let t : is_full (map key (contents cs)) n (get_or (round n (h % n)) s 0) ≡ true =
      rw (get_or-round n (h % n) s a (omega arith)) (full_at e le none (place n (h % n) s) (place_below n (h % n) s a (omega arith)) (some s l)) in
      absurd (both_ways _ f t))
      (λ (l : m ≤ s). l)

-- the order of the hashes plays no part
ending_permutation : (xs ys : List ℕ) (n p j : ℕ) → IsPermutation xs ys → ending xs n p j ≡ ending ys n p j
ending_permutation xs ys n p j same = sym (sum_by-IsPermutation (λ h. cond (ltb (gap n (h % n) p) j) 1 0) xs ys same)

full_permutation : (xs ys : List ℕ) (n p : ℕ) → IsPermutation xs ys → is_full xs n p ≡ is_full ys n p
full_permutation xs ys n p same =
    ap (λ (ends : ℕ → ℕ). list_any (λ j. leb j (ends j)) (range_with_len 1 n)) (fun_ext (λ j. ending_permutation xs ys n p j same))

pub stretch_permutation : (xs ys : List ℕ) (n hash : ℕ) → IsPermutation xs ys → stretch xs n hash ≡ stretch ys n hash
stretch_permutation xs ys n hash same = ap (λ (f : ℕ → Bool). prefix_len f (round n (hash % n))) (fun_ext (λ p. full_permutation xs ys n p same))
