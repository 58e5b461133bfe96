-- No stretch is longer than the number of pairs.
use Rattle.std.proofs.Common.{◌≡◌, ℕ, suc, zero, ◌+◌, ◌<◌, ◌≤◌, ◌%◌, true, List, [], ◌∷◌, Option, None, Some, length, get_or, set, map, replicate, refl, sym, ap, ◌∙◌, subst, ⊎_elim, arith}
use Rattle.std.specs.List.{count_by, prefix_len}
use Rattle.std.specs.List.Sorted.{IsPermutation}
use Rattle.std.specs.Prelude.{◌≢◌}
use Rattle.std.proofs.lemmas.List.{length-replicate, length-set, length-map, map-id}
use Rattle.std.proofs.lemmas.List.Sums.{prefix_len_passes, prefix_len-le-length, count_by-le-length}
use Rattle.std.proofs.lemmas.List.Sorted.{IsPermutation-refl, IsPermutation-cons, IsPermutation-trans, length_permutation}
use Rattle.iddqd_store.specs.Slots.{contents}
use Rattle.iddqd_store.specs.Table.Ring.{gap, stretch, round, is_full, cell, IsReached}
use Rattle.iddqd_store.specs.Table.{hashes}
use Rattle.iddqd_store.proofs.Plain.{by_order}
use Rattle.iddqd_store.proofs.TableLemmas.Write.{reached_put}
use Rattle.iddqd_store.proofs.SlotLemmas.Contents.{contents-put}
use Rattle.iddqd_store.proofs.TableLemmas.Line.{cases_option}
use Rattle.iddqd_store.proofs.TableLemmas.Limits.{held_items-empty, cell-empty}
use Rattle.iddqd_store.proofs.TableLemmas.Stretch.{place, place_below, place_gap, gap_place, is_full_decides, length-round, get_or-round, stretch_permutation}
use Rattle.iddqd_store.proofs.TableLemmas.Full.{occupied_exactly_full, first_empty}
use Rattle.iddqd_store.proofs.TableLemmas.Ring.{gap_below}
use Rattle.iddqd_store.proofs.TableLemmas.Search.{Empty, has_empty, ahead, ahead_at, met, met_more, met_within}

all_met : {X : Type 0} (cs : List (Option X)) (a s : ℕ) → a < length cs → s ≤ length cs → ((k : ℕ) → k < s → cell cs (place (length cs) a k) ≢ None) → s ≤ met (λ _. true) cs a s
all_met cs a zero la ls f = omega arith
all_met cs a (suc s) la ls f =
    let ih : s ≤ met (λ _. true) cs a s = all_met cs a s la (omega arith) (λ k l. f k (omega arith)) in
    ⊎_elim (λ (z : cell cs (place (length cs) a s) ≡ None). absurd (f s (omega arith) z))
    (λ (z : (x : _) × (cell cs (place (length cs) a s) ≡ Some x)).
    let m : met (λ _. true) cs a (suc s) ≡ met (λ _. true) cs a s + 1 = met_more (λ _. true) cs a s z.0 la (omega arith) z.1 (suc s) (omega arith) in
    omega arith)
    (cases_option (cell cs (place (length cs) a s)))

-- in a row of cells in which each key is found from its home on
within_row : {X : Type 0} (key : X → ℕ) (cs : List (Option X)) (hash : ℕ) → 0 < length cs → IsReached (λ x. key x % length cs) (length cs) cs
    → length (contents cs) < length cs → stretch (map key (contents cs)) (length cs) hash ≤ length (contents cs)
within_row {X} key cs hash pos reached few =
    let n : ℕ = length cs in
    let a : ℕ = hash % n in
    let la : a < n = omega arith in
    let hs : List ℕ = map key (contents cs) in
    let s : ℕ = stretch hs n hash in
    let lr : length (round n a) ≡ n = length-round n a la in
    let ls : s ≤ length (round n a) = prefix_len-le-length (is_full hs n) (round n a) in
    let e : Empty cs = has_empty cs few in
    let some : (k : ℕ) → k < s → cell cs (place n a k) ≢ None = λ k lk.
    let p : is_full hs n (get_or (round n a) k 0) ≡ true = prefix_len_passes (is_full hs n) (round n a) k 0 lk in
    let q : is_full hs n (place n a k) ≡ true = ap (is_full hs n) (sym (get_or-round n a k la (omega arith))) ∙ p in
    (occupied_exactly_full key n cs refl pos reached e.0 e.1 e.2 (place n a k) (place_below n a k la (omega arith))).1 ((is_full_decides hs n (place n a k)).0 q) in
    let m : s ≤ met (λ _. true) cs a s = all_met cs a s la (omega arith) some in
    let w : met (λ _. true) cs a s ≤ count_by (λ _. true) (contents cs) = met_within (λ _. true) cs a s in
    let c : count_by (λ _. true) (contents cs) ≤ length (contents cs) = count_by-le-length (λ _. true) (contents cs) in
    omega arith

-- the first empty cell from a place on
pub record FirstFrom {X : Type 0} (cs : List (Option X)) (a : ℕ) : Type 0 where
  pub at : ℕ
  pub below : at < length cs
  pub empty : cell cs at ≡ None
  pub first : (q : ℕ) → q < length cs → gap (length cs) a q < gap (length cs) a at → cell cs q ≢ None

first_from : {X : Type 0} (cs : List (Option X)) (a : ℕ) → a < length cs → Empty cs → FirstFrom cs a
first_from cs a la e =
    let n : ℕ = length cs in
    let g : gap n a e.0 < n = gap_below n a e.0 la e.1 in
    let none : cell (ahead cs a) (gap n a e.0) ≡ None = ahead_at cs a (gap n a e.0) la g ∙ (ap (cell cs) (place_gap n a e.0 la e.1) ∙ e.2) in
    let f = first_empty (ahead cs a) (gap n a e.0) none in
    let lf : f.0 ≤ gap n a e.0 = f.1 in
    let lm : f.0 < n = omega arith in
    let gp : gap n a (place n a f.0) ≡ f.0 = gap_place n a f.0 la lm in
    record {
      at = place n a f.0;
      below = place_below n a f.0 la lm;
      empty = sym (ahead_at cs a f.0 la lm) ∙ f.2;
      first = λ q lq h z.
          let before : gap n a q < f.0 = omega arith in
          f.3 (gap n a q) before (ahead_at cs a (gap n a q) la (gap_below n a q la lq) ∙ (ap (cell cs) (place_gap n a q la lq) ∙ z));
    }

-- a row of n cells with these hashes
pub record Laid (n : ℕ) (hashes : List ℕ) : Type 0 where
  pub row : List (Option ℕ)
  pub len : length row ≡ n
  pub reached : IsReached (λ h. h % n) n row
  pub pairs : IsPermutation hashes (contents row)

laid : (n : ℕ) (hashes : List ℕ) → length hashes < n → Laid n hashes
laid n [] l = record {
  row = replicate n None;
  len = length-replicate n None;
  reached = λ q x lq is i li way z. let e : cell {X = ℕ} (replicate n None) q ≡ None = cell-empty n q in cc (e, is);
  pairs = rw held_items-empty (IsPermutation-refl []);
}
laid n (h ∷ hashes) l =
    let r : Laid n hashes = laid n hashes (omega arith) in
    let rl : length r.row ≡ n = r.len in
    let c : length (contents r.row) ≡ length hashes = length_permutation _ _ r.pairs in
    let f : FirstFrom r.row (h % n) = first_from r.row (h % n) (omega arith) (has_empty r.row (omega arith)) in
    let below : f.at < length r.row = f.below in
    record {
      row = set r.row f.at (Some h);
      len = length-set r.row f.at (Some h) ∙ rl;
      reached = reached_put (λ x. x % n) n r.row f.at h rl (λ x. omega arith) (omega arith) f.empty
          (subst (λ (m : ℕ). (q : ℕ) → q < m → gap m (h % n) q < gap m (h % n) f.at → cell r.row q ≢ None) rl f.first) r.reached;
      pairs = IsPermutation-trans _ _ _ (IsPermutation-cons h hashes (contents r.row) r.pairs) (contents-put r.row f.at h below f.empty);
    }

no_places : (hashes xs : List ℕ) → prefix_len (is_full hashes 0) xs ≡ 0
no_places hashes [] = refl
no_places hashes (x ∷ xs) = refl

-- no row of cells is in this
pub stretch_le_length : (hashes : List ℕ) (n hash : ℕ) → stretch hashes n hash ≤ length hashes
stretch_le_length hashes n hash =
    by_order (length hashes) n (λ (few : length hashes < n).
    let r : Laid n hashes = laid n hashes few in
    let rl : length r.row ≡ n = r.len in
    let c : length (contents r.row) ≡ length hashes = length_permutation _ _ r.pairs in
    let w : stretch (map (λ h. h) (contents r.row)) (length r.row) hash ≤ length (contents r.row) =
    within_row (λ h. h) r.row hash (omega arith) (subst (λ (m : ℕ). IsReached (λ h. h % m) m r.row) (sym rl) r.reached) (omega arith) in
    let v : stretch (contents r.row) n hash ≤ length (contents r.row) = rw (map-id, rl) at w in
    let p : stretch hashes n hash ≡ stretch (contents r.row) n hash = stretch_permutation hashes (contents r.row) n hash r.pairs in
    omega arith)
    (λ (many : n ≤ length hashes).
    by_order 0 n (λ (pos : 0 < n).
    let lr : length (round n (hash % n)) ≡ n = length-round n (hash % n) (omega arith) in
    let ls : stretch hashes n hash ≤ length (round n (hash % n)) = prefix_len-le-length (is_full hashes n) (round n (hash % n)) in
    omega arith)
    (λ (none : n ≤ 0).
    let z : n ≡ 0 = omega arith in
    let s : stretch hashes n hash ≡ 0 = subst (λ (m : ℕ). stretch hashes m hash ≡ 0) (sym z) (no_places hashes (round 0 (hash % 0))) in
    omega arith))

pub stretch_le_pairs : (pairs : List (ℕ × ℕ)) (n hash : ℕ) → stretch (hashes pairs) n hash ≤ length pairs
stretch_le_pairs pairs n hash = rw length-map at (stretch_le_length (hashes pairs) n hash)
