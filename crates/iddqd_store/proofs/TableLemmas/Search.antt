-- A search that goes from a home on, over cells that are occupied.
use Rattle.std.proofs.Common.{◌≡◌, ℕ, suc, zero, ◌+◌, ◌-◌, ◌*◌, ◌/◌, ◌<◌, ◌≤◌, ◌%◌, Bool, true, false, List, [], ◌∷◌, ◌++◌, Option, None, Some, length, get_or, take, drop, refl, below_more}
use Rattle.std.proofs.Common.{sym, ap, ◌∙◌, subst, arith, cond}
use Rattle.std.specs.List.{count_by, sum_by, Contains}
use Rattle.std.specs.Prelude.{◌≢◌, nat_lt, is_some, if◌then◌else◌}
use Rattle.std.specs.List.Sorted.{IsPermutation}
use Rattle.std.proofs.lemmas.List.{length-append, length-drop, length-take-le, get_or_append_left, get_or-append_right, get_or-take, get_or-drop, take-append-drop}
use Rattle.std.proofs.lemmas.List.Sums.{sum_by_more, sum_by-take-le}
use Rattle.std.proofs.lemmas.List.Sorted.{IsPermutation-append_comm, sum_by-IsPermutation}
use Rattle.std.proofs.lemmas.Bool.{both_ways, eq-eqb}
use Rattle.std.proofs.lemmas.Bool.Decides.{nat_tests}
use Rattle.iddqd_store.specs.Slots.{contents}
use Rattle.iddqd_store.specs.Table.Ring.{gap, stretch, cell}
use Rattle.iddqd_store.specs.Table.{hashes, has_hash, IsTable, IsFirstEmpty, IsWayTo}
use Rattle.iddqd_store.proofs.Plain.{by_order}
use Rattle.iddqd_store.proofs.TableLemmas.Ring.{weight, count-held_items, gap_below}
use Rattle.iddqd_store.proofs.TableLemmas.Stretch.{place, place_below, gap_place, place_gap, place_more, stretch_is, stretch_at_least}
use Rattle.iddqd_store.proofs.SlotLemmas.Contents.{content_at}

abbrev pub Empty : {X : Type 0} → List (Option X) → Type 0
Empty cs = (e : ℕ) × (e < length cs) × (cell cs e ≡ None)

-- if not all cells are occupied, one is empty
pub has_empty : {X : Type 0} (cs : List (Option X)) → length (contents cs) < length cs → Empty cs
has_empty [] h = absurd (omega arith)
has_empty (None ∷ cs) h = (0, omega arith, refl)
has_empty (Some x ∷ cs) h = let f : Empty cs = has_empty cs (omega arith) in (suc f.0, omega arith, f.2)

abbrev StandsIn : {X : Type 0} → List (Option X) → X → Type 0
StandsIn cs x = (q : ℕ) × (q < length cs) × (cell cs q ≡ Some x)

pub stands : {X : Type 0} (cs : List (Option X)) (x : X) → (k : ℕ) → k < length (contents cs) → get_or (contents cs) k x ≡ x → StandsIn cs x
stands [] x k l e = absurd (omega arith)
stands (None ∷ cs) x k l e = let f : StandsIn cs x = stands cs x k l e in (suc f.0, omega arith, f.2)
stands (Some y ∷ cs) x zero l e = (0, omega arith, ap (λ z. Some z) e)
stands (Some y ∷ cs) x (suc k) l e = let f : StandsIn cs x = stands cs x k (omega arith) e in (suc f.0, omega arith, f.2)

pub record Walk (row : List (Option (ℕ × ℕ))) (home at steps : ℕ) : Type 0 where
  pub within : steps < length row
  pub at_is : at ≡ place (length row) home steps
  pub passed : (k : ℕ) → k < steps → cell row (place (length row) home k) ≢ None

pub room : (row : List (Option (ℕ × ℕ))) → IsTable row → 0 < length row → Empty row
room row t l = has_empty row (let f : length (contents row) ≤ length row / 8 * 7 = t.fits in omega arith)

pub walk_below : (row : List (Option (ℕ × ℕ))) (home at s : ℕ) → home < length row → Walk row home at s → at < length row
walk_below row home at s l w = rw w.at_is (place_below (length row) home s l w.within)

-- a cell that is empty lies beyond cells that are not
pub past_walk : (row : List (Option (ℕ × ℕ))) (home e m : ℕ) → home < length row → e < length row → cell row e ≡ None
    → ((k : ℕ) → k < m → cell row (place (length row) home k) ≢ None) → m ≤ gap (length row) home e
past_walk row home e m l le none passed =
    by_order (gap (length row) home e) m (λ h. absurd (passed _ h (ap (cell row) (place_gap (length row) home e l le) ∙ none))) (λ h. h)

passed_on : (row : List (Option (ℕ × ℕ))) (home at s : ℕ) → Walk row home at s → cell row at ≢ None → (k : ℕ) → k < s + 1 → cell row (place (length row) home k) ≢ None
passed_on row home at s w some = below_more (λ (k : ℕ). cell row (place (length row) home k) ≢ None) s w.passed (rw w.at_is at some)

-- the next cell, if this one is occupied
pub walk_more : (row : List (Option (ℕ × ℕ))) (home at s : ℕ) → IsTable row → home < length row → Walk row home at s → cell row at ≢ None
    → (at' s' : ℕ) → at' ≡ (if nat_lt (at + 1) (length row) then at + 1 else 0) → s' ≡ s + 1 → Walk row home at' s'
walk_more row home at s t l w some at' s' ea es =
    let e : Empty row = room row t (omega arith) in
    let more : (k : ℕ) → k < s + 1 → cell row (place (length row) home k) ≢ None = passed_on row home at s w some in
    let far = past_walk row home e.0 (s + 1) l e.1 e.2 more in
    let most = gap_below (length row) home e.0 l e.1 in
    record {
      within = omega (arith, far, most, es);
      at_is = rw es (ea ∙ rw w.at_is (sym (place_more (length row) home s l (omega (arith, far, most)))));
      passed = λ k lk. more k (omega arith);
    }

-- the walk ends at an empty cell
pub walk_end : (row : List (Option (ℕ × ℕ))) (hash at s : ℕ) → IsTable row → Walk row (hash % length row) at s → cell row at ≡ None → stretch (hashes (contents row)) (length row) hash ≡ s
walk_end row hash at s t w none = stretch_is (λ (p : ℕ × ℕ). p.0) (length row) row refl (let l = w.within in omega arith) t.reached hash s w.within w.passed (rw w.at_is at none)

-- a pair with a hash is met before the first empty cell
pub walk_meets : (row : List (Option (ℕ × ℕ))) (hash at s index : ℕ) → IsTable row → Walk row (hash % length row) at s → cell row at ≡ None → Contains (contents row) (hash, index)
    → (k : ℕ) × (k < s) × (cell row (place (length row) (hash % length row) k) ≡ Some (hash, index))
walk_meets row hash at s index t w none c =
    let f : StandsIn row (hash, index) = stands row (hash, index) c.0 c.1 c.2 in
    let n : ℕ = length row in
    let home : ℕ = hash % n in
    let within : s < n = w.within in
    let lh : home < n = omega arith in
    let pg : place n home (gap n home f.0) ≡ f.0 = place_gap n home f.0 lh f.1 in
    by_order (gap n home f.0) s (λ (h : gap n home f.0 < s). (gap n home f.0, h, ap (cell row) pg ∙ f.2))
    (λ (h : s ≤ gap n home f.0).
    let pb : at < n = walk_below row home at s lh w in
    let gp : gap n home at ≡ s = ap (gap n home) w.at_is ∙ gap_place n home s lh within in
    absurd (t.reached f.0 (hash, index) f.1 f.2 at pb (subst (λ (i : ℕ). i ≤ gap n home f.0) (sym gp) h) none))

abbrev pub Refused : List (Option (ℕ × ℕ)) → ℕ → (ℕ → Bool) → ℕ → Type 0
Refused row hash accepts s = (k : ℕ) → k < s → (index : ℕ) → cell row (place (length row) (hash % length row) k) ≡ Some (hash, index) → accepts index ≡ false

pub refused_more : (row : List (Option (ℕ × ℕ))) (hash : ℕ) (accepts : ℕ → Bool) (s t at : ℕ) (x : ℕ × ℕ) → t ≡ s + 1
    → Walk row (hash % length row) at s → cell row at ≡ Some x → Refused row hash accepts s → (x.0 ≡ hash → accepts x.1 ≡ false)
    → Refused row hash accepts t
refused_more row hash accepts s t at x e w i r declines k l =
    below_more (λ (k : ℕ). (index : ℕ) → cell row (place (length row) (hash % length row) k) ≡ Some (hash, index) → accepts index ≡ false) s r
    (λ index j.
    let b : x ≡ (hash, index) = let a = ap (cell row) w.at_is ∙ j in cc (i, a) in
    ap accepts (sym (ap (λ (p : ℕ × ℕ). p.1) b)) ∙ declines (ap (λ (p : ℕ × ℕ). p.0) b))
    k (omega arith)

-- the cells in order, from place a on and round
abbrev pub ahead : {X : Type 0} → List (Option X) → ℕ → List (Option X)
ahead cs a = drop a cs ++ take a cs

length-ahead : {X : Type 0} (cs : List (Option X)) (a : ℕ) → a < length cs → length (ahead cs a) ≡ length cs
length-ahead cs a l = simp (length-append, length-drop) (let t : length (take a cs) ≡ a = length-take-le a cs (omega arith) in omega arith)

pub ahead_at : {X : Type 0} (cs : List (Option X)) (a k : ℕ) → a < length cs → k < length cs → cell (ahead cs a) k ≡ cell cs (place (length cs) a k)
ahead_at cs a k l m =
    let d : length (drop a cs) ≡ length cs - a = length-drop a cs in
    by_order k (length cs - a) (λ (h : k < length cs - a).
    let e : a + k ≡ place (length cs) a k = grind (arith, nat_tests) in
    get_or_append_left (drop a cs) (take a cs) None k (omega arith) ∙ (get_or-drop a cs k None ∙ ap (cell cs) e))
    (λ (h : length cs - a ≤ k).
    let e : k - (length cs - a) ≡ place (length cs) a k = grind (arith, nat_tests) in
    get_or-append_right (drop a cs) (take a cs) (length cs - a) k None d h ∙ (get_or-take a cs (k - (length cs - a)) None (omega arith) ∙ ap (cell cs) e))

-- how many of the pairs in the first s cells from a on pass a test
abbrev pub met : {X : Type 0} → (X → Bool) → List (Option X) → ℕ → ℕ → ℕ
met q cs a s = sum_by (weight q) (take s (ahead cs a))

pub met_more : {X : Type 0} (q : X → Bool) (cs : List (Option X)) (a s : ℕ) (x : X) → a < length cs → s < length cs
    → cell cs (place (length cs) a s) ≡ Some x → (t : ℕ) → t ≡ s + 1 → met q cs a t ≡ met q cs a s + cond (q x) 1 0
met_more q cs a s x l m e t et =
    let i : cell (ahead cs a) s ≡ Some x = ahead_at cs a s l m ∙ e in
    let la : length (ahead cs a) ≡ length cs = length-ahead cs a l in
    ap (met q cs a) et ∙ (sum_by_more (weight q) (ahead cs a) s None (omega arith) ∙ ap (λ (o : Option _). met q cs a s + weight q o) i)

pub met_within : {X : Type 0} (q : X → Bool) (cs : List (Option X)) (a s : ℕ) → met q cs a s ≤ count_by q (contents cs)
met_within q cs a s =
    let p : IsPermutation (drop a cs ++ take a cs) (take a cs ++ drop a cs) = IsPermutation-append_comm (drop a cs) (take a cs) in
    let e : sum_by (weight q) (take a cs ++ drop a cs) ≡ sum_by (weight q) (ahead cs a) = sum_by-IsPermutation (weight q) _ _ p in
    let f : sum_by (weight q) cs ≡ sum_by (weight q) (ahead cs a) = subst (λ (xs : List (Option _)). sum_by (weight q) xs ≡ sum_by (weight q) (ahead cs a)) (take-append-drop a cs) e in
    let h : count_by q (contents cs) ≡ sum_by (weight q) cs = count-held_items q cs in
    let t : met q cs a s ≤ sum_by (weight q) (ahead cs a) = sum_by-take-le (weight q) (ahead cs a) s in
    omega arith

-- one more pair with the hash
pub met_by_hash : (hash : ℕ) (row : List (Option (ℕ × ℕ))) (a s : ℕ) (x : ℕ × ℕ) → a < length row → s < length row → cell row (place (length row) a s) ≡ Some x → x.0 ≡ hash → (t : ℕ) → t ≡ s + 1
    → met (has_hash hash) row a t ≡ met (has_hash hash) row a s + 1
met_by_hash hash row a s x l m e h t et =
    met_more (has_hash hash) row a s x l m e t et ∙ ap (λ (b : Bool). met (has_hash hash) row a s + cond b 1 0) (eq-eqb x.0 hash h)

pub met_grows : (hash : ℕ) (row : List (Option (ℕ × ℕ))) (a s : ℕ) (x : ℕ × ℕ) → a < length row → s < length row → cell row (place (length row) a s) ≡ Some x → (t : ℕ) → t ≡ s + 1
    → met (has_hash hash) row a s ≤ met (has_hash hash) row a t
met_grows hash row a s x l m e t et = let f = met_more (has_hash hash) row a s x l m e t et in omega arith

-- the probes of a search that finds a pair
pub walk_found : (row : List (Option (ℕ × ℕ))) (hash at s t : ℕ) → IsTable row → Walk row (hash % length row) at s → cell row at ≢ None → t ≡ s + 1
    → t ≤ stretch (hashes (contents row)) (length row) hash
walk_found row hash at s t table w some e =
    let within : s < length row = w.within in
    let r : Empty row = room row table (omega arith) in
    stretch_at_least (λ (p : ℕ × ℕ). p.0) (length row) row refl (omega arith) table.reached r.0 r.1 r.2 hash t (omega arith)
    (λ k lk. passed_on row (hash % length row) at s w some k (omega arith))

pub found_there : (row : List (Option (ℕ × ℕ))) (at hash : ℕ) (x : ℕ × ℕ) → cell row at ≡ Some x → x.0 ≡ hash → Contains (contents row) (hash, x.1)
found_there row at hash x e h = content_at row at (hash, x.1) (e ∙ ap (λ (i : ℕ). Some (i, x.1)) h)

pub walk_first : (row : List (Option (ℕ × ℕ))) (home at s : ℕ) → home < length row → Walk row home at s → cell row at ≡ None → IsFirstEmpty row home at
walk_first row home at s l w none = record {
  below = walk_below row home at s l w;
  empty = none;
  first = λ q lq h.
      let g : gap (length row) home at ≡ s = ap (gap (length row) home) w.at_is ∙ gap_place (length row) home s l w.within in
      let f : cell row (place (length row) home (gap (length row) home q)) ≢ None = w.passed (gap (length row) home q) (subst (λ (m : ℕ). gap (length row) home q < m) g h) in
      subst (λ (p : ℕ). cell row p ≢ None) (place_gap (length row) home q l lq) f;
}

pub none_from_test : {X : Type 0} (o p : Option X) (b : Bool) → o ≡ p → b ≡ is_some o → b ≡ false → p ≡ None
none_from_test None p b e f h = sym e
none_from_test (Some x) p b e f h = absurd (both_ways b h f)

pub some_from_test : {X : Type 0} (o p : Option X) (b : Bool) → o ≡ p → b ≡ is_some o → b ≡ true → p ≢ None
some_from_test None p b e f h = absurd (both_ways b f h)
some_from_test (Some x) p b e f h = λ z. cc (e, z)

pub walk_to : (row : List (Option (ℕ × ℕ))) (home at : ℕ) → home < length row → IsWayTo row home at → Walk row home at (gap (length row) home at)
walk_to row home at l w = record {
  within = gap_below (length row) home at l w.below;
  at_is = sym (place_gap (length row) home at l w.below);
  passed = λ k lk.
      let g : gap (length row) home at < length row = gap_below (length row) home at l w.below in
      let e : gap (length row) home (place (length row) home k) ≡ k = gap_place (length row) home k l (omega arith) in
      w.first (place (length row) home k) (place_below (length row) home k l (omega arith)) (omega arith);
}

pub walk_gap : (row : List (Option (ℕ × ℕ))) (home at s : ℕ) → home < length row → Walk row home at s → gap (length row) home at ≡ s
walk_gap row home at s l w = ap (gap (length row) home) w.at_is ∙ gap_place (length row) home s l w.within

-- an empty cell lies beyond the walk
pub beyond : (row : List (Option (ℕ × ℕ))) (home at s : ℕ) → IsTable row → home < length row → Walk row home at s → (e : ℕ) × (e < length row) × (cell row e ≡ None) × (s ≤ gap (length row) home e)
beyond row home at s t l w = let e : Empty row = room row t (omega arith) in (e.0, e.1, e.2, past_walk row home e.0 s l e.1 e.2 w.passed)

abbrev pub Unmet : List (Option (ℕ × ℕ)) → ℕ → ℕ × ℕ → ℕ → Type 0
Unmet row home x s = (k : ℕ) → k < s → cell row (place (length row) home k) ≢ Some x

pub unmet_more : (row : List (Option (ℕ × ℕ))) (home at s t : ℕ) (x : ℕ × ℕ) → t ≡ s + 1 → Walk row home at s → Unmet row home x s → cell row at ≢ Some x → Unmet row home x t
unmet_more row home at s t x e w u f k l =
    below_more (λ (k : ℕ). cell row (place (length row) home k) ≢ Some x) s u (λ j. f (ap (cell row) w.at_is ∙ j)) k (omega arith)

-- a pair that is there and was not met yet lies further on
pub seek_on : (row : List (Option (ℕ × ℕ))) (hash at s index : ℕ) → IsTable row → Walk row (hash % length row) at s
    → Contains (contents row) (hash, index) → Unmet row (hash % length row) (hash, index) s → cell row at ≢ None
seek_on row hash at s index t w c u none = let f = walk_meets row hash at s index t w none c in u f.0 f.1 f.2
