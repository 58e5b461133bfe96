-- How many walks through a table replace pairs by one pair.
use Rattle.std.specs.Prelude.{◌≡◌, ◌≢◌, ℕ, zero, suc, ◌+◌, ◌*◌, ◌≤◌, ◌==◌, Bool, true, false, List, [], ◌∷◌, length, map, Option, None, Some, ⊤, if◌then◌else◌}
use Rattle.std.specs.Option.{option_map_or}
use Rattle.std.proofs.Common.{refl, ap, arith, subst}
use Rattle.std.proofs.lemmas.Bool.{eqb-true, eq-eqb, ne_eqb}
use Rattle.iddqd_store.specs.Bag.{Ranks}
use Rattle.iddqd_store.specs.Rank.{has_found, rehash_walks, merge_three_walks, merge_two_walks, walks_within, FoundByHash}
use Rattle.iddqd_store.specs.Rank.Index.{AreIndexes, IsIndex, IsIndexed}
use Rattle.iddqd_store.specs.Slots.{contents}
use Rattle.iddqd_store.proofs.RankLemmas.Index.{length-index}

found_at : (o : Option ℕ) (at : ℕ) → o ≡ Some at → option_map_or (λ s. s == at) o false ≡ true
found_at None at h = absurd (cc)
found_at (Some s) at h = let same : s ≡ at = cc in eq-eqb s at same

not_found_at : (o : Option ℕ) (at : ℕ) → o ≢ Some at → option_map_or (λ s. s == at) o false ≡ false
not_found_at None at h = refl
not_found_at (Some s) at h = ne_eqb s at (λ e. h (ap (λ (i : ℕ). Some i) e))

pub one_stays : (before after : ℕ) → before ≡ after → rehash_walks before after ≡ 0
one_stays before after same = rw (eq-eqb _ _ same) refl

pub one_moves : (before after : ℕ) → before ≢ after → rehash_walks before after ≡ 2
one_moves before after other = rw (ne_eqb _ _ other) refl

module _ (before : ℕ) (found : FoundByHash) where
  pub two_found : (at : ℕ) → found.slot ≡ Some at → merge_two_walks before found at ≡ 2
  two_found at here = rw (found_at found.slot at here) refl

  pub two_not_found : (at : ℕ) → found.slot ≢ Some at → merge_two_walks before found at ≡ rehash_walks before found.hash + 1
  two_not_found at away = rw (not_found_at found.slot at away) refl

  pub three_found : (second third : ℕ) → found.slot ≡ Some third → merge_three_walks before found second third ≡ 3
  three_found second third here = rw (found_at found.slot third here) refl

  pub three_not_found : (second third : ℕ) → found.slot ≢ Some third → merge_three_walks before found second third ≡ merge_two_walks before found second + 1
  three_not_found second third away = rw (not_found_at found.slot third away) refl

  -- at most
  at_most_two : (b : Bool) (k : ℕ) → k ≤ 3 → (if b then 2 else k) ≤ 3
  at_most_two true k less = omega arith
  at_most_two false k less = less

  at_most_none : (b : Bool) → (if b then 0 else 2) ≤ 2
  at_most_none true = omega arith
  at_most_none false = omega arith

  at_most_three : (b : Bool) (k : ℕ) → k ≤ 4 → (if b then 3 else k) ≤ 4
  at_most_three true k less = omega arith
  at_most_three false k less = less

  one_most : rehash_walks before found.hash ≤ 2
  one_most = at_most_none (before == found.hash)

  two_most : (at : ℕ) → merge_two_walks before found at ≤ 3
  two_most at = at_most_two (has_found found at) (rehash_walks before found.hash + 1) (let one = one_most in omega (arith, one))

  three_most : (second third : ℕ) → merge_three_walks before found second third ≤ 4
  three_most second third = at_most_three (has_found found third) (merge_two_walks before found second + 1) (let two = two_most second in omega (arith, two))

-- walks through fewer pairs probe no more cells
pub walks_less : (w k n : ℕ) → k ≤ n → w * (k + 1) ≤ w * (n + 1)
walks_less zero k n less = omega arith
walks_less (suc w) k n less = let rest = walks_less w k n less in omega (arith, rest)

-- one walk, and then other walks through fewer pairs
pub walks_more : (w before : ℕ) {k n between after : ℕ} → k ≤ n → between ≤ before + n + 1 → after ≤ between + w * (k + 1) → after ≤ before + (w + 1) * (n + 1)
walks_more w before {k = k} {n = n} less first rest = let fewer = walks_less w k n less in omega (arith, fewer)

-- an insert at a place that a search found makes at most one walk
pub insert_most : (cells row stretch n before after : ℕ) → (cells ≡ row → after ≡ before) → (cells ≢ row → after ≡ before + stretch + 1) → stretch ≤ n → after ≤ before + n + 1
insert_most cells row stretch n before after same other within = by (cells == row) refl
  where
    by : (b : Bool) → (cells == row) ≡ b → after ≤ before + n + 1
    by true e = let stays = same (eqb-true cells row e) in omega (arith, stays)
    by false e = let walks = other (λ is. let t = eq-eqb cells row is in cc (t, e)) in omega (arith, walks, within)

-- a walk that says how many pairs there are
pub once : (n before after : ℕ) → after ≤ before + n + 1 → after ≤ before + 1 * (n + 1)
once n before after walk = omega (arith, walk)

-- walks through one table after another
abbrev pub AreWalked : List (List (ℕ × ℕ)) → List ℕ → ℕ → ℕ → Type 0
AreWalked [] [] before after = after ≡ before
AreWalked [] (w ∷ ws) before after = ⊥
AreWalked (pairs ∷ tables) [] before after = ⊥
AreWalked (pairs ∷ tables) (w ∷ ws) before after = (between : ℕ) × (between ≤ before + w * (length pairs + 1)) × AreWalked tables ws between after

-- walks through a table that has a pair for each item
pub walk_through : {T : Type 0} {hash : T → ℕ} {slots : List (Option T)} {pairs : List (ℕ × ℕ)} (w before after : ℕ) → IsIndex hash slots pairs
    → after ≤ before + w * (length pairs + 1) → after ≤ before + w * (length (contents slots) + 1)
walk_through w before after index walk = subst (λ (n : ℕ). after ≤ before + w * (n + 1)) (length-index index) walk

through_all : {T : Type 0} (hashes : List (T → ℕ)) (slots : List (Option T)) (tables : List (List (ℕ × ℕ))) (ws : List ℕ) (before after : ℕ)
    → AreIndexes hashes slots tables → AreWalked tables ws before after → after ≤ before + walks_within (length (contents slots)) ws
through_all [] slots [] [] before after all walked = omega (arith, walked)
through_all [] slots [] (w ∷ ws) before after all walked = absurd walked
through_all [] slots (pairs ∷ tables) ws before after all walked = absurd all
through_all (hash ∷ hashes) slots [] ws before after all walked = absurd all
through_all (hash ∷ hashes) slots (pairs ∷ tables) [] before after all walked = absurd walked
through_all (hash ∷ hashes) slots (pairs ∷ tables) (w ∷ ws) before after all walked =
    let first = walk_through w before walked.0 all.0 walked.1 in
    let rest = through_all hashes slots tables ws walked.0 after all.1 walked.2 in
    omega (arith, first, rest)

pub walks_all : {T : Type 0} {ranks : Ranks T} {hashes : List (T → ℕ)} {slots : List (Option T)} {tables : List (List (ℕ × ℕ))} (ws : List ℕ)
    (before after : ℕ) → IsIndexed ranks hashes slots tables → AreWalked tables ws before after
    → after ≤ before + walks_within (length (contents slots)) ws
walks_all {hashes = hashes} {slots = slots} {tables = tables} ws before after indexed walked = through_all hashes slots tables ws before after indexed.indexes walked

-- no fewer walks
abbrev pub AreAtMost : List ℕ → List ℕ → Type 0
AreAtMost [] [] = ⊤
AreAtMost [] (v ∷ vs) = ⊥
AreAtMost (w ∷ ws) [] = ⊥
AreAtMost (w ∷ ws) (v ∷ vs) = (w ≤ v) × AreAtMost ws vs

times : (w v n : ℕ) → w ≤ v → w * (n + 1) ≤ v * (n + 1)
times zero v n less = omega arith
times (suc w) zero n less = absurd (omega (arith, less))
times (suc w) (suc v) n less = let rest = times w v n (omega (arith, less)) in omega (arith, rest)

walks_most : (n : ℕ) (ws vs : List ℕ) → AreAtMost ws vs → walks_within n ws ≤ walks_within n vs
walks_most n [] [] most = omega arith
walks_most n [] (v ∷ vs) most = absurd most
walks_most n (w ∷ ws) [] most = absurd most
walks_most n (w ∷ ws) (v ∷ vs) most = let first = times w v n most.0 in let rest = walks_most n ws vs most.1 in omega (arith, first, rest)

-- a cost is within one that allows as many walks
within_most : (n before after : ℕ) (walks most : List ℕ) → AreAtMost walks most → after ≤ before + walks_within n walks → after ≤ before + walks_within n most
within_most n before after walks most few cost = let more = walks_most n walks most few in omega (arith, cost, more)

module _ {T : Type 0} where
  -- how many walks there are at each rank
  abbrev pub walks_each : ((T → ℕ) → FoundByHash → ℕ) → List (T → ℕ) → List FoundByHash → List ℕ
  walks_each walks [] found = []
  walks_each walks (hash ∷ hashes) [] = 0 ∷ walks_each walks hashes []
  walks_each walks (hash ∷ hashes) (at ∷ found) = walks hash at ∷ walks_each walks hashes found

  module _ (walks : (T → ℕ) → FoundByHash → ℕ) (most : ℕ) (few : (hash : T → ℕ) (found : FoundByHash) → walks hash found ≤ most) where
    are_few : (hashes : List (T → ℕ)) (found : List FoundByHash) → AreAtMost (walks_each walks hashes found) (map (λ _. most) hashes)
    are_few [] found = tt
    are_few (hash ∷ hashes) [] = (omega arith, are_few hashes [])
    are_few (hash ∷ hashes) (at ∷ found) = (few hash at, are_few hashes found)

    each_most : (hashes : List (T → ℕ)) (found : List FoundByHash) (n before after : ℕ)
        → after ≤ before + walks_within n (walks_each walks hashes found) → after ≤ before + walks_within n (map (λ _. most) hashes)
    each_most hashes found n before after cost = within_most n before after (walks_each walks hashes found) (map (λ _. most) hashes) (are_few hashes found) cost

  -- at most one more than items leave
  pub ones_most : (gone : T) (hashes : List (T → ℕ)) (found : List FoundByHash) (n before after : ℕ)
      → after ≤ before + walks_within n (walks_each (λ hash at. rehash_walks (hash gone) at.hash) hashes found) → after ≤ before + walks_within n (map (λ _. 2) hashes)
  ones_most gone = each_most (λ hash at. rehash_walks (hash gone) at.hash) 2 (λ hash at. one_most (hash gone) at)

  pub twos_most : (second : ℕ) (gone : T) (hashes : List (T → ℕ)) (found : List FoundByHash) (n before after : ℕ)
      → after ≤ before + walks_within n (walks_each (λ hash at. merge_two_walks (hash gone) at second) hashes found) → after ≤ before + walks_within n (map (λ _. 3) hashes)
  twos_most second gone = each_most (λ hash at. merge_two_walks (hash gone) at second) 3 (λ hash at. two_most (hash gone) at second)

  pub threes_most : (second third : ℕ) (gone : T) (hashes : List (T → ℕ)) (found : List FoundByHash) (n before after : ℕ)
      → after ≤ before + walks_within n (walks_each (λ hash at. merge_three_walks (hash gone) at second third) hashes found) → after ≤ before + walks_within n (map (λ _. 4) hashes)
  threes_most second third gone = each_most (λ hash at. merge_three_walks (hash gone) at second third) 4 (λ hash at. three_most (hash gone) at second third)
