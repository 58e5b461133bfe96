-- Theorems about a bag; some of them are used for calls. They say how its words are related: writing in place (`swap`),
-- building from a list (`with_items`, `adds`), keeping and rewriting some items, counting by hashes.
use Rattle.std.specs.Prelude.{◌≡◌, ℕ, ◌+◌, ◌<◌, ◌≤◌, Bool, true, false, not, List, [], ◌∷◌, ◌++◌, length, filter, Option, Some, None, IsPermutation}
use Rattle.std.specs.List.{items_where_true}
use Rattle.std.specs.Option.{option_map, option_to_list}
use Rattle.std.proofs.Common.{refl, sym, ap, subst, ◌∙◌, arith}
use Rattle.std.proofs.lemmas.Map.Keys.{IsDistinct-head, IsDistinct-cons}
use Rattle.std.proofs.lemmas.List.Sorted.{IsPermutation-cons, length_permutation}
use Rattle.std.proofs.lemmas.Bool.{not-true}
use Rattle.iddqd_store.proofs.BagLemmas.Exchanges.{IsPermutation-filter}
use Rattle.iddqd_store.proofs.BagLemmas.Steps.{none_passes, conflicts_of-empty, agrees-do_conflict}
use Rattle.iddqd_store.proofs.BagLemmas.Sound.{each_weaker, each_passes, all_pass, IsDistinct-filter, IsSound-IsPermutation}
use Rattle.iddqd_store.specs.Bag.{Ranks, some_of, remainder, tests_of, do_conflict, agrees, IsSound, conflicting, with_item, swap, Keeps, AreLawful}
use Rattle.iddqd_store.specs.Bag.Storing.{Rewrites, RewritesAll}

module _ {T : Type 0} where
  -- if nothing conflicts, x in place of what conflicts is x beside the others
  pub with_item-apart : (ranks : Ranks T) (bag : List T) (x : T) → conflicting ranks bag x ≡ [] → with_item ranks bag x ≡ x ∷ bag
  with_item-apart ranks bag x h =
      let none = none_passes (do_conflict ranks x) bag (conflicts_of-empty ranks bag x h) in
      ap (λ l. x ∷ l) (all_pass (λ y. not (some_of (tests_of ranks x) y)) bag (each_weaker _ _ (λ y e. ap not e) bag none))

  pub IsSound-swap : (ranks : Ranks T) → AreLawful ranks → (bag : List T) (x y : T) → agrees ranks x y ≡ true → IsSound ranks bag → IsSound ranks (swap ranks bag x y)
  IsSound-swap ranks laws bag x y same h =
      let rest : List T = remainder (tests_of ranks x) bag in
      IsDistinct-cons (do_conflict ranks) y rest
      (each_weaker _ _ (λ z e. sym (agrees-do_conflict ranks laws x y z same) ∙ not-true (do_conflict ranks x z) e) rest (each_passes (λ z. not (some_of (tests_of ranks x) z)) bag))
      (IsDistinct-filter (do_conflict ranks) (λ z. not (some_of (tests_of ranks x) z)) bag h)

  -- an item conflicts with itself if there is a rank
  pub do_conflict-self : (ranks : Ranks T) → AreLawful ranks → 0 < length ranks → (x : T) → do_conflict ranks x x ≡ true
  do_conflict-self [] laws h x = absurd (omega arith)
  do_conflict-self (agree ∷ ranks) laws h x = rw (laws.0.refl x) refl

  -- `swap` removes its member and inserts the other
  pub swap-is : (ranks : Ranks T) → AreLawful ranks → 0 < length ranks → (bag rest : List T) (x y : T) → IsSound ranks bag
      → IsPermutation bag (x ∷ rest) → IsPermutation (swap ranks bag x y) (y ∷ rest)
  swap-is ranks laws some bag rest x y sound p =
      let test : T → Bool = λ z. not (some_of (tests_of ranks x) z) in
      let apart = IsDistinct-head (do_conflict ranks) x rest (IsSound-IsPermutation ranks laws bag (x ∷ rest) p sound) in
      let kept : filter test (x ∷ rest) ≡ rest =
      rw (do_conflict-self ranks laws some x) (all_pass test rest (each_weaker _ _ (λ z e. ap not e) rest apart)) in
      IsPermutation-cons y _ _ (subst (IsPermutation (filter test bag)) kept (IsPermutation-filter test bag (x ∷ rest) p))

  pub swap-IsPermutation : (ranks : Ranks T) (xs ys : List T) (x y : T) → IsPermutation xs ys → IsPermutation (swap ranks xs x y) (swap ranks ys x y)
  swap-IsPermutation ranks xs ys x y p = IsPermutation-cons y _ _ (IsPermutation-filter (λ z. not (some_of (tests_of ranks x) z)) xs ys p)

  length-where_true : (bs : List Bool) (xs : List T) → length (items_where_true bs xs) ≤ length xs
  length-where_true [] xs = omega arith
  length-where_true (b ∷ bs) [] = omega arith
  length-where_true (true ∷ bs) (x ∷ xs) = omega (arith, length-where_true bs xs)
  length-where_true (false ∷ bs) (x ∷ xs) = omega (arith, length-where_true bs xs)

  -- no more items are kept than there were
  pub length-keeps : {F : Type 0} (step : F → T → Bool → F → Type 0) (f : F) (bag kept : List T) → Keeps step f bag kept → length kept ≤ length bag
  length-keeps step f bag kept h =
      omega (arith, length_permutation _ _ h.same, length_permutation _ _ h.are, ap length h.filtered.4, length-where_true h.filtered.0 h.listed)

  module _ {F D : Type 0} (step : F → T → Option D → F → Type 0) (put : T → D → T) where
    one_less : (x : T) (o : Option D) (rest : List T) (n : ℕ) → length rest ≤ n → length (option_to_list (option_map (put x) o) ++ rest) ≤ n + 1
    one_less x None rest n h = omega (arith, h)
    one_less x (Some d) rest n h = omega (arith, h)

    length-rewrites : (f : F) (xs new : List T) → Rewrites step put f xs new → length new ≤ length xs
    length-rewrites f [] new h = rw h (omega arith)
    length-rewrites f (x ∷ xs) new h = omega (arith, ap length h.4, one_less x h.0 h.2 (length xs) (length-rewrites h.1 xs h.2 h.5))

    -- no more items are left than there were
    pub length-rewrites_all : (f : F) (bag new : List T) → RewritesAll step put f bag new → length new ≤ length bag
    length-rewrites_all f bag new h = omega (arith, length_permutation bag h.listed h.same, length_permutation new h.left h.are, length-rewrites f h.listed h.left h.rewrites)
