-- How a bag changes: it gets one item more, one replaces others, one replaces another, or some are removed.
use Rattle.std.specs.Prelude.{◌≡◌, ◌≢◌, ◌==◌, Bool, true, false, cond, List, [], ◌∷◌, ◌++◌, length, map, filter, Ok, Err, IsPermutation}
use Rattle.std.specs.List.{AllByRecursion}
use Rattle.std.proofs.Common.{refl, sym, ap, subst, ◌∙◌, arith}
use Rattle.std.proofs.lemmas.Map.Keys.{IsDistinct-cons}
use Rattle.std.proofs.lemmas.Bool.{and_parts}
use Rattle.std.proofs.lemmas.Bool.Decides.{nat_tests}
use Rattle.std.proofs.lemmas.List.Sorted.{IsPermutation-trans, length_permutation}
use Rattle.std.proofs.lemmas.List.Sums.{fold_push}
use Rattle.std.proofs.lemmas.List.{nil_from_length}
use Rattle.iddqd_store.proofs.BagLemmas.Exchanges.{split, IsPermutation-filter}
use Rattle.iddqd_store.proofs.BagLemmas.Sound.{IsDistinct-nil, IsPermutation-conflicting, IsSound-with_item, with_item-IsPermutation}
use Rattle.iddqd_store.specs.Bag.{Ranks, do_conflict, agrees, IsSound, conflicts_of, conflicting, with_item, with_items, add, add_next, adds, AreLawful}
use Rattle.iddqd_store.proofs.Plain.{same_ok, ok_or_err}

module _ {T : Type 0} where
  pub IsSound-nil : (ranks : Ranks T) → IsSound ranks []
  IsSound-nil ranks = IsDistinct-nil (do_conflict ranks)

  pub conflicts_of-IsPermutation : (ranks : Ranks T) (xs ys : List T) (x : T) → IsPermutation xs ys → IsPermutation (conflicts_of ranks xs x) (conflicts_of ranks ys x)
  conflicts_of-IsPermutation ranks xs ys x p = IsPermutation-filter (do_conflict ranks x) xs ys p

  -- as many members conflict as are listed
  pub length-conflicts_of : (ranks : Ranks T) (bag : List T) (x : T) → length (conflicts_of ranks bag x) ≡ length (conflicting ranks bag x)
  length-conflicts_of ranks bag x = length_permutation _ _ (IsPermutation-conflicting ranks bag x)

  -- a filter that finds nothing
  pub none_passes : (p : T → Bool) (xs : List T) → filter p xs ≡ [] → AllByRecursion (λ y. p y ≡ false) xs
  none_passes p [] h = tt
  none_passes p (x ∷ xs) h =
      split (λ b. cond b (x ∷ filter p xs) (filter p xs) ≡ [] → AllByRecursion (λ y. p y ≡ false) (x ∷ xs)) (p x)
      (λ _ z. absurd (omega (arith, ap length z)))
      (λ e z. (e, none_passes p xs z))
      h

  -- if nothing is listed, nothing conflicts
  pub conflicts_of-empty : (ranks : Ranks T) (bag : List T) (x : T) → conflicting ranks bag x ≡ [] → conflicts_of ranks bag x ≡ []
  conflicts_of-empty ranks bag x h = nil_from_length (conflicts_of ranks bag x) (length-conflicts_of ranks bag x ∙ ap length h)

  pub conflicting-empty : (ranks : Ranks T) (bag : List T) (x : T) → conflicts_of ranks bag x ≡ [] → conflicting ranks bag x ≡ []
  conflicting-empty ranks bag x h = nil_from_length (conflicting ranks bag x) (sym (length-conflicts_of ranks bag x) ∙ ap length h)

  -- no item conflicts if none is listed, and some item conflicts if some item is listed
  pub conflicts_of-unlisted : {X : Type 0} (f : X → T) (found : List X) (ranks : Ranks T) (bag : List T) (x : T) → map f found ≡ conflicting ranks bag x → (length found == 0) ≡ true → conflicts_of ranks bag x ≡ []
  conflicts_of-unlisted f [] ranks bag x is t = conflicts_of-empty ranks bag x (sym is)
  conflicts_of-unlisted f (y ∷ found) ranks bag x is t =
      let e : length (y ∷ found) ≡ 0 = grind (arith, nat_tests) in
      absurd (omega (arith, e))

  pub conflicts_of-listed : {X : Type 0} (f : X → T) (found : List X) (ranks : Ranks T) (bag : List T) (x : T) → map f found ≡ conflicting ranks bag x → (length found == 0) ≡ false → conflicts_of ranks bag x ≢ []
  conflicts_of-listed f [] ranks bag x is t = λ e. absurd (cc t)
  conflicts_of-listed f (y ∷ found) ranks bag x is t = λ e. absurd (cc (is, conflicting-empty ranks bag x e))

  pub IsSound-cons : (ranks : Ranks T) (bag : List T) (x : T) → conflicting ranks bag x ≡ [] → IsSound ranks bag → IsSound ranks (x ∷ bag)
  IsSound-cons ranks bag x h sound = IsDistinct-cons (do_conflict ranks) x bag (none_passes (do_conflict ranks x) bag (conflicts_of-empty ranks bag x h)) sound

  -- `add` if nothing conflicts
  pub add-apart : (ranks : Ranks T) (bag : List T) (x : T) → conflicting ranks bag x ≡ [] → add ranks bag x ≡ Ok (x ∷ bag)
  add-apart ranks bag x h = rw (add, h) refl

  -- `add` if something conflicts
  pub add-refused : (ranks : Ranks T) (bag : List T) (x : T) → conflicting ranks bag x ≢ [] → add ranks bag x ≡ Err (x, conflicting ranks bag x)
  add-refused ranks bag x h = by_order (conflicting ranks bag x) refl
    where
      by_order : (l : List T) → conflicting ranks bag x ≡ l → add ranks bag x ≡ Err (x, conflicting ranks bag x)
      by_order [] none = absurd (h none)
      by_order (y ∷ ys) some = rw (add, some) refl

  pub IsSound-add : (ranks : Ranks T) (bag new : List T) (x : T) → IsSound ranks bag → add ranks bag x ≡ Ok new → IsSound ranks new
  IsSound-add ranks bag new x sound made = by_order (conflicting ranks bag x) refl
    where
      by_order : (l : List T) → conflicting ranks bag x ≡ l → IsSound ranks new
      by_order [] none =
          subst (IsSound ranks) (same_ok (add ranks bag x) (x ∷ bag) new (add-apart ranks bag x none) made) (IsSound-cons ranks bag x none sound)
      by_order (y ∷ ys) some =
          absurd (ok_or_err (add ranks bag x) new (x, conflicting ranks bag x) made (add-refused ranks bag x (λ none. absurd (cc (some, none)))))

  -- the items of a list one after another
  pub overs_push : (ranks : Ranks T) (bag xs : List T) (x : T) → with_items ranks bag (xs ++ x ∷ []) ≡ with_item ranks (with_items ranks bag xs) x
  overs_push ranks bag xs x = fold_push (with_item ranks) bag xs x

  pub IsSound-with_items : (ranks : Ranks T) (bag xs : List T) → IsSound ranks bag → IsSound ranks (with_items ranks bag xs)
  IsSound-with_items ranks bag [] h = h
  IsSound-with_items ranks bag (x ∷ xs) h = IsSound-with_items ranks (with_item ranks bag x) xs (IsSound-with_item ranks bag x h)

  -- one step of `with_items` at a bag in another order
  pub with_items-step : (ranks : Ranks T) (bag xs held new : List T) (x : T) → IsPermutation held (with_items ranks bag xs)
      → IsPermutation new (with_item ranks held x) → IsPermutation new (with_items ranks bag (xs ++ x ∷ []))
  with_items-step ranks bag xs held new x p q = rw (overs_push ranks bag xs x) (IsPermutation-trans _ _ _ q (with_item-IsPermutation ranks held (with_items ranks bag xs) x p))

  pub adds_push : (ranks : Ranks T) (bag xs : List T) (x : T) → adds ranks bag (xs ++ x ∷ []) ≡ add_next ranks (adds ranks bag xs) x
  adds_push ranks bag xs x = fold_push (add_next ranks) (Ok bag) xs x

  -- items with equal keys conflict with the same items
  pub agrees-do_conflict : (ranks : Ranks T) → AreLawful ranks → (x y z : T) → agrees ranks x y ≡ true → do_conflict ranks x z ≡ do_conflict ranks y z
  agrees-do_conflict [] laws x y z h = refl
  agrees-do_conflict (agree ∷ ranks) laws x y z h =
      let both = and_parts (agree x y) (agrees ranks x y) h in
      rw (laws.0.congr x y z both.0, agrees-do_conflict ranks laws.1 x y z both.1) refl
