-- A search of the partners that the members of a sound bag have in another.
use Rattle.std.specs.Prelude.{◌≡◌, ◌≢◌, zero, suc, ◌<◌, ◌↔◌, Bool, true, false, ◌&&◌, ◌||◌, List, [], ◌∷◌, length, Option, Some, None, filter, Contains}
use Rattle.std.specs.Bool.{IsTrue}
use Rattle.std.specs.Cmp.{IsPartialEquivalence}
use Rattle.std.specs.List.{list_all, list_any}
use Rattle.std.specs.Option.{option_to_list}
use Rattle.std.proofs.Common.{refl, sym, ap, ◌∙◌, arith}
use Rattle.std.proofs.lemmas.Bool.{false≢true, or_right}
use Rattle.iddqd_store.specs.Bag.{Ranks, same_item, agrees, IsSound, AreLawful, IsSameBag, is_same}
use Rattle.iddqd_store.proofs.RankLemmas.Index.{Contains-cons, Contains-here, each_from_Contains}
use Rattle.iddqd_store.proofs.BagLemmas.Same.{IsSameBag-length, IsSameBag-pair, IsSameBag-from_pairs}
use Rattle.iddqd_store.proofs.BagLemmas.SameTest.{is_same-IsSameBag, IsSameBag-is_same, each_tested, test_each}

or-none : (b : Bool) → (b || false) ≡ b
or-none true = refl
or-none false = refl

module _ {T : Type 0} where
  any_in : (p : T → Bool) (xs : List T) (y : T) → Contains xs y → p y ≡ true → list_any p xs ≡ true
  any_in p [] y found passes = absurd (omega (arith, found.1))
  any_in p (z ∷ zs) y (zero, lt, is) passes =
      let here : p z ≡ true = ap p is ∙ passes in
      rw here refl
  any_in p (z ∷ zs) y (suc k, lt, is) passes = or_right (p z) _ (any_in p zs y (k, omega arith, is) passes)

  any_out : (p : T → Bool) (xs : List T) → list_any p xs ≡ true → (y : T) × Contains xs y × (p y ≡ true)
  any_out p [] h = absurd (false≢true h)
  any_out p (z ∷ zs) h = by_head (p z) refl h (λ k. any_out p zs k)
    where
      by_head : (b : Bool) → p z ≡ b → (b || list_any p zs) ≡ true → (list_any p zs ≡ true → (y : T) × Contains zs y × (p y ≡ true)) → (y : T) × Contains (z ∷ zs) y × (p y ≡ true)
      by_head true is h on = (z, Contains-here z zs, is)
      by_head false is h on =
          let rest = on h in
          (rest.0, Contains-cons z rest.0 zs rest.1, rest.2)

module _ {T : Type 0} (ranks : Ranks T) (eq : T → T → Bool) (laws : AreLawful ranks) (same : IsPartialEquivalence eq) (bag other : List T) where
  -- any function that agrees with the test decides whether the bags are the same
  pub same_decides : (r : Bool) → r ≡ is_same ranks eq bag other → IsTrue r ↔ IsSameBag ranks eq bag other
  same_decides r is = (λ h. is_same-IsSameBag ranks eq laws same bag other (sym is ∙ h), λ h. is ∙ IsSameBag-is_same ranks eq laws same bag other h)

  by_answer : (is_same ranks eq bag other ≡ true → ⊥) → is_same ranks eq bag other ≡ false
  by_answer never = cases (is_same ranks eq bag other) refl
    where
      cases : (b : Bool) → is_same ranks eq bag other ≡ b → is_same ranks eq bag other ≡ false
      cases false is = is
      cases true is = absurd (never is)

  -- bags of different lengths are not the same
  pub told_longer : length bag ≢ length other → is_same ranks eq bag other ≡ false
  told_longer differs = by_answer (λ h. differs (IsSameBag-length ranks eq bag other (is_same-IsSameBag ranks eq laws same bag other h)))

  -- bags are not the same if some member has no partner
  pub told_alone : list_all (λ x. list_any (same_item ranks eq x) other) bag ≡ false → is_same ranks eq bag other ≡ false
  told_alone none =
      by_answer (λ h. false≢true (sym none ∙ test_each _ bag (λ x found.
      let pair = IsSameBag-pair ranks eq bag other (is_same-IsSameBag ranks eq laws same bag other h) x found in
      any_in (same_item ranks eq x) other pair.0 pair.1 pair.2)))

  -- if there are as many members, and all members of a sound bag have partners, the bags are the same
  pub told_same : 0 < length ranks → IsSound ranks bag → length bag ≡ length other → list_all (λ x. list_any (same_item ranks eq x) other) bag ≡ true → is_same ranks eq bag other ≡ true
  told_same some sound long all =
      IsSameBag-is_same ranks eq laws same bag other
      (IsSameBag-from_pairs ranks eq laws some bag other sound long
      (each_from_Contains _ bag (λ x found. any_out (same_item ranks eq x) other (each_tested (λ x. list_any (same_item ranks eq x) other) bag all x found))))

-- the partner of an item is among those with its key of the first rank
among_named : {T : Type 0} (a r e : T → Bool) (xs : List T) → list_any (λ y. (a y && r y) && e y) xs ≡ list_any (λ y. r y && e y) (filter a xs)
among_named a r e [] = refl
among_named a r e (x ∷ xs) = by_head (a x) refl (among_named a r e xs)
  where
    by_head : (b : Bool) → a x ≡ b → list_any (λ y. (a y && r y) && e y) xs ≡ list_any (λ y. r y && e y) (filter a xs)
        → list_any (λ y. (a y && r y) && e y) (x ∷ xs) ≡ list_any (λ y. r y && e y) (filter a (x ∷ xs))
    by_head true is rest = rw is (ap (λ b. (r x && e x) || b) rest)
    by_head false is rest = rw is rest

module _ {T : Type 0} (agree : T → T → Bool) (ranks : Ranks T) (eq : T → T → Bool) (bag : List T) (x : T) where
  pub partner_none : (o : Option T) → option_to_list o ≡ filter (agree x) bag → o ≡ None → list_any (same_item (agree ∷ ranks) eq x) bag ≡ false
  partner_none None is none = among_named (agree x) (agrees ranks x) (eq x) bag ∙ ap (list_any (λ y. agrees ranks x y && eq x y)) (sym is)
  partner_none (Some y) is none = absurd (cc none)

  pub partner_some : (o : Option T) (y : T) → option_to_list o ≡ filter (agree x) bag → o ≡ Some y → list_any (same_item (agree ∷ ranks) eq x) bag ≡ (agrees ranks x y && eq x y)
  partner_some None y is found = absurd (cc found)
  partner_some (Some z) y is found =
      let same : z ≡ y = cc found in
      rw (← same) (among_named (agree x) (agrees ranks x) (eq x) bag ∙ ap (list_any (λ y. agrees ranks x y && eq x y)) (sym is) ∙ or-none (agrees ranks x z && eq x z))
