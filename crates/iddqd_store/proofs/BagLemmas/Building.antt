-- Bags that are built from a list.
use Rattle.std.specs.Prelude.{◌≡◌, ◌≢◌, ◌≤◌, suc, List, [], ◌∷◌, ◌++◌, length, fold, Result, Ok, Err, Option, IsPermutation}
use Rattle.std.proofs.Common.{refl, sym, ap, subst, ◌∙◌, arith}
use Rattle.std.proofs.lemmas.List.Folds.{fold_stays}
use Rattle.std.proofs.lemmas.List.Sorted.{IsPermutation-refl, IsPermutation-middle, IsPermutation-sym, IsPermutation-cons, IsPermutation-trans, length_permutation}
use Rattle.std.proofs.lemmas.List.{nil_from_length}
use Rattle.iddqd_store.specs.Bag.{Ranks, AreLawful, IsSound, conflicts_of, conflicting, with_item, add, add_next, adds}
use Rattle.iddqd_store.specs.Bag.Building.{GivesThen, AddsTo, RefusesFor, HasPlaceFor}
use Rattle.iddqd_store.proofs.Plain.{same_ok, ok_or_err}
use Rattle.iddqd_store.proofs.BagLemmas.Sound.{length-with_item, conflicting-IsPermutation, IsSound-IsPermutation}
use Rattle.iddqd_store.proofs.BagLemmas.Steps.{IsSound-nil, IsSound-add, conflicts_of-IsPermutation, conflicts_of-empty, conflicting-empty, add-apart, add-refused, adds_push}

pub GivesThen-weaker : {U S T : Type 0} (becomes : U → S → Type 0) (steps : S → Option T → S → Type 0) (iter : U) (x : T) (P Q : List T → Type 0)
    → ((xs : List T) → P xs → Q xs) → GivesThen becomes steps iter x P → GivesThen becomes steps iter x Q
GivesThen-weaker becomes steps iter x P Q f h = (h.0, h.1, h.2, h.3, h.4, f h.1 h.5)

module _ {T : Type 0} where
  -- at most one item more
  pub length-overwritten : (ranks : Ranks T) (bag new : List T) (x : T) → IsPermutation new (with_item ranks bag x) → length new ≤ suc (length bag)
  length-overwritten ranks bag new x p = omega (arith, length_permutation new (with_item ranks bag x) p, length-with_item ranks bag x)

  -- an item that conflicts with no member conflicts with none in another order
  pub conflicts_of-none : (ranks : Ranks T) (held made : List T) (x : T) → IsPermutation held made → conflicts_of ranks held x ≡ [] → conflicts_of ranks made x ≡ []
  conflicts_of-none ranks held made x p free =
      nil_from_length (conflicts_of ranks made x) (length_permutation _ _ (conflicts_of-IsPermutation ranks held made x p) ∙ ap length free)

  add-free : (ranks : Ranks T) (made : List T) (x : T) → conflicts_of ranks made x ≡ [] → add ranks made x ≡ Ok (x ∷ made)
  add-free ranks made x free = add-apart ranks made x (conflicting-empty ranks made x free)

  adds_nothing : (ranks : Ranks T) (bag made : List T) → adds ranks bag [] ≡ Ok made → bag ≡ made
  adds_nothing ranks bag made h = cc

  stays_refused : (ranks : Ranks T) (xs made : List T) (refusal : T × List T) → fold (add_next ranks) (Err refusal) xs ≡ Ok made → ⊥
  stays_refused ranks xs made refusal h = let still = fold_stays (add_next ranks) (Err refusal) (λ x. refl) xs in cc

  -- the bag is sound after a list was added
  pub IsSound-adds : (ranks : Ranks T) (bag xs made : List T) → IsSound ranks bag → adds ranks bag xs ≡ Ok made → IsSound ranks made
  IsSound-adds ranks bag [] made sound is = subst (IsSound ranks) (adds_nothing ranks bag made is) sound
  IsSound-adds ranks bag (x ∷ xs) made sound is = by_first (λ next. IsSound-adds ranks next xs made) (add ranks bag x) refl is
    where
      by_first : ((next : List T) → IsSound ranks next → adds ranks next xs ≡ Ok made → IsSound ranks made) → (r : Result (List T) (T × List T))
          → add ranks bag x ≡ r → fold (add_next ranks) r xs ≡ Ok made → IsSound ranks made
      by_first on (Ok next) put rest = on next (IsSound-add ranks bag next x sound put) rest
      by_first on (Err refusal) put rest = absurd (stays_refused ranks xs made refusal rest)

  added_is : (ranks : Ranks T) (bag next : List T) (x : T) → add ranks bag x ≡ Ok next → next ≡ x ∷ bag
  added_is ranks bag next x put = by_order (conflicting ranks bag x) refl
    where
      by_order : (l : List T) → conflicting ranks bag x ≡ l → next ≡ x ∷ bag
      by_order [] none = same_ok (add ranks bag x) next (x ∷ bag) put (add-apart ranks bag x none)
      by_order (y ∷ ys) some =
          absurd (ok_or_err (add ranks bag x) next (x, conflicting ranks bag x) put (add-refused ranks bag x (λ none. absurd (cc (some, none)))))

  -- the bag has the list that was added and the items that it had
  pub adds-IsPermutation : (ranks : Ranks T) (bag xs made : List T) → adds ranks bag xs ≡ Ok made → IsPermutation made (xs ++ bag)
  adds-IsPermutation ranks bag [] made is = subst (λ l. IsPermutation made l) (sym (adds_nothing ranks bag made is)) (IsPermutation-refl made)
  adds-IsPermutation ranks bag (x ∷ xs) made is = by_first (λ next. adds-IsPermutation ranks next xs made) (add ranks bag x) refl is
    where
      by_first : ((next : List T) → adds ranks next xs ≡ Ok made → IsPermutation made (xs ++ next)) → (r : Result (List T) (T × List T))
          → add ranks bag x ≡ r → fold (add_next ranks) r xs ≡ Ok made → IsPermutation made (x ∷ xs ++ bag)
      by_first on (Ok next) put rest =
          IsPermutation-trans _ _ _ (subst (λ l. IsPermutation made (xs ++ l)) (added_is ranks bag next x put) (on next rest)) (IsPermutation-middle xs x bag)
      by_first on (Err refusal) put rest = absurd (stays_refused ranks xs made refusal rest)

  module _ (ranks : Ranks T) (old new xs : List T) (added : AddsTo ranks old new xs) where
    pub AddsTo-IsPermutation : IsPermutation new (xs ++ old)
    AddsTo-IsPermutation = IsPermutation-trans _ _ _ added.2 (adds-IsPermutation ranks old xs added.0 added.1)

    pub AddsTo-sound : AreLawful ranks → IsSound ranks old → IsSound ranks new
    AddsTo-sound laws sound =
        IsSound-IsPermutation ranks laws added.0 new (IsPermutation-sym _ _ added.2) (IsSound-adds ranks old xs added.0 sound added.1)

  pub AddsTo-nil : (ranks : Ranks T) (bag : List T) → AddsTo ranks bag bag []
  AddsTo-nil ranks bag = (bag, refl, IsPermutation-refl bag)

  -- one more item was added
  pub AddsTo-push : (ranks : Ranks T) (old held new xs : List T) (x : T) → AddsTo ranks old held xs → conflicts_of ranks held x ≡ [] → IsPermutation new (x ∷ held) → AddsTo ranks old new (xs ++ x ∷ [])
  AddsTo-push ranks old held new xs x added free put =
      let made = added.0 in (
        x ∷ made,
        adds_push ranks old xs x ∙ ap (λ r. add_next ranks r x) added.1 ∙ add-free ranks made x (conflicts_of-none ranks held made x added.2 free),
        IsPermutation-trans _ _ _ put (IsPermutation-cons x _ _ added.2),
      )

  module _ (ranks : Ranks T) (held xs : List T) (x : T) (added : AddsTo ranks [] held xs) where
    pub HasPlaceFor-free : conflicts_of ranks held x ≡ [] → HasPlaceFor ranks x xs
    HasPlaceFor-free free = (added.0, added.1, add-free ranks added.0 x (conflicts_of-none ranks held added.0 x added.2 free))

    -- one item was rejected, and the items listed for it are those that the definition lists
    pub RefusesFor-found : AreLawful ranks → conflicts_of ranks held x ≢ [] → RefusesFor ranks x (conflicting ranks held x) xs
    RefusesFor-found laws some =
        let made = added.0 in
        let sound = IsSound-IsPermutation ranks laws made held (IsPermutation-sym _ _ added.2) (IsSound-adds ranks [] xs made (IsSound-nil ranks) added.1) in
        let same = conflicting-IsPermutation ranks laws held made x sound added.2 in
        (made, added.1, add-refused ranks made x (λ none. some (conflicts_of-empty ranks held x (same ∙ none))) ∙ ap (λ l. Err (x, l)) (sym same))
