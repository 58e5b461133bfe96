-- An iteration in which each item is written.
use Rattle.std.specs.Prelude.{◌≡◌, ℕ, true, is_some, List, [], ◌∷◌, ◌++◌, map, IsPermutation, Option, Some, None, IfSome, IfNone}
use Rattle.std.proofs.Common.{sym, ap, ◌∙◌, subst, append-nil, append_assoc}
use Rattle.std.proofs.lemmas.List.Sorted.{IsPermutation-refl}
use Rattle.std.proofs.lemmas.List.{map-append}
use Rattle.iddqd_store.specs.Map.{Map, bag}
use Rattle.iddqd_store.specs.Map.Walk.{passed_items, to_come, Passes}
use Rattle.iddqd_store.proofs.CallerLemmas.{passed_items-to_come}

module _ {T : Type 0} (put : T → T) where
  -- one more item is written
  pub step_done : (done before behind after rest all later : List T) (x : T) → before ≡ map put done → done ++ behind ≡ all → behind ≡ x ∷ later
      → after ≡ before ++ put x ∷ [] → rest ≡ later → (after ≡ map put (done ++ x ∷ [])) × ((done ++ x ∷ []) ++ rest ≡ all)
  step_done done before behind after rest all later x was held comes goes stays =
      (goes ∙ ap (λ l. l ++ put x ∷ []) was ∙ sym (map-append put done (x ∷ [])), append_assoc done (x ∷ []) rest ∙ ap (λ l. done ++ x ∷ l) stays ∙ ap (λ l. done ++ l) (sym comes) ∙ held)

  -- all items are written if none is to come
  pub all_done : {S : Type 0} (m : Map T S) (at : ℕ) (done all : List T) → passed_items m at ≡ map put done → done ++ to_come m at ≡ all → to_come m at ≡ [] → IsPermutation (bag m) (map put all)
  all_done m at done all was held none =
      let whole : bag m ≡ passed_items m at = passed_items-to_come m at ∙ ap (λ l. passed_items m at ++ l) none ∙ append-nil (passed_items m at) in
      let same : done ≡ all = sym (append-nil done) ∙ ap (λ l. done ++ l) (sym none) ∙ held in
      subst (IsPermutation (bag m)) (whole ∙ was ∙ ap (map put) same) (IsPermutation-refl (bag m))

-- P holds if there is no item
pub none_holds : {X P : Type 0} (o : Option X) → o ≡ None → IfNone o P → P
none_holds None is h = h
none_holds (Some x) is h = absurd (cc is)

-- P holds for the item that there is
pub some_holds : {X : Type 0} (P : X → Type 0) (o : Option X) → is_some o ≡ true → IfSome o P → (x : X) × P x
some_holds P None some h = absurd (cc some)
some_holds P (Some x) some h = (x, h)

-- the first item is written if none was passed
pub first_written : {T S : Type 0} (m : Map T S) (from : ℕ) (x : T) (w : (T → T) → Map T S) (to : ℕ) (all : List T) → passed_items m from ≡ []
    → to_come m from ≡ all → Passes m from x w to → (f : T → T) → (all ≡ x ∷ to_come m to) × (bag (w f) ≡ f x ∷ to_come m to)
first_written m from x w to all none is pass f =
    (sym is ∙ pass.comes, passed_items-to_come (w f) to ∙ ap (λ l. l ++ to_come (w f) to) (pass.before f ∙ ap (λ l. l ++ f x ∷ []) none) ∙ ap (λ l. f x ∷ l) (pass.behind f))
