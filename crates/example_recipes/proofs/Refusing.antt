-- What a loop keeps that tells which items of a batch cannot be added, and puts references to the others into a bag of their own.
use Rattle.std.specs.Prelude.{Bool, false, true, ◌≡◌, ◌≢◌, ◌||◌, List, [], ◌∷◌, ◌++◌, filter, map, IsPermutation}
use Rattle.std.specs.List.{list_any}
use Rattle.std.proofs.Common.{refl, sym, ap, ◌∙◌, arith}
use Rattle.std.proofs.lemmas.Grind.{common_steps}
use Rattle.std.proofs.lemmas.List.{map-append}
use Rattle.std.proofs.lemmas.List.Elements.{filter-append}
use Rattle.std.proofs.lemmas.List.Sorted.{IsPermutation-append, IsPermutation-map, IsPermutation-refl}
use Rattle.iddqd_bi.specs.Bag.{Ranks, conflicts_of, do_conflict, some_of}
use Rattle.example_recipes.proofs.Loading.{HasLoaded, loaded-added, loaded-refused}

module _ {T : Type 0} (one two : T → Bool) where
  -- what neither of two lookups finds conflicts with nothing
  pub none_found : (bag : List T) → (list_any one bag || list_any two bag) ≡ false → filter (some_of (one ∷ two ∷ [])) bag ≡ []
  none_found [] none = refl
  none_found (y ∷ bag) none = grind (arith, common_steps, none_found bag)

  -- and what one of them finds does
  pub some_found : (bag : List T) → (list_any one bag || list_any two bag) ≡ true → filter (some_of (one ∷ two ∷ [])) bag ≢ []
  some_found [] some = absurd (cc some)
  some_found (y ∷ bag) some = grind (arith, common_steps, some_found bag)

module _ {R T : Type 0} (now : R → T) where
  filter-map : (p : T → Bool) (rs : List R) → filter p (map now rs) ≡ map now (filter (λ r. p (now r)) rs)
  filter-map p [] = refl
  filter-map p (r ∷ rs) = grind (arith, common_steps, filter-map p rs)

  none-map : (rs : List R) → map now rs ≡ [] → rs ≡ []
  none-map [] none = refl
  none-map (r ∷ rs) none = absurd (cc none)

  no_parts : (xs ys : List T) → xs ++ ys ≡ [] → (xs ≡ []) × (ys ≡ [])
  no_parts [] ys none = (refl, none)
  no_parts (x ∷ xs) ys none = absurd (cc none)

  -- `added` are the references to what can be added to `old`.
  module _ (ranks : Ranks T) (old batch rest : List T) (added : List R) (r : R) where
    found : conflicts_of ranks (map now added ++ old) (now r) ≡ map now (filter (λ y. do_conflict ranks (now r) (now y)) added) ++ conflicts_of ranks old (now r)
    found = filter-append (do_conflict ranks (now r)) (map now added) old ∙ ap (λ l. l ++ conflicts_of ranks old (now r)) (filter-map (do_conflict ranks (now r)) added)

    pub refused-added : (others : List T) (new : List R) → conflicts_of ranks old (now r) ≡ [] → filter (λ y. do_conflict ranks (now r) (now y)) added ≡ []
        → IsPermutation new (r ∷ added) → HasLoaded ranks old batch others (map now added ++ old) (now r ∷ rest) → HasLoaded ranks old batch others (map now new ++ old) rest
    refused-added others new free apart went_in h =
        loaded-added ranks old batch others _ _ rest (now r) (rw (found, apart, free) refl)
        (IsPermutation-append _ _ old old (IsPermutation-map now _ _ went_in) (IsPermutation-refl old)) h

    put_aside : (refused : List R) → conflicts_of ranks (map now added ++ old) (now r) ≢ [] → HasLoaded ranks old batch (map now refused) (map now added ++ old) (now r ∷ rest)
        → HasLoaded ranks old batch (map now (refused ++ r ∷ [])) (map now added ++ old) rest
    put_aside refused taken h = rw (map-append now refused (r ∷ [])) (loaded-refused ranks old batch (map now refused) _ rest (now r) taken h)

    pub refused-taken : (refused : List R) → conflicts_of ranks old (now r) ≢ [] → HasLoaded ranks old batch (map now refused) (map now added ++ old) (now r ∷ rest)
        → HasLoaded ranks old batch (map now (refused ++ r ∷ [])) (map now added ++ old) rest
    refused-taken refused taken = put_aside refused (λ none. taken (no_parts _ _ (sym found ∙ none)).1)

    pub refused-again : (refused : List R) → filter (λ y. do_conflict ranks (now r) (now y)) added ≢ [] → HasLoaded ranks old batch (map now refused) (map now added ++ old) (now r ∷ rest)
        → HasLoaded ranks old batch (map now (refused ++ r ∷ [])) (map now added ++ old) rest
    refused-again refused taken = put_aside refused (λ none. taken (none-map _ (no_parts _ _ (sym found ∙ none)).0))
