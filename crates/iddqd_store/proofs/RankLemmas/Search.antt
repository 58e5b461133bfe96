-- What searches find among the members of a sound bag.
use Rattle.std.specs.Prelude.{◌≡◌, ℕ, Bool, true, false, cond, List, [], ◌∷◌, filter, Contains, Option, Some, None}
use Rattle.std.specs.List.{IsDistinct}
use Rattle.std.specs.Option.{option_map_or, option_to_list, option_and_then, IfSome, IfNone}
use Rattle.std.proofs.Common.{inl, inr, refl, sym, ap, ◌∙◌, arith}
use Rattle.std.proofs.lemmas.Bool.{false≢true}
use Rattle.std.proofs.lemmas.Map.Keys.{IsDistinct-head, IsDistinct-tail}
use Rattle.iddqd_store.specs.Slots.{contents, get}
use Rattle.iddqd_store.specs.Rank.Index.{IsIndex, passes_at}
use Rattle.iddqd_store.specs.Slots.Found.{NamesOneOf}
use Rattle.iddqd_store.proofs.BagLemmas.Exchanges.{split}
use Rattle.iddqd_store.proofs.BagLemmas.Sound.{none_pass}
pub use Rattle.iddqd_store.proofs.RankLemmas.Index.{each_at}
use Rattle.iddqd_store.proofs.RankLemmas.Index.{Contains-cons, Contains-cons_cases, Contains-here, each_from_Contains, none_is}
use Rattle.iddqd_store.proofs.SlotLemmas.Contents.{content_at}

module _ {T : Type 0} where
  -- after a member that is named, no other member is named
  none_behind : (agree : T → T → Bool) (test : T → Bool) (x : T) (xs : List T) → NamesOneOf agree test (x ∷ xs) → IsDistinct agree (x ∷ xs) → test x ≡ true → filter test xs ≡ []
  none_behind agree test x xs names apart passes =
      none_pass test xs (each_from_Contains (λ y. test y ≡ false) xs (λ y found.
      split (λ b. b ≡ false) (test y)
      (λ yes. absurd (false≢true (sym (each_at (λ z. agree x z ≡ false) xs y (IsDistinct-head agree x xs apart) found) ∙ names x y (Contains-here x xs) (Contains-cons x y xs found) passes yes)))
      (λ _. refl)))

  -- there is one member that is named
  pub named_among : (agree : T → T → Bool) (test : T → Bool) (xs : List T) (x : T) → NamesOneOf agree test xs → IsDistinct agree xs → test x ≡ true → Contains xs x → filter test xs ≡ x ∷ []
  named_among agree test [] x names apart passes found = absurd (omega (arith, found.1))
  named_among agree test (y ∷ ys) x names apart passes found =
      let rest : NamesOneOf agree test ys = λ a b p q. names a b (Contains-cons y a ys p) (Contains-cons y b ys q) in
      let later : Contains ys x → filter test ys ≡ x ∷ [] = named_among agree test ys x rest (IsDistinct-tail agree y ys apart) passes in
      split (λ b. cond b (y ∷ filter test ys) (filter test ys) ≡ x ∷ []) (test y)
      (λ yes.
      let none : filter test ys ≡ [] = none_behind agree test y ys names apart yes in
      let same : (y ≡ x) = first y ys x found none later in
      ap (λ l. y ∷ l) none ∙ ap (λ z. z ∷ []) same)
      (λ no. elim (Contains-cons_cases y x ys found) [
        | inl is ↦ absurd (false≢true (sym no ∙ ap test is ∙ passes))
        | inr there ↦ later there
      ])
    where
      first : (y : T) (ys : List T) (x : T) → Contains (y ∷ ys) x → filter test ys ≡ [] → (Contains ys x → filter test ys ≡ x ∷ []) → y ≡ x
      first y ys x found none later =
          elim (Contains-cons_cases y x ys found) [
            | inl is ↦ is
            | inr there ↦ absurd (let e : [] ≡ x ∷ [] = sym none ∙ later there in cc)
          ]

  found_among : (agree : T → T → Bool) (test : T → Bool) (slots : List (Option T)) (at : ℕ) → NamesOneOf agree test (contents slots)
      → IsDistinct agree (contents slots) → passes_at test slots at ≡ true → option_to_list (get slots at) ≡ filter test (contents slots)
  found_among agree test slots at names apart accepted = by_slot (get slots at) refl accepted
    where
      by_slot : (o : Option T) → get slots at ≡ o → option_map_or test o false ≡ true → option_to_list o ≡ filter test (contents slots)
      by_slot None is h = absurd (false≢true h)
      by_slot (Some x) is h = sym (named_among agree test (contents slots) x names apart h (content_at slots at x is))

  -- a search among the members gives the slot of the one that is named, if there is one
  pub search_among : (agree : T → T → Bool) (test : T → Bool) (hash : T → ℕ) (h : ℕ) (slots : List (Option T)) (pairs : List (ℕ × ℕ)) (r : Option ℕ)
      → NamesOneOf agree test (contents slots) → IsDistinct agree (contents slots) → IsIndex hash slots pairs
      → ((x : T) → Contains (contents slots) x → test x ≡ true → hash x ≡ h) → IfSome r (λ at. passes_at test slots at ≡ true)
      → IfNone r ((at : ℕ) → Contains pairs (h, at) → passes_at test slots at ≡ false)
      → option_to_list (option_and_then (get slots) r) ≡ filter test (contents slots)
  search_among agree test hash h slots pairs None names apart index alike some none = sym (none_is hash test h slots pairs index alike none)
  search_among agree test hash h slots pairs (Some at) names apart index alike some none = found_among agree test slots at names apart some
