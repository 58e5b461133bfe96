-- How a table is filled from slots, one after another.
use Rattle.std.specs.Prelude.{◌≡◌, ℕ, suc, ◌+◌, ◌<◌, ◌≤◌, List, [], ◌∷◌, ◌++◌, length, map, drop, IsPermutation, Option, Some, None}
use Rattle.std.proofs.Common.{refl, sym, ap, subst, ◌∙◌, arith}
use Rattle.std.proofs.lemmas.List.{drop_more, length-append, length-map}
use Rattle.std.proofs.lemmas.List.Sorted.{IsPermutation-refl, IsPermutation-sym, IsPermutation-trans, IsPermutation-middle, IsPermutation-append_left, length_permutation}
use Rattle.iddqd_store.specs.Slots.{get, live_count, contents, members_from, members}
use Rattle.iddqd_store.specs.Rank.Index.{pair_of}
use Rattle.iddqd_store.proofs.RankLemmas.Index.{length-members_from}
use Rattle.iddqd_store.proofs.SlotLemmas.Contents.{contents-all, length-contents}

-- the first of the pairs that are still to come was inserted
taken_over : (before after rest : List (ℕ × ℕ)) (pair inserted : ℕ × ℕ) {all : List (ℕ × ℕ)} → inserted ≡ pair → IsPermutation (inserted ∷ before) after
    → IsPermutation (before ++ pair ∷ rest) all → IsPermutation (after ++ rest) all
taken_over before after rest pair inserted {all} is added filling =
    let moved : IsPermutation (pair ∷ (before ++ rest)) all = IsPermutation-trans _ _ _ (IsPermutation-sym _ _ (IsPermutation-middle before pair rest)) filling in
    let named : IsPermutation (pair ∷ before) after = subst (λ k. IsPermutation (k ∷ before) after) is added in
    IsPermutation-trans _ _ _ (IsPermutation-append_left rest after (pair ∷ before) (IsPermutation-sym _ _ named)) moved

module _ {T : Type 0} (hash : T → ℕ) (slots : List (Option T)) where
  -- the pairs of the items from a slot on, with numbers from this one on
  abbrev pub pairs_ahead : ℕ → ℕ → List (ℕ × ℕ)
  pairs_ahead at number = map (pair_of hash) (members_from number (map Some (contents (drop at slots))))

  -- these pairs and those of the items from a slot on are the pairs of all items in the first slots
  abbrev pub IsFillingAhead : ℕ → ℕ → List (ℕ × ℕ) → Type 0
  IsFillingAhead at number pairs = IsPermutation (pairs ++ pairs_ahead at number) (map (pair_of hash) (members (map Some (contents slots))))

  pub IsFillingAhead-start : IsFillingAhead 0 0 []
  IsFillingAhead-start = IsPermutation-refl _

  ahead_none : (at number : ℕ) → at < length slots → get slots at ≡ None → pairs_ahead at number ≡ pairs_ahead (at + 1) number
  ahead_none at number within free = rw (drop_more slots at None within, free) refl

  ahead_some : (at number : ℕ) (x : T) → at < length slots → get slots at ≡ Some x → pairs_ahead at number ≡ (hash x, number) ∷ pairs_ahead (at + 1) (number + 1)
  ahead_some at number x within live = rw (drop_more slots at None within, live) refl

  pub IsFillingAhead-skip : (at number : ℕ) (pairs : List (ℕ × ℕ)) → at < length slots → get slots at ≡ None → IsFillingAhead at number pairs → IsFillingAhead (at + 1) number pairs
  IsFillingAhead-skip at number pairs within free filling =
      subst (λ rest. IsPermutation (pairs ++ rest) (map (pair_of hash) (members (map Some (contents slots))))) (ahead_none at number within free) filling

  pub IsFillingAhead-insert : (at number : ℕ) (x : T) (h : ℕ) (before after : List (ℕ × ℕ)) → at < length slots → get slots at ≡ Some x → h ≡ hash x
      → IsPermutation ((h, number) ∷ before) after → IsFillingAhead at number before → IsFillingAhead (at + 1) (number + 1) after
  IsFillingAhead-insert at number x h before after within live is inserted filling =
      let rest : List (ℕ × ℕ) = pairs_ahead (at + 1) (number + 1) in
      let first : IsPermutation (before ++ (hash x, number) ∷ rest) (map (pair_of hash) (members (map Some (contents slots)))) =
      subst (λ rest. IsPermutation (before ++ rest) (map (pair_of hash) (members (map Some (contents slots))))) (ahead_some at number x within live) filling in
      taken_over before after rest (hash x, number) (h, number) (ap (λ (k : ℕ). (k, number)) is) inserted first

  -- there is room for the pair of an item if there is room for all
  pub IsFillingAhead-room : (at number : ℕ) (x : T) (pairs : List (ℕ × ℕ)) → at < length slots → get slots at ≡ Some x → IsFillingAhead at number pairs → length pairs < live_count slots
  IsFillingAhead-room at number x pairs within live filling =
      let all = sym (length_permutation _ _ filling) in
      let some : length (pairs_ahead at number) ≡ suc (length (pairs_ahead (at + 1) (number + 1))) = ap length (ahead_some at number x within live) in
      let both = length-append pairs (pairs_ahead at number) in
      let count : length (map (pair_of hash) (members (map Some (contents slots)))) ≡ live_count slots =
      length-map (members (map Some (contents slots))) (pair_of hash) ∙ length-members_from 0 (map Some (contents slots))
      ∙ sym (length-contents (map Some (contents slots))) ∙ ap length (contents-all (contents slots)) ∙ length-contents slots in
      omega (arith, all, some, both, count)

module _ {T : Type 0} where
  -- the same items, moved to the first slots
  pub contents-compact : (old new : List (Option T)) → new ≡ map Some (contents old) → contents new ≡ contents old
  contents-compact old new is = ap contents is ∙ contents-all (contents old)
