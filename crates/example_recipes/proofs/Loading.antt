-- What a loop keeps that adds each item of a batch with which none conflicts, and puts the others aside.
use Rattle.std.specs.Prelude.{Bool, true, false, ◌≡◌, ◌≢◌, ◌==◌, if◌then◌else◌, List, [], ◌∷◌, ◌++◌, length, IsPermutation}
use Rattle.std.proofs.Common.{refl, sym, ap, subst, ◌∙◌}
use Rattle.std.proofs.Math.Dec.{eqb-suc-zero}
use Rattle.std.proofs.lemmas.List.{append_assoc, append-nil}
use Rattle.std.proofs.lemmas.List.Sorted.{IsPermutation-append, IsPermutation-cons, IsPermutation-middle, IsPermutation-refl, IsPermutation-trans, length_permutation}
use Rattle.iddqd_bi.specs.Bag.{Ranks, conflicts_of, do_conflict}
use Rattle.iddqd_store.proofs.BagLemmas.Exchanges.{IsPermutation-filter}
use Rattle.example_recipes.specs.Loading.{left_over}

module _ {T : Type 0} (ranks : Ranks T) where
  -- The order of a bag means nothing.
  left_over-permuted : (batch one other : List T) → IsPermutation one other → left_over ranks one batch ≡ left_over ranks other batch
  left_over-permuted [] one other same = refl
  left_over-permuted (x ∷ more) one other same =
      let count : length (conflicts_of ranks one x) ≡ length (conflicts_of ranks other x) =
      sym (length_permutation _ _ (IsPermutation-filter (do_conflict ranks x) one other same)) in
      rw (count, left_over-permuted more (x ∷ one) (x ∷ other) (IsPermutation-cons x one other same), left_over-permuted more one other same) refl

  -- Of the batch and the map `old`, `others` were put aside, `bag` has what was added, and `rest` is to come.
  pub record HasLoaded (old batch others bag rest : List T) : Type 0 where
    pub left : others ++ left_over ranks bag rest ≡ left_over ranks old batch
    pub added : IsPermutation (others ++ (rest ++ bag)) (batch ++ old)

  pub loaded-start : (old batch others bag rest : List T) → others ≡ [] → bag ≡ old → rest ≡ batch → HasLoaded old batch others bag rest
  loaded-start old batch others bag rest none same all = rw (none, same, all) (record { left = refl; added = IsPermutation-refl _ })

  pub loaded-added : (old batch others bag new rest : List T) (x : T) → conflicts_of ranks bag x ≡ [] → IsPermutation new (x ∷ bag)
      → HasLoaded old batch others bag (x ∷ rest) → HasLoaded old batch others new rest
  loaded-added old batch others bag new rest x free went_in h =
      let placed : left_over ranks new rest ≡ left_over ranks bag (x ∷ rest) = rw free (left_over-permuted rest new (x ∷ bag) went_in) in
      let moved = IsPermutation-trans _ _ _ (IsPermutation-append rest rest new (x ∷ bag) (IsPermutation-refl rest) went_in) (IsPermutation-middle rest x bag) in
      record {
        left = ap (λ l. others ++ l) placed ∙ h.left;
        added = IsPermutation-trans _ _ _ (IsPermutation-append others others _ _ (IsPermutation-refl others) moved) h.added;
      }

  by_answer : (b : Bool) (one other : List T) → b ≡ false → (if b then one else other) ≡ other
  by_answer true one other is_false = absurd (cc is_false)
  by_answer false one other is_false = refl

  put_aside : (found : List T) (one other : List T) → found ≢ [] → (if length found == 0 then one else other) ≡ other
  put_aside [] one other some = absurd (some refl)
  put_aside (y ∷ ys) one other some = by_answer (length (y ∷ ys) == 0) one other (eqb-suc-zero (length ys))

  pub loaded-refused : (old batch others bag rest : List T) (x : T) → conflicts_of ranks bag x ≢ []
      → HasLoaded old batch others bag (x ∷ rest) → HasLoaded old batch (others ++ x ∷ []) bag rest
  loaded-refused old batch others bag rest x taken h =
      let aside : left_over ranks bag (x ∷ rest) ≡ x ∷ left_over ranks bag rest = put_aside (conflicts_of ranks bag x) _ _ taken in
      record {
        left = append_assoc others (x ∷ []) _ ∙ ap (λ l. others ++ l) (sym aside) ∙ h.left;
        added = subst (λ l. IsPermutation l (batch ++ old)) (sym (append_assoc others (x ∷ []) (rest ++ bag))) h.added;
      }

  pub loaded-end : (old batch others bag rest : List T) → rest ≡ [] → HasLoaded old batch others bag rest
      → (others ≡ left_over ranks old batch) × IsPermutation (others ++ bag) (batch ++ old)
  loaded-end old batch others bag rest none h =
      let done = subst (λ l. HasLoaded old batch others bag l) none h in
      (sym (append-nil others) ∙ done.left, done.added)
