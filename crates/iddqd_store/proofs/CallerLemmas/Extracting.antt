-- Loops over `extract_from` and `pop_from`: which items left, and which stay.
use Rattle.std.specs.Prelude.{◌≡◌, ◌<◌, ℕ, Bool, true, false, not, List, [], ◌∷◌, ◌++◌, length, filter, Some, None, IsPermutation}
use Rattle.std.proofs.Common.{arith, length-append, refl, sym, ap, ◌∙◌, subst, append_assoc, append-nil}
use Rattle.std.proofs.lemmas.List.Sums.{count_by-le-length, length-filter}
use Rattle.std.proofs.lemmas.List.Elements.{filter-append}
use Rattle.std.proofs.lemmas.List.Sorted.{IsPermutation-refl}
use Rattle.iddqd_store.specs.Map.{Map, bag}
use Rattle.iddqd_store.specs.Map.Extracting.{Extracts, PopsFrom, Rejects}
use Rattle.iddqd_store.specs.Map.Walk.{passed_items, to_come}
use Rattle.iddqd_store.proofs.CallerLemmas.{passed_items-to_come}

-- `told`: a call of the closure returns `test`, and leaves the closure as it is.
module _ {F T : Type 0} (step : F → T → Bool → F → Type 0) (test : T → Bool) (f : F) (told : (x : T) (b : Bool) (g : F) → step f x b g → (b ≡ test x) × (g ≡ f)) where
  rejected-fail : (q : F) (xs : List T) → Rejects step f xs q → (filter test xs ≡ []) × (filter (λ x. not (test x)) xs ≡ xs) × (q ≡ f)
  rejected-fail q [] is = (refl, refl, sym is)
  rejected-fail q (x ∷ xs) (g, called, rejects) =
      let t = told x false g called in
      let rest = rejected-fail q xs (subst (λ h. Rejects step h xs q) t.1 rejects) in
      rw (sym t.0) (rest.0, ap (λ l. x ∷ l) rest.1, rest.2)

  accepted-passes : (q : F) (x : T) → q ≡ f → (g : F) × step q x true g → test x ≡ true
  accepted-passes q x is (g, called) = sym (told x true g (subst (λ h. step h x true g) is called)).0

module _ {T S : Type 0} (test : T → Bool) where
  -- What a loop over `extract_from` keeps, where `all` were there at first, and `gone` left: of the items that were
  -- passed, those that pass the test left, and the others stay.
  pub record HasExtracted (all gone : List T) (m : Map T S) (at : ℕ) : Type 0 where
    pub done : List T
    pub whole : all ≡ done ++ to_come m at
    pub left : gone ≡ filter test done
    pub stays : passed_items m at ≡ filter (λ x. not (test x)) done

  -- after a step that gave `x`, fewer had left before it than there were
  pub extracted-fewer : (m : Map T S) (at : ℕ) (all gone : List T) (x : T) → HasExtracted all (gone ++ x ∷ []) m at → length gone < length all
  extracted-fewer m at all gone x was =
      omega (arith, length-append gone (x ∷ []), ap length was.left, length-filter test was.done, count_by-le-length test was.done, ap length was.whole, length-append was.done (to_come m at))

  -- before the first step
  pub extracted-start : (m : Map T S) → HasExtracted (bag m) [] m 0
  extracted-start m = record { done = []; whole = passed_items-to_come m 0; left = refl; stays = refl }

  module _ {F : Type 0} (step : F → T → Bool → F → Type 0) (f : F) (told : (x : T) (b : Bool) (g : F) → step f x b g → (b ≡ test x) × (g ≡ f)) where
    -- a step that gives an item
    pub extracted-on : (m n : Map T S) (from to : ℕ) (all gone : List T) (x : T) → Extracts step f m from (Some x) n to → HasExtracted all gone m from → HasExtracted all (gone ++ x ∷ []) n to
    extracted-on m n from to all gone x step_is was =
        let apart = rejected-fail step test f told step_is.state step_is.rejected step_is.rejects in
        let passes : test x ≡ true = accepted-passes step test f told step_is.state x apart.2 step_is.accepts in
        record {
          done = was.done ++ (step_is.rejected ++ x ∷ []);
          whole = was.whole ∙ ap (λ l. was.done ++ l) (step_is.comes ∙ sym (append_assoc step_is.rejected (x ∷ []) (to_come n to)))
              ∙ sym (append_assoc was.done (step_is.rejected ++ x ∷ []) (to_come n to));
          left = rw (filter-append test was.done (step_is.rejected ++ x ∷ []), filter-append test step_is.rejected (x ∷ []), apart.0, passes) (ap (λ l. l ++ x ∷ []) was.left);
          stays = rw (
            filter-append (λ y. not (test y)) was.done (step_is.rejected ++ x ∷ []),
            filter-append (λ y. not (test y)) step_is.rejected (x ∷ []),
            apart.1,
            passes,
            append-nil step_is.rejected,
          ) (step_is.before ∙ ap (λ l. l ++ step_is.rejected) was.stays);
        }

    -- the last step, which gives none: those that pass the test left, and the others are in the map
    pub extracted-end : (m n : Map T S) (from to : ℕ) (all gone : List T) → Extracts step f m from None n to → HasExtracted all gone m from
        → IsPermutation gone (filter test all) × IsPermutation (bag n) (filter (λ x. not (test x)) all)
    extracted-end m n from to all gone step_is was =
        let apart = rejected-fail step test f told step_is.state step_is.rejected step_is.rejects in
        let rest : to_come m from ≡ step_is.rejected = step_is.comes ∙ ap (λ l. step_is.rejected ++ l) step_is.none_left ∙ append-nil step_is.rejected in
        let whole : all ≡ was.done ++ step_is.rejected = was.whole ∙ ap (λ l. was.done ++ l) rest in
        let all_passed : bag n ≡ passed_items n to = passed_items-to_come n to ∙ ap (λ l. passed_items n to ++ l) step_is.none_left ∙ append-nil (passed_items n to) in
        let out : gone ≡ filter test all = rw (whole, filter-append test was.done step_is.rejected, apart.0, append-nil (filter test was.done)) was.left in
        let kept : bag n ≡ filter (λ x. not (test x)) all = all_passed
        ∙ rw (whole, filter-append (λ y. not (test y)) was.done step_is.rejected, apart.1)
        (step_is.before ∙ ap (λ l. l ++ step_is.rejected) was.stays) in
        (subst (IsPermutation gone) out (IsPermutation-refl gone), subst (IsPermutation (bag n)) kept (IsPermutation-refl (bag n)))

module _ {T S : Type 0} where
  -- What a loop over `pop_from` keeps: the items that were passed left, and no other item.
  pub record HasPopped (all gone : List T) (m : Map T S) (at : ℕ) : Type 0 where
    pub whole : all ≡ gone ++ to_come m at
    pub none_before : passed_items m at ≡ []

  -- before the first step
  pub popped-start : (m : Map T S) → HasPopped (bag m) [] m 0
  popped-start m = record { whole = passed_items-to_come m 0; none_before = refl }

  -- a step that gives an item
  pub popped-on : (m n : Map T S) (from to : ℕ) (all gone : List T) (x : T) → PopsFrom m from (Some x) n to → HasPopped all gone m from → HasPopped all (gone ++ x ∷ []) n to
  popped-on m n from to all gone x pops was =
      record {
        whole = was.whole ∙ ap (λ l. gone ++ l) pops.comes ∙ sym (append_assoc gone (x ∷ []) (to_come n to));
        none_before = pops.before ∙ was.none_before;
      }

  -- after a step that gave `x`, fewer had left before it than there were
  pub popped-fewer : (m : Map T S) (at : ℕ) (all gone : List T) (x : T) → HasPopped all (gone ++ x ∷ []) m at → length gone < length all
  popped-fewer m at all gone x was = omega (arith, length-append gone (x ∷ []), ap length was.whole, length-append (gone ++ x ∷ []) (to_come m at))

  -- the last step, which gives none: all items left
  pub popped-end : (m n : Map T S) (from to : ℕ) (all gone : List T) → PopsFrom m from None n to → HasPopped all gone m from → IsPermutation gone all × (bag n ≡ [])
  popped-end m n from to all gone pops was =
      let out : gone ≡ all = sym (was.whole ∙ ap (λ l. gone ++ l) (pops.comes ∙ pops.none_left) ∙ append-nil gone) in
      (subst (IsPermutation gone) out (IsPermutation-refl gone), passed_items-to_come n to ∙ rw (pops.none_left) (append-nil (passed_items n to) ∙ pops.before ∙ was.none_before))
