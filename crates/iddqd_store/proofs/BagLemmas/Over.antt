-- How items leave their slots in turn, and what is left once the conflicting ones have left.
use Rattle.std.specs.Prelude.{◌≡◌, ℕ, ◌+◌, slice_get, drop, Bool, false, not, List, [], ◌∷◌, ◌++◌, length, filter, IsPermutation, Option, Some, None, nat_eq, All, if◌then◌else◌}
use Rattle.std.specs.List.{IsDistinct, AllByRecursion}
use Rattle.std.proofs.Common.{refl, sym, ap, subst, ◌∙◌, arith, add-one, append_assoc, length-append}
use Rattle.std.proofs.Math.Seq.{drop-cons}
use Rattle.std.proofs.lemmas.Option.{slice_get_within, get_or_from_slice_get}
use Rattle.std.proofs.lemmas.List.Elements.{All-nil, All-cons, All-head, All-tail, filter-append}
use Rattle.std.proofs.lemmas.List.Sorted.{IsPermutation-refl, IsPermutation-sym, IsPermutation-trans, IsPermutation-append, IsPermutation-cons, length_permutation}
use Rattle.std.proofs.lemmas.Map.Keys.{IsDistinct-head, IsDistinct-tail, IsDistinct-cons}
use Rattle.std.proofs.lemmas.List.{nil_from_length}
use Rattle.std.proofs.lemmas.Bool.{or_parts}
use Rattle.iddqd_store.specs.Slots.{get, IsLive, Updates}
use Rattle.iddqd_store.specs.Slots.Found.{items_at, contains, with_found}
use Rattle.iddqd_store.specs.Bag.{Ranks, some_of, tests_of, do_conflict, conflicts_of, conflicting, with_item}
use Rattle.iddqd_store.proofs.Plain.{number_turned, number_apart}
use Rattle.iddqd_store.proofs.BagLemmas.Exchanges.{split, IsPermutation-filter}
use Rattle.iddqd_store.proofs.BagLemmas.Steps.{none_passes}
use Rattle.iddqd_store.proofs.BagLemmas.Sound.{IsDistinct-nil, each_weaker, each_passes, none_pass, all_pass, IsPermutation-conflicting}

-- the slots found are distinct
pub IsDistinct-push : (numbers : List ℕ) (slot : ℕ) → IsDistinct nat_eq numbers → contains numbers slot ≡ false → IsDistinct nat_eq (numbers ++ slot ∷ [])
IsDistinct-push [] slot apart new = IsDistinct-cons nat_eq slot [] tt (IsDistinct-nil nat_eq)
IsDistinct-push (a ∷ numbers) slot apart new =
    let both = or_parts (nat_eq slot a) (contains numbers slot) new in
    IsDistinct-cons nat_eq a (numbers ++ slot ∷ [])
    (further numbers (IsDistinct-head nat_eq a numbers apart) (number_turned slot a both.0))
    (IsDistinct-push numbers slot (IsDistinct-tail nat_eq a numbers apart) both.1)
  where
    further : (rest : List ℕ) → AllByRecursion (λ y. nat_eq a y ≡ false) rest → nat_eq a slot ≡ false → AllByRecursion (λ y. nat_eq a y ≡ false) (rest ++ slot ∷ [])
    further [] others last = (last, tt)
    further (b ∷ rest) others last = (others.0, further rest others.1 last)

pub IsDistinct-with_found : (numbers : List ℕ) (found : Option ℕ) → IsDistinct nat_eq numbers → IsDistinct nat_eq (with_found numbers found)
IsDistinct-with_found numbers None apart = apart
IsDistinct-with_found numbers (Some slot) apart =
    split (λ b. IsDistinct nat_eq (if b then numbers else numbers ++ slot ∷ [])) (contains numbers slot) (λ _. apart) (λ no. IsDistinct-push numbers slot apart no)

-- the slots from this place on, by their first
pub drop-found : (numbers : List ℕ) (at slot : ℕ) → slice_get numbers at ≡ Some slot → drop at numbers ≡ slot ∷ drop (at + 1) numbers
drop-found numbers at slot is =
    let within = slice_get_within numbers at slot is in
    let first = get_or_from_slice_get numbers at slot 0 is in
    rw (add-one, drop-cons numbers at 0, first) refl

module _ {T : Type 0} where
  -- a change of one content leaves the items of the others
  pub items_at-others : (old new : List (Option T)) (at : ℕ) (content : Option T) (numbers : List ℕ) → Updates old new at content
      → AllByRecursion (λ slot. nat_eq at slot ≡ false) numbers → items_at new numbers ≡ items_at old numbers
  items_at-others old new at content [] updates apart = refl
  items_at-others old new at content (slot ∷ numbers) updates apart =
      let here : get new slot ≡ get old slot = updates.others slot (number_apart at slot apart.0) in
      rw (here, items_at-others old new at content numbers updates apart.1) refl

  -- one more item left its content
  pub items_at-taken : (old new : List (Option T)) (slot : ℕ) (rest : List ℕ) (x : T) (taken whole : List T) → Updates old new slot None
      → get old slot ≡ Some x → IsDistinct nat_eq (slot ∷ rest) → taken ++ items_at old (slot ∷ rest) ≡ whole
      → (taken ++ x ∷ []) ++ items_at new rest ≡ whole
  items_at-taken old new slot rest x taken whole updates found apart before =
      append_assoc taken (x ∷ []) (items_at new rest)
      ∙ ap (λ l. taken ++ x ∷ l) (items_at-others old new slot None rest updates (IsDistinct-head nat_eq slot rest apart))
      ∙ (rw found at before)

  -- the other slots stay live
  pub live-unchanged : (old new : List (Option T)) (slot : ℕ) (content : Option T) (rest : List ℕ) → Updates old new slot content
      → AllByRecursion (λ y. nat_eq slot y ≡ false) rest → All (IsLive old) rest → All (IsLive new) rest
  live-unchanged old new slot content [] updates apart live = All-nil (IsLive new)
  live-unchanged old new slot content (a ∷ rest) updates apart live =
      All-cons (IsLive new) a rest
      (rw (updates.others a (number_apart slot a apart.0)) (All-head (IsLive old) a rest live))
      (live-unchanged old new slot content rest updates apart.1 (All-tail (IsLive old) a rest live))

  pub live-others : (old new : List (Option T)) (slot : ℕ) (rest : List ℕ) → Updates old new slot None → IsDistinct nat_eq (slot ∷ rest) → All (IsLive old) rest → All (IsLive new) rest
  live-others old new slot rest updates apart live = live-unchanged old new slot None rest updates (IsDistinct-head nat_eq slot rest apart) live

  -- the bag consists of what was removed and what is left
  pub IsPermutation-taken : (bag held new taken : List T) (x : T) → IsPermutation bag (taken ++ held) → IsPermutation held (x ∷ new) → IsPermutation bag ((taken ++ x ∷ []) ++ new)
  IsPermutation-taken bag held new taken x before out =
      subst (IsPermutation bag) (sym (append_assoc taken (x ∷ []) new))
      (IsPermutation-trans _ _ _ before (IsPermutation-append taken taken _ _ (IsPermutation-refl taken) out))

  -- a filter of the bag is that of the conflicting items and that of the rest
  filter-taken : (p : T → Bool) (ranks : Ranks T) (bag rest : List T) (x : T) → IsPermutation bag (conflicting ranks bag x ++ rest)
      → IsPermutation (filter p bag) (filter p (conflicts_of ranks bag x) ++ filter p rest)
  filter-taken p ranks bag rest x out =
      IsPermutation-trans _ _ _
      (subst (IsPermutation (filter p bag)) (filter-append p (conflicting ranks bag x) rest) (IsPermutation-filter p bag (conflicting ranks bag x ++ rest) out))
      (IsPermutation-append _ _ _ _ (IsPermutation-filter p (conflicting ranks bag x) (conflicts_of ranks bag x) (IsPermutation-conflicting ranks bag x)) (IsPermutation-refl (filter p rest)))

  -- once the items that conflict with x are removed, nothing conflicts with it
  pub conflicts_of-taken : (ranks : Ranks T) (bag rest : List T) (x : T) → IsPermutation bag (conflicting ranks bag x ++ rest) → conflicts_of ranks rest x ≡ []
  conflicts_of-taken ranks bag rest x out =
      let p : T → Bool = do_conflict ranks x in
      let again : filter p (conflicts_of ranks bag x) ≡ conflicts_of ranks bag x = all_pass p (conflicts_of ranks bag x) (each_passes p bag) in
      let long : length (conflicts_of ranks bag x ++ filter p rest) ≡ length (conflicts_of ranks bag x) =
      length_permutation _ _ (subst (λ l. IsPermutation (filter p bag) (l ++ filter p rest)) again (filter-taken p ranks bag rest x out)) in
      nil_from_length (conflicts_of ranks rest x) (omega (arith, long, length-append (conflicts_of ranks bag x) (filter p rest)))

  -- what is left, with x, is the bag overwritten by x
  pub with_item-taken : (ranks : Ranks T) (bag rest new : List T) (x : T) → IsPermutation bag (conflicting ranks bag x ++ rest) → IsPermutation new (x ∷ rest) → IsPermutation new (with_item ranks bag x)
  with_item-taken ranks bag rest new x out put =
      let p : T → Bool = λ y. not (some_of (tests_of ranks x) y) in
      let gone : filter p (conflicts_of ranks bag x) ≡ [] = none_pass p (conflicts_of ranks bag x) (each_weaker _ _ (λ y e. ap not e) (conflicts_of ranks bag x) (each_passes (do_conflict ranks x) bag)) in
      let kept : filter p rest ≡ rest = all_pass p rest (each_weaker _ _ (λ y e. ap not e) rest (none_passes (do_conflict ranks x) rest (conflicts_of-taken ranks bag rest x out))) in
      let left : IsPermutation (filter p bag) rest =
      subst (IsPermutation (filter p bag)) (ap (λ l. l ++ filter p rest) gone ∙ kept) (filter-taken p ranks bag rest x out) in
      IsPermutation-trans _ _ _ put (IsPermutation-cons x _ _ (IsPermutation-sym _ _ left))
