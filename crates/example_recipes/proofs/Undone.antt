-- What recipes cite of what comes and leaves again: an undo takes out what was put in, and two orders that change places fit.
use Rattle.std.specs.Prelude.{◌≡◌, ◌⊎◌, ◌≤◌, ◌||◌, Bool, true, false, not, List, [], ◌∷◌, filter, length, Contains, IsPermutation, Option, None, Some, Result, Ok, Err, IfErr, is_err}
use Rattle.std.proofs.Common.{inl, inr, refl, sym, subst, ap, arith, ◌∙◌, suc}
use Rattle.std.proofs.lemmas.Bool.{false≢true}
use Rattle.std.specs.List.{AllByRecursion}
use Rattle.std.specs.Option.{option_to_list}
use Rattle.std.proofs.lemmas.List.{nil_from_length}
use Rattle.std.proofs.lemmas.List.Sorted.{Contains-permutation, IsPermutation-sym, IsPermutation-trans, length_permutation}
use Rattle.std.proofs.lemmas.Map.Keys.{IsDistinct-tail}
use Rattle.iddqd_store.specs.Bag.{AreLawful, IsSound, Ranks, conflicts_of, do_conflict}
use Rattle.iddqd_bi.specs.Map.{Loses, Map, bag}
use Rattle.iddqd_bi.specs.Rekeyed.{TellsWhyNot}
use Rattle.iddqd_bi.specs.declared.error.NotReplaced.{NotReplaced}
use Rattle.iddqd_bi.specs.declared.error.NotReplaced.TheVariants.{Absent, Duplicate}
use Rattle.iddqd_store.proofs.BagLemmas.Sound.{AreNames-tests_of, Contains-filter, IsSound-IsPermutation, IsSound-rank, all_pass, each_weaker, length-named, none_pass}
use Rattle.iddqd_store.proofs.BagLemmas.Steps.{none_passes}
use Rattle.iddqd_store.proofs.BagLemmas.Exchanges.{IsPermutation-filter}
use Rattle.iddqd_store.proofs.CallerLemmas.{passes-listed}
use Rattle.iddqd_store.proofs.RankLemmas.Index.{Contains-cons_cases, Contains-here}

not_both : (b : Bool) → (b ≡ true → ⊥) → b ≡ false
not_both true never = absurd (never refl)
not_both false never = refl

module _ {T : Type 0} where
  -- if only one of the items passes, none of the others does
  pub only_one : (test : T → Bool) (xs ys : List T) (x : T) → IsPermutation xs (x ∷ ys) → test x ≡ true → length (filter test xs) ≤ 1 → filter test ys ≡ []
  only_one test xs ys x p passes one =
      let both : length (filter test (x ∷ ys)) ≡ length (filter test xs) = length_permutation _ _ (IsPermutation-filter test xs (x ∷ ys) p) in
      let more : length (filter test (x ∷ ys)) ≡ suc (length (filter test ys)) = rw passes refl in
      nil_from_length _ (omega (arith, both, more, one))

  -- an item that came, and then the one that passes left: what there was is left
  pub undone : (test : T → Bool) (old there new : List T) (x r : T) → AllByRecursion (λ y. test y ≡ false) old → test x ≡ true
      → IsPermutation there (x ∷ old) → r ∷ [] ≡ filter test there → IsPermutation there (r ∷ new) → IsPermutation new old
  undone test old there new x r apart passes came only left =
      let others : T → Bool = λ y. not (test y) in
      let own : test r ≡ true = (passes-listed test there r (subst (λ l. Contains l r) only (Contains-here r []))).1 in
      let none = none_passes test new (only_one test there new r left own (subst (λ l. length l ≤ 1) only (omega arith))) in
      let were : filter others (x ∷ old) ≡ old = rw passes (all_pass others old (each_weaker _ _ (λ y e. ap not e) old apart)) in
      let are : filter others (r ∷ new) ≡ new = rw own (all_pass others new (each_weaker _ _ (λ y e. ap not e) new none)) in
      let one = subst (IsPermutation (filter others there)) were (IsPermutation-filter others there (x ∷ old) came) in
      let two = subst (IsPermutation (filter others there)) are (IsPermutation-filter others there (r ∷ new) left) in
      IsPermutation-trans _ _ _ (IsPermutation-sym _ _ two) one

  -- the same of what a removal returns
  pub undone_by : {S : Type 0} (test : T → Bool) (old : List T) (there new : Map T S) (x : T) (r : Option T)
      → AllByRecursion (λ y. test y ≡ false) old → test x ≡ true → IsPermutation (bag there) (x ∷ old) → option_to_list r ≡ filter test (bag there)
      → Loses there (option_to_list r) new → IsPermutation (bag new) old
  undone_by test old there new x None apart passes came only left =
      let member = Contains-filter test (bag there) x passes (Contains-permutation (x ∷ old) (bag there) x (IsPermutation-sym _ _ came) (Contains-here x old)) in
      absurd (omega (arith, (subst (λ l. Contains l x) (sym only) member).1))
  undone_by test old there new x (Some r) apart passes came only left = undone test old (bag there) (bag new) x r apart passes came only left.items

  -- what passes in none of the items passes in none of the others
  pub none_behind : (test : T → Bool) (xs ys : List T) (x : T) → IsPermutation xs (x ∷ ys) → filter test xs ≡ [] → filter test ys ≡ []
  none_behind test xs ys x p none =
      let all : filter test (x ∷ ys) ≡ [] = nil_from_length _ (length_permutation _ _ (IsPermutation-filter test xs (x ∷ ys) p) ∙ ap length none) in
      none_pass test ys (none_passes test (x ∷ ys) all).1

  pub none_of : (test : T → Bool) (xs : List T) (x : T) → filter test xs ≡ [] → Contains xs x → test x ≡ false
  none_of test xs x none there = not_both (test x) (λ passes. absurd (omega (arith, (subst (λ l. Contains l x) none (Contains-filter test xs x passes there)).1)))

  later : (test : T → Bool) (mid : List T) (a b : T) → test a ≡ true → test b ≡ false → (b ≡ a) ⊎ Contains mid a → Contains mid a
  later test mid a b passes fails (inl same) = absurd (false≢true (sym fails ∙ ap test same ∙ passes))
  later test mid a b passes fails (inr there) = there

  -- an item that passes is still there if one that does not left
  pub still_there : (test : T → Bool) (old mid : List T) (a b : T) → IsPermutation old (b ∷ mid) → Contains old a → test a ≡ true → test b ≡ false → Contains mid a
  still_there test old mid a b left there passes fails = later test mid a b passes fails (Contains-cons_cases b a mid (Contains-permutation old (b ∷ mid) a left there))

  pub neither : (p q : T → Bool) (xs : List T) → AllByRecursion (λ y. p y ≡ false) xs → AllByRecursion (λ y. q y ≡ false) xs → AllByRecursion (λ y. (p y || (q y || false)) ≡ false) xs
  neither p q [] none1 none2 = tt
  neither p q (x ∷ xs) none1 none2 = (rw (none1.0, none2.0) refl, neither p q xs none1.1 none2.1)

-- two ranks, of which an item leaves a sound bag and two come with each other's keys
module _ {T : Type 0} (by1 by2 : T → T → Bool) (laws : AreLawful (by1 ∷ by2 ∷ [])) where
  abbrev item_ranks : Ranks T
  item_ranks = by1 ∷ by2 ∷ []

  -- `moved` has the first key of `x` and the second of `b`, which left
  pub free_for_moved : (old mid rest : List T) (b x moved : T) → IsSound item_ranks old → IsPermutation old (b ∷ mid) → IsPermutation mid (x ∷ rest)
      → by1 moved x ≡ true → by2 moved b ≡ true → conflicts_of item_ranks rest moved ≡ []
  free_for_moved old mid rest b x moved sound left put same1 same2 =
      let names = AreNames-tests_of item_ranks moved laws in
      let sound_mid = IsDistinct-tail (do_conflict item_ranks) b mid (IsSound-IsPermutation item_ranks laws old (b ∷ mid) left sound) in
      let distinct1 = (IsSound-rank by1 (by2 ∷ []) mid sound_mid).0 in
      let distinct2 = (IsSound-rank by2 [] old (IsSound-rank by1 (by2 ∷ []) old sound).1).0 in
      let none1 = only_one (by1 moved) mid rest x put same1 (length-named by1 (by1 moved) names.0 mid distinct1) in
      let none2 = none_behind (by2 moved) mid rest x put (only_one (by2 moved) old mid b left same2 (length-named by2 (by2 moved) names.1.0 old distinct2)) in
      none_pass (do_conflict item_ranks moved) rest (neither (by1 moved) (by2 moved) rest (none_passes (by1 moved) rest none1) (none_passes (by2 moved) rest none2))

  -- `back` has the first key of `b` and the second of `a`, in whose place `moved` is
  pub free_for_back : (old mid between : List T) (a b moved back : T) → IsSound item_ranks old → IsPermutation old (b ∷ mid)
      → IsPermutation (a ∷ between) (moved ∷ mid) → Contains mid a → by1 back b ≡ true → by2 back a ≡ true → by1 back moved ≡ false
      → by2 moved b ≡ true → conflicts_of item_ranks between back ≡ []
  free_for_back old mid between a b moved back sound left put there same1 same2 apart same3 =
      let names = AreNames-tests_of item_ranks back laws in
      let named = AreNames-tests_of item_ranks b laws in
      let put' = IsPermutation-sym _ _ put in
      let sound_mid = IsDistinct-tail (do_conflict item_ranks) b mid (IsSound-IsPermutation item_ranks laws old (b ∷ mid) left sound) in
      let distinct1 = (IsSound-rank by1 (by2 ∷ []) old sound).0 in
      let distinct2 = (IsSound-rank by2 [] old (IsSound-rank by1 (by2 ∷ []) old sound).1).0 in
      let distinct_mid = (IsSound-rank by2 [] mid (IsSound-rank by1 (by2 ∷ []) mid sound_mid).1).0 in
      let none1 : filter (by1 back) (moved ∷ mid) ≡ [] = rw apart (only_one (by1 back) old mid b left same1 (length-named by1 (by1 back) names.0 old distinct1)) in
      let none_b : filter (by2 b) mid ≡ [] = only_one (by2 b) old mid b left (laws.1.0.refl b) (length-named by2 (by2 b) named.1.0 old distinct2) in
      let apart_a : by2 b a ≡ false = none_of (by2 b) mid a none_b there in
      let is_near : by2 back moved ≡ true → by2 b a ≡ true = λ yes. sym (laws.1.0.congr moved b a same3) ∙ sym (laws.1.0.congr back moved a yes) ∙ same2 in
      let apart2 : by2 back moved ≡ false = not_both (by2 back moved) (λ yes. false≢true (sym apart_a ∙ is_near yes)) in
      let few : length (filter (by2 back) (moved ∷ mid)) ≤ 1 = rw apart2 (length-named by2 (by2 back) names.1.0 mid distinct_mid) in
      let none2 = only_one (by2 back) (moved ∷ mid) between a put' same2 few in
      none_pass (do_conflict item_ranks back) between (neither (by1 back) (by2 back) between
      (none_passes (by1 back) between (none_behind (by1 back) (moved ∷ mid) between a put' none1)) (none_passes (by2 back) between none2))

  -- an item with the key of `moved` is replaced by it
  pub moved_in : (test : T → Bool) (old mid : List T) (a b moved : T) (r : Result T (NotReplaced T)) → ((x : T) → test x ≡ true → by1 moved x ≡ true)
      → IsSound item_ranks old → IsPermutation old (b ∷ mid) → Contains mid a → test a ≡ true → by2 moved b ≡ true
      → IfErr r (λ e. TellsWhyNot item_ranks test mid moved e) → is_err r ≡ false
  moved_in test old mid a b moved (Ok x) named sound left there passes same why = refl
  moved_in test old mid a b moved (Err (Absent e)) named sound left there passes same none =
      absurd (omega (arith, (subst (λ l. Contains l a) (sym none) (Contains-filter test mid a passes there)).1))
  moved_in test old mid a b moved (Err (Duplicate e)) named sound left there passes same why =
      let own : test why.0 ≡ true = (passes-listed test mid why.0 (subst (λ l. Contains l why.0) why.2 (Contains-here why.0 []))).1 in
      absurd (why.4 (free_for_moved old mid why.1 b why.0 moved sound left why.3 (named why.0 own) same))
