-- What a caller knows that asked first, that keeps some of the items, or that overwrites.
use Rattle.std.specs.Prelude.{◌≡◌, ◌≤◌, ◌+◌, Bool, true, false, cond, List, [], ◌∷◌, ◌++◌, length, filter, IsPermutation, Result, Ok, Err, OnOk, OnErr}
use Rattle.std.specs.Cmp.{IsEquivalence}
use Rattle.std.specs.List.{AllByRecursion, IsDistinct, list_any}
use Rattle.std.proofs.Common.{refl, sym, ap, subst, ◌∙◌, arith}
use Rattle.std.proofs.lemmas.Fn.{filter_same}
use Rattle.std.proofs.lemmas.Map.Keys.{IsDistinct-head}
use Rattle.std.proofs.lemmas.List.Sorted.{IsPermutation-sym, IsPermutation-trans, list_any-IsPermutation}
use Rattle.std.proofs.lemmas.Bool.{or_parts, and_parts}
use Rattle.iddqd_store.specs.Bag.{Filters, Keeps, Ranks, AreLawful, IsSound, agrees, conflicts_of, tests_of, some_of}
use Rattle.iddqd_store.specs.Bag.Building.{IsReason}
use Rattle.iddqd_store.specs.Map.{Map, Overwrites, bag}
use Rattle.iddqd_store.specs.declared.error.InsertReason.{InsertReason}
use Rattle.iddqd_store.specs.declared.error.InsertReason.TheVariants.{Duplicate, Memory}
use Rattle.iddqd_store.proofs.BagLemmas.Exchanges.{IsPermutation-filter}
use Rattle.iddqd_store.proofs.BagLemmas.Sound.{IsSound-IsPermutation, IsSound-rank, each_weaker, none_pass}
use Rattle.iddqd_store.proofs.BagLemmas.Unique.{any_listed, some_item}
use Rattle.iddqd_store.proofs.CallerLemmas.{length-overwritten_by}
use Rattle.iddqd_store.proofs.MapLemmas.Rekeyed.{free_left}

module _ {T : Type 0} where
  -- no member passes any of the tests
  abbrev pub PassNone : List (T → Bool) → List T → Type 0
  PassNone tests bag = AllByRecursion (λ test. list_any test bag ≡ false) tests

  none_here : (tests : List (T → Bool)) (x : T) (xs : List T) → PassNone tests (x ∷ xs) → (some_of tests x ≡ false) × PassNone tests xs
  none_here [] x xs none = (refl, tt)
  none_here (test ∷ tests) x xs none =
      let first = or_parts (test x) (list_any test xs) none.0 in
      let rest = none_here tests x xs none.1 in
      (rw first.0 rest.0, (first.1, rest.1))

  none_left : (tests : List (T → Bool)) (bag : List T) → PassNone tests bag → filter (λ x. some_of tests x) bag ≡ []
  none_left tests [] none = refl
  none_left tests (x ∷ xs) none =
      let both = none_here tests x xs none in
      rw both.0 (none_left tests xs both.1)

  -- nothing conflicts with an item if no member has its key of any rank
  pub none-conflicts_of : (ranks : Ranks T) (bag : List T) (x : T) → PassNone (tests_of ranks x) bag → conflicts_of ranks bag x ≡ []
  none-conflicts_of ranks bag x none = none_left (tests_of ranks x) bag none

  none_conflicting : (tests : List (T → Bool)) (x : T) (xs : List T) → some_of tests x ≡ false → PassNone tests xs → PassNone tests (x ∷ xs)
  none_conflicting [] x xs none others = tt
  none_conflicting (test ∷ tests) x xs none others =
      let both = or_parts (test x) (some_of tests x) none in
      (rw both.0 others.0, none_conflicting tests x xs both.1 others.1)

  none_of_none : (tests : List (T → Bool)) → PassNone tests []
  none_of_none [] = tt
  none_of_none (test ∷ tests) = (refl, none_of_none tests)

  none_if : (tests : List (T → Bool)) (x : T) (xs : List T) (b : Bool) → some_of tests x ≡ b
      → cond b (x ∷ filter (λ y. some_of tests y) xs) (filter (λ y. some_of tests y) xs) ≡ []
      → (filter (λ y. some_of tests y) xs ≡ [] → PassNone tests xs) → PassNone tests (x ∷ xs)
  none_if tests x xs true is none rest = absurd (cc none)
  none_if tests x xs false is none rest = none_conflicting tests x xs is (rest none)

  none_pass_any : (tests : List (T → Bool)) (bag : List T) → filter (λ x. some_of tests x) bag ≡ [] → PassNone tests bag
  none_pass_any tests [] none = none_of_none tests
  none_pass_any tests (x ∷ xs) none = none_if tests x xs (some_of tests x) refl none (λ rest. none_pass_any tests xs rest)

  -- the reason for which an item is not inserted, if it says whether some member has a key of the item
  pub taken-reason : (ranks : Ranks T) (bag : List T) (x : T) (reason : InsertReason) → (reason ≡ Duplicate → PassNone (tests_of ranks x) bag → ⊥)
      → (reason ≡ Memory → PassNone (tests_of ranks x) bag) → IsReason reason (conflicts_of ranks bag x)
  taken-reason ranks bag x Duplicate met free = λ none. met refl (none_pass_any (tests_of ranks x) bag none)
  taken-reason ranks bag x Memory met free = none-conflicts_of ranks bag x (free refl)

  -- no item that is left after a removal conflicts with it either
  pub none-left : (test : T → Bool) (old bag : List T) (x : T) → IsPermutation old (x ∷ bag) → list_any test old ≡ false → list_any test bag ≡ false
  none-left test old bag x taken none = (or_parts (test x) (list_any test bag) (sym (list_any-IsPermutation test old (x ∷ bag) taken) ∙ none)).1

  -- an item that conflicts with nothing does not conflict with what is left after a removal
  pub conflicts_of-left : (ranks : Ranks T) (old rest : List T) (x y : T) → conflicts_of ranks old y ≡ [] → IsPermutation old (x ∷ rest) → conflicts_of ranks rest y ≡ []
  conflicts_of-left ranks old rest x y free taken = free_left ranks old rest x y taken free

  none_at : (agree : T → T → Bool) → IsEquivalence agree → (bag : List T) (x y : T) → IsDistinct agree (x ∷ bag) → agree x y ≡ true → list_any (agree y) bag ≡ false
  none_at agree laws bag x y apart same =
      any_listed (agree y) bag ∙ ap some_item (none_pass (agree y) bag (each_weaker _ _ (λ z other. sym (laws.congr x y z same) ∙ other) bag (IsDistinct-head agree x bag apart)))

  none_elsewhere : (ranks : Ranks T) → AreLawful ranks → (bag : List T) (x y : T) → IsSound ranks (x ∷ bag) → agrees ranks x y ≡ true → PassNone (tests_of ranks y) bag
  none_elsewhere [] laws bag x y sound same = tt
  none_elsewhere (agree ∷ ranks) laws bag x y sound same =
      let both = and_parts (agree x y) (agrees ranks x y) same in
      let apart = IsSound-rank agree ranks (x ∷ bag) sound in
      (none_at agree laws.0 bag x y apart.0 both.0, none_elsewhere ranks laws.1 bag x y apart.1 both.1)

  none_again : (first rest : Ranks T) (agree : T → T → Bool) → AreLawful (first ++ agree ∷ rest) → (bag : List T) (x y : T)
      → IsSound (first ++ agree ∷ rest) (x ∷ bag) → agrees first x y ≡ true → agrees rest x y ≡ true → list_any (agree y) bag ≡ false
      → PassNone (tests_of (first ++ agree ∷ rest) y) bag
  none_again [] rest agree laws bag x y sound before behind none =
      (none, none_elsewhere rest laws.1 bag x y (IsSound-rank agree rest (x ∷ bag) sound).1 behind)
  none_again (other ∷ first) rest agree laws bag x y sound before behind none =
      let both = and_parts (other x y) (agrees first x y) before in
      let apart = IsSound-rank other (first ++ agree ∷ rest) (x ∷ bag) sound in
      (none_at other laws.0 bag x y apart.0 both.0, none_again first rest agree laws.1 bag x y apart.1 both.1 behind none)

  -- an item x that was removed can be inserted again as y, with another key of one rank, if no member had that key; at
  -- the ranks before and after it y has the keys of x
  pub none-conflicts_again : (first rest : Ranks T) (agree : T → T → Bool) → AreLawful (first ++ agree ∷ rest) → (old bag : List T) (x y : T)
      → IsSound (first ++ agree ∷ rest) old → IsPermutation old (x ∷ bag) → agrees first x y ≡ true → agrees rest x y ≡ true
      → list_any (agree y) old ≡ false → conflicts_of (first ++ agree ∷ rest) bag y ≡ []
  none-conflicts_again first rest agree laws old bag x y sound taken before behind none =
      none-conflicts_of (first ++ agree ∷ rest) bag y
      (none_again first rest agree laws bag x y (IsSound-IsPermutation (first ++ agree ∷ rest) laws old (x ∷ bag) taken sound) before behind (none-left (agree y) old bag x taken none))

  -- `retain` with a closure that a call leaves as it is, and that returns `test`, keeps those that pass
  pub kept-filter : {F : Type 0} (step : F → T → Bool → F → Type 0) (test : T → Bool) (f : F)
      → ((x : T) (b : Bool) (f' : F) → step f x b f' → (b ≡ test x) × (f' ≡ f)) → (old new : List T) → Keeps step f old new
      → IsPermutation new (filter test old)
  kept-filter step test f answers old new kept =
      let left : kept.left ≡ filter test kept.listed = filter_same step test f answers kept.listed kept.left kept.filtered in
      IsPermutation-trans _ _ _ (subst (IsPermutation new) left kept.are) (IsPermutation-sym _ _ (IsPermutation-filter test old kept.listed kept.same))

  -- so it does for any such test
  pub kept-filters : {F : Type 0} (step : F → T → Bool → F → Type 0) (f : F) (old new : List T) → Keeps step f old new → Filters step f old new
  kept-filters step f old new kept = λ test told. kept-filter step test f (λ x b g k. let t = told x b g k in (t.1, t.0)) old new kept

  -- there is at most one item more after an overwrite, whether it succeeds or fails
  pub length-overwritten : {S A E : Type 0} (ranks : Ranks T) (old new : Map T S) (x : T) (r : Result A E) → OnOk r (Overwrites ranks 1 old x new)
      → OnErr r (new ≡ old) → length (bag new) ≤ length (bag old) + 1
  length-overwritten ranks old new x (Ok a) put same = omega (arith, length-overwritten_by ranks (bag old) (bag new) x put.items)
  length-overwritten ranks old new x (Err e) put same = omega (arith, ap (λ m. length (bag m)) same)
