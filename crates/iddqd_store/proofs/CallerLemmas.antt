-- What a caller of a map cites: from a lookup's clause to membership and back, a lookup after an insert or a removal, batches, lengths, walks, and writes.
pub mod Asking
pub mod Batches
pub mod Calling
pub mod Entries
pub mod Extracting
pub mod Laws
pub mod Named
pub mod Updates
pub mod Visits
pub mod Walks
-- as many members conflict as are listed, and an item that conflicts with none conflicts with none in another order
pub use Rattle.iddqd_store.proofs.BagLemmas.Steps.{length-conflicts_of}
pub use Rattle.iddqd_store.proofs.BagLemmas.Building.{conflicts_of-none}
use Rattle.std.specs.Prelude.{◌≡◌, ℕ, zero, suc, ◌+◌, ◌<◌, Bool, true, false, cond, not, List, [], ◌∷◌, ◌++◌, length, filter, IsPermutation, Contains, Option, Some, None}
use Rattle.std.specs.List.{IsDistinct, list_any}
use Rattle.std.specs.Option.{option_to_list}
use Rattle.std.proofs.Common.{refl, sym, ap, subst, ◌∙◌, arith}
use Rattle.std.proofs.lemmas.Map.Keys.{IsDistinct-head}
use Rattle.std.proofs.lemmas.List.Sorted.{IsPermutation-sym, IsPermutation-trans, length_permutation, Contains-permutation}
use Rattle.iddqd_store.specs.Bag.{Ranks, AreLawful, IsSound, NamesOne, agrees, tests_of, conflicting, with_item, some_of, swap, remainder}
use Rattle.iddqd_store.specs.Map.{Map, bag}
use Rattle.iddqd_store.specs.Map.Walk.{passed_items, to_come}
use Rattle.iddqd_store.proofs.BagLemmas.Exchanges.{split, IsPermutation-filter}
use Rattle.iddqd_store.proofs.BagLemmas.Sound.{all_pass, each_passes, IsSound-rank, named_is, none_pass, each_weaker, NamesOne-apart, Contains-filter, IsSound-IsPermutation, length-with_item}
use Rattle.iddqd_store.proofs.BagLemmas.Steps.{agrees-do_conflict}
use Rattle.iddqd_store.proofs.BagLemmas.Theory.{do_conflict-self, swap-IsPermutation}
use Rattle.iddqd_store.proofs.RankLemmas.Index.{Contains-here, Contains-cons}
use Rattle.iddqd_store.proofs.BagLemmas.Unique.{any_listed, some_item}
use Rattle.iddqd_store.proofs.SlotLemmas.Next.{before_and_behind}

-- a member that passes
abbrev Passes : {T : Type 0} → (T → Bool) → List T → T → Type 0
Passes test bag x = Contains bag x × (test x ≡ true)

later : {T : Type 0} (test : T → Bool) (y x : T) (ys : List T) → Passes test ys x → Passes test (y ∷ ys) x
later test y x ys rest = (Contains-cons y x ys rest.0, rest.1)

here_or_later : {T : Type 0} (test : T → Bool) (y x : T) (ys kept : List T) → test y ≡ true → (Contains kept x → Passes test ys x) → Contains (y ∷ kept) x → Passes test (y ∷ ys) x
here_or_later test y x ys kept first rest (zero, lt, e) = ((0, omega arith, e), ap test (sym e) ∙ first)
here_or_later test y x ys kept first rest (suc k, lt, e) = later test y x ys (rest (k, omega (arith, lt), e))

pub passes-listed : {T : Type 0} (test : T → Bool) (bag : List T) (x : T) → Contains (filter test bag) x → Contains bag x × (test x ≡ true)
passes-listed test [] x there = absurd (omega (arith, there.1))
passes-listed test (y ∷ ys) x there =
    let rest = passes-listed test ys x in
    split (λ b. Contains (cond b (y ∷ filter test ys) (filter test ys)) x → Passes test (y ∷ ys) x) (test y)
    (λ first in_it. here_or_later test y x ys (filter test ys) first rest in_it)
    (λ _ in_it. later test y x ys (rest in_it))
    there

-- In what follows `test` is what a lookup asks of an item, for example `λ x. Q.stands_for query (T.key1 x)`, and `is`
-- its clause.
module _ {T : Type 0} (test : T → Bool) (bag : List T) (found : Option T) (is : option_to_list found ≡ filter test bag) where
  -- the item that a lookup gives is a member and passes
  pub member-found : (x : T) → found ≡ Some x → Contains bag x × (test x ≡ true)
  member-found x here = passes-listed test bag x (subst (λ l. Contains l x) (ap option_to_list (sym here) ∙ is) (Contains-here x []))

  -- if the lookup gives nothing, no member passes
  pub none-found : found ≡ None → (x : T) → Contains bag x → test x ≡ false
  none-found none x there =
      split (λ b. b ≡ false) (test x)
      (λ yes. absurd (let some : Contains [] x = subst (λ l. Contains l x) (sym is ∙ ap option_to_list none) (Contains-filter test bag x yes there) in omega (arith, some.1)))
      (λ _. refl)

-- a query names one key, by the law of `Equivalent`
pub NamesOne-query : {T K Q : Type 0} (eq : K → K → Bool) (stands_for : Q → K → Bool) (key : T → K)
    → ((q : Q) (k l : K) → stands_for q k ≡ true → stands_for q l ≡ eq k l) → (q : Q)
    → NamesOne (λ x y. eq (key x) (key y)) (λ x. stands_for q (key x))
NamesOne-query eq stands_for key law q x y at_x at_y = sym (law q (key x) (key y) at_x) ∙ at_y

one_of : {T : Type 0} (found : Option T) (x : T) → option_to_list found ≡ x ∷ [] → found ≡ Some x
one_of None x e = absurd (cc)
one_of (Some y) x e = let same : y ≡ x = cc in ap Some same

-- no two members have equal keys of any rank; `first` and `rest` are the ranks before and after it
pub distinct_at : {T : Type 0} (first rest : Ranks T) (agree : T → T → Bool) (bag : List T) → IsSound (first ++ agree ∷ rest) bag → IsDistinct agree bag
distinct_at [] rest agree bag sound = (IsSound-rank agree rest bag sound).0
distinct_at (other ∷ first) rest agree bag sound = distinct_at first rest agree bag (IsSound-rank other (first ++ agree ∷ rest) bag sound).1

-- In what follows `agree` is a rank: whether two items have equal keys there; `first` and `rest` are the ranks before
-- and after it. `names` says that the test names one key.
module _ {T : Type 0} (first rest : Ranks T) (agree : T → T → Bool) (test : T → Bool) (names : NamesOne agree test) (bag : List T) (sound : IsSound (first ++ agree ∷ rest) bag) where
  -- the lookup gives a member that passes
  pub found-member : (found : Option T) (x : T) → option_to_list found ≡ filter test bag → Contains bag x → test x ≡ true → found ≡ Some x
  found-member found x is there passes = one_of found x (is ∙ named_is agree test names bag x (distinct_at first rest agree bag sound) passes there)

  -- an item that was inserted is found by its key
  pub found-inserted : (old : List T) (found : Option T) (x : T) → IsPermutation bag (x ∷ old) → option_to_list found ≡ filter test bag → test x ≡ true → found ≡ Some x
  found-inserted old found x went_in is passes =
      found-member found x is (Contains-permutation (x ∷ old) bag x (IsPermutation-sym bag (x ∷ old) went_in) (Contains-here x old)) passes

  -- the map says that it has that key
  pub contains-inserted : (old : List T) (x : T) → IsPermutation bag (x ∷ old) → test x ≡ true → list_any test bag ≡ true
  contains-inserted old x went_in passes =
      any_listed test bag ∙ ap some_item (named_is agree test names bag x (distinct_at first rest agree bag sound) passes
      (Contains-permutation (x ∷ old) bag x (IsPermutation-sym bag (x ∷ old) went_in) (Contains-here x old)))

-- an item that was removed is no longer found by its key
pub none-removed : {T : Type 0} (first rest : Ranks T) (agree : T → T → Bool) → AreLawful (first ++ agree ∷ rest) → (test : T → Bool)
    → NamesOne agree test → (old bag : List T) (x : T) → IsSound (first ++ agree ∷ rest) old → IsPermutation old (x ∷ bag)
    → test x ≡ true → filter test bag ≡ []
none-removed first rest agree laws test names old bag x sound taken passes =
    let apart = distinct_at first rest agree (x ∷ bag) (IsSound-IsPermutation (first ++ agree ∷ rest) laws old (x ∷ bag) taken sound) in
    none_pass test bag (each_weaker _ _ (λ y other. NamesOne-apart agree test names x y passes other) bag (IsDistinct-head agree x bag apart))

no_more : {T : Type 0} (xs : List T) → IsPermutation [] xs → xs ≡ []
no_more [] p = refl
no_more (x ∷ xs) p = absurd (let more : suc (length xs) ≡ 0 = length_permutation [] (x ∷ xs) p in omega (arith, more))

-- the map says that it no longer has the key, whether a removal by it found an item or not
pub contains-removed : {T : Type 0} (first rest : Ranks T) (agree : T → T → Bool) → AreLawful (first ++ agree ∷ rest) → (test : T → Bool)
    → NamesOne agree test → (old bag : List T) (gone : Option T) → IsSound (first ++ agree ∷ rest) old → option_to_list gone ≡ filter test old
    → IsPermutation old (option_to_list gone ++ bag) → list_any test bag ≡ false
contains-removed first rest agree laws test names old bag None sound is left =
    let none : IsPermutation [] (filter test bag) = subst (λ l. IsPermutation l (filter test bag)) (sym is) (IsPermutation-filter test old bag left) in
    any_listed test bag ∙ ap some_item (no_more (filter test bag) none)
contains-removed first rest agree laws test names old bag (Some x) sound is left =
    any_listed test bag ∙ ap some_item (none-removed first rest agree laws test names old bag x sound left (member-found test old (Some x) is x refl).1)

-- there is one item more after an insert
pub length-inserted : {T : Type 0} (old new : List T) (x : T) → IsPermutation new (x ∷ old) → length new ≡ length old + 1
length-inserted old new x went_in = sym (length_permutation new (x ∷ old) went_in) ∙ omega arith

-- there is one item more after an overwrite, less what was displaced
pub length-overwritten_by : {T : Type 0} (ranks : Ranks T) (old new : List T) (x : T) → IsPermutation new (with_item ranks old x) → length new + length (conflicting ranks old x) ≡ length old + 1
length-overwritten_by ranks old new x went_in =
    omega (arith, length_permutation new (with_item ranks old x) went_in, length-with_item ranks old x, length-conflicts_of ranks old x)

-- the items before a place of an iteration and those after it are all the items
pub passed_items-to_come : {T S : Type 0} (m : Map T S) (at : ℕ) → bag m ≡ passed_items m at ++ to_come m at
passed_items-to_come m at = sym (before_and_behind m.slots at)

-- of two writes of a member, one after the other, the last one counts
pub swap-twice : {T : Type 0} (ranks : Ranks T) → AreLawful ranks → 0 < length ranks → (old middle new : List T) (x y z : T) → agrees ranks x y ≡ true
    → IsPermutation middle (swap ranks old x y) → IsPermutation new (swap ranks middle y z) → IsPermutation new (swap ranks old x z)
swap-twice {T} ranks laws some old middle new x y z same first last =
    let rest : List T = remainder (tests_of ranks x) old in
    let test : T → Bool = λ w. not (some_of (tests_of ranks y) w) in
    let left : filter test (y ∷ rest) ≡ rest =
    rw (do_conflict-self ranks laws some y) (all_pass test rest (each_weaker _ _ (λ w e. ap not (sym (agrees-do_conflict ranks laws x y w same)) ∙ e) rest
    (each_passes (λ w. not (some_of (tests_of ranks x) w)) old))) in
    IsPermutation-trans _ _ _ last (subst (λ l. IsPermutation (swap ranks middle y z) (z ∷ l)) left (swap-IsPermutation ranks middle (y ∷ rest) y z first))
