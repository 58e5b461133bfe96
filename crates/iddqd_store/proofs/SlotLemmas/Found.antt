-- The slots that searches find, rank by rank, are those of a listing.
use Rattle.std.specs.Prelude.{◌≡◌, ℕ, Bool, true, false, cond, not, ◌||◌, ◌&&◌, List, [], ◌∷◌, ◌++◌, length, filter, IsPermutation, Contains, Option, Some, None, nat_eq, ◌≢◌, All}
use Rattle.std.specs.List.{IsDistinct}
use Rattle.std.specs.Option.{option_to_list, option_and_then, IfSome}
use Rattle.std.proofs.Common.{IsSome, inl, inr, refl, sym, ap, subst, ◌∙◌, arith, append-nil, append_assoc}
use Rattle.std.proofs.lemmas.Bool.{false≢true, or_right, eqb-true, eq-eqb}
use Rattle.std.proofs.lemmas.List.Sorted.{Contains-permutation, IsPermutation-sym, length_permutation}
use Rattle.iddqd_store.specs.Bag.{some_of, listing, remainder, Ranks, conflicting, conflicts_of}
use Rattle.iddqd_store.specs.Slots.{get, IsLive, contents}
use Rattle.iddqd_store.specs.Slots.Found.{items_at, contains, with_found}
use Rattle.std.proofs.lemmas.List.Elements.{All-head, filter_agree}
use Rattle.iddqd_store.proofs.BagLemmas.Exchanges.{split}
use Rattle.iddqd_store.proofs.BagLemmas.Sound.{each_passes, Contains-filter, filter_twice, filter_swap, IsPermutation-listing, IsPermutation-conflicting, same_from_short}
use Rattle.iddqd_store.proofs.RankLemmas.Index.{Contains-cons, Contains-cons_cases, Contains-here, same_slot}
use Rattle.iddqd_store.proofs.SlotLemmas.Contents.{content_at}
use Rattle.iddqd_store.proofs.RankLemmas.Search.{each_at}

not_either : (a b : Bool) → (not a && not b) ≡ not (a || b)
not_either true b = refl
not_either false b = refl

module _ {T : Type 0} where
  filter_everything : (xs : List T) → filter (λ x. true) xs ≡ xs
  filter_everything [] = refl
  filter_everything (x ∷ xs) = ap (λ l. x ∷ l) (filter_everything xs)

  without_more : (test : T → Bool) (tests : List (T → Bool)) (xs : List T) → remainder tests (filter (λ x. not (test x)) xs) ≡ remainder (test ∷ tests) xs
  without_more test tests xs =
      filter_twice (λ x. not (test x)) (λ x. not (some_of tests x)) xs
      ∙ filter_agree (λ x. not (test x) && not (some_of tests x)) (λ x. not (test x || some_of tests x)) (λ x. not_either (test x) (some_of tests x)) xs

  -- one more test lists those of the rest that pass it
  pub listing-push : (tests : List (T → Bool)) (test : T → Bool) (xs : List T) → listing (tests ++ test ∷ []) xs ≡ listing tests xs ++ filter test (remainder tests xs)
  listing-push [] test xs = append-nil _ ∙ ap (filter test) (sym (filter_everything xs))
  listing-push (first ∷ tests) test xs =
      let rest : List T = filter (λ x. not (first x)) xs in
      ap (λ l. filter first xs ++ l) (listing-push tests test rest ∙ ap (λ l. listing tests rest ++ filter test l) (without_more first tests xs))
      ∙ sym (append_assoc (filter first xs) (listing tests rest) (filter test (remainder (first ∷ tests) xs)))

  -- each member of a listing passes some test
  pub some_passes : (tests : List (T → Bool)) (xs : List T) (y : T) → Contains (listing tests xs) y → some_of tests y ≡ true
  some_passes tests xs y found = each_at (λ y. some_of tests y ≡ true) _ y (each_passes (some_of tests) xs) (Contains-permutation _ _ y (IsPermutation-listing tests xs) found)

  -- each member that passes some test is in a listing
  pub passer_listed : (tests : List (T → Bool)) (xs : List T) (y : T) → some_of tests y ≡ true → Contains xs y → Contains (listing tests xs) y
  passer_listed tests xs y passes found = Contains-permutation _ _ y (IsPermutation-sym _ _ (IsPermutation-listing tests xs)) (Contains-filter (some_of tests) xs y passes found)

  pub items_at-push : (slots : List (Option T)) (numbers : List ℕ) (b : ℕ) → items_at slots (numbers ++ b ∷ []) ≡ items_at slots numbers ++ option_to_list (get slots b)
  items_at-push slots [] b = by_slot (get slots b) refl
    where
      by_slot : (o : Option T) → get slots b ≡ o → items_at slots (b ∷ []) ≡ option_to_list (get slots b)
      by_slot None is = rw is refl
      by_slot (Some x) is = rw is refl
  items_at-push slots (a ∷ numbers) b = by_slot (get slots a) refl (items_at-push slots numbers b)
    where
      by_slot : (o : Option T) → get slots a ≡ o → items_at slots (numbers ++ b ∷ []) ≡ items_at slots numbers ++ option_to_list (get slots b)
          → items_at slots (a ∷ (numbers ++ b ∷ [])) ≡ items_at slots (a ∷ numbers) ++ option_to_list (get slots b)
      by_slot None is e = rw is e
      by_slot (Some x) is e = rw is (ap (λ l. x ∷ l) e)

  -- an item at some of the slots is in one that is listed
  slot_of : (slots : List (Option T)) (numbers : List ℕ) (y : T) → Contains (items_at slots numbers) y → (a : ℕ) × (contains numbers a ≡ true) × (get slots a ≡ Some y)
  slot_of slots [] y found = absurd (omega (arith, found.1))
  slot_of slots (a ∷ numbers) y found = by_slot (get slots a) refl found (slot_of slots numbers y)
    where
      later : (b : ℕ) × (contains numbers b ≡ true) × (get slots b ≡ Some y) → (b : ℕ) × (contains (a ∷ numbers) b ≡ true) × (get slots b ≡ Some y)
      later r = (r.0, or_right (nat_eq r.0 a) (contains numbers r.0) r.1, r.2)

      by_slot : (o : Option T) → get slots a ≡ o → Contains (items_at slots (a ∷ numbers)) y
          → (Contains (items_at slots numbers) y → (b : ℕ) × (contains numbers b ≡ true) × (get slots b ≡ Some y))
          → (b : ℕ) × (contains (a ∷ numbers) b ≡ true) × (get slots b ≡ Some y)
      by_slot None is found rest = later (rest (rw is at found))
      by_slot (Some x) is found rest =
          let there : Contains (x ∷ items_at slots numbers) y = rw is at found in
          elim (Contains-cons_cases x y (items_at slots numbers) there) [
            | inl same ↦ (a, rw (eq-eqb a a refl) refl, is ∙ ap Some same)
            | inr further ↦ later (rest further)
          ]

  -- the item of a listed slot is among those at the slots
  pub item_listed : (slots : List (Option T)) (numbers : List ℕ) (b : ℕ) (y : T) → contains numbers b ≡ true → get slots b ≡ Some y → Contains (items_at slots numbers) y
  item_listed slots [] b y listed at = absurd (false≢true listed)
  item_listed slots (a ∷ numbers) b y listed at = by_test (nat_eq b a) refl listed (λ l. item_listed slots numbers b y l at)
    where
      further : (o : Option T) → get slots a ≡ o → Contains (items_at slots numbers) y → Contains (items_at slots (a ∷ numbers)) y
      further None is found = rw is found
      further (Some x) is found = rw is (Contains-cons x y (items_at slots numbers) found)

      by_test : (t : Bool) → nat_eq b a ≡ t → (t || contains numbers b) ≡ true → (contains numbers b ≡ true → Contains (items_at slots numbers) y) → Contains (items_at slots (a ∷ numbers)) y
      by_test true is h rest =
          let here : get slots a ≡ Some y = ap (get slots) (sym (eqb-true b a is)) ∙ at in
          rw here (Contains-here y (items_at slots numbers))
      by_test false is h rest = further (get slots a) refl (rest h)

  -- a search by one more test adds the slot that it found, unless it is among those found before
  pub listing_found : (agree : T → T → Bool) (slots : List (Option T)) (tests : List (T → Bool)) (test : T → Bool) (numbers : List ℕ)
      (found : Option ℕ) → ((x : T) → agree x x ≡ true) → ((x y : T) → agree x y ≡ agree y x) → IsDistinct agree (contents slots)
      → items_at slots numbers ≡ listing tests (contents slots) → IfSome found (IsLive slots)
      → option_to_list (option_and_then (get slots) found) ≡ filter test (contents slots)
      → items_at slots (with_found numbers found) ≡ listing (tests ++ test ∷ []) (contents slots)
  listing_found agree slots tests test numbers None itself_alike symm apart before live is =
      let none : filter test (remainder tests (contents slots)) ≡ [] = filter_swap test (λ x. not (some_of tests x)) (contents slots) ∙ ap (filter (λ x. not (some_of tests x))) (sym is) in
      before ∙ sym (append-nil _) ∙ ap (λ l. listing tests (contents slots) ++ l) (sym none) ∙ sym (listing-push tests test (contents slots))
  listing_found agree slots tests test numbers (Some b) itself_alike symm apart before live is = by_slot (get slots b) refl live is
    where
      by_slot : (o : Option T) → get slots b ≡ o → IsSome o → option_to_list o ≡ filter test (contents slots)
          → items_at slots (with_found numbers (Some b)) ≡ listing (tests ++ test ∷ []) (contents slots)
      by_slot None at some named = absurd (cc)
      by_slot (Some y) at some named =
          let bag : List T = contents slots in
          let rest : filter test (remainder tests bag) ≡ filter (λ x. not (some_of tests x)) (y ∷ []) =
          filter_swap test (λ x. not (some_of tests x)) bag ∙ ap (filter (λ x. not (some_of tests x))) (sym named) in
          let goal : listing (tests ++ test ∷ []) bag ≡ listing tests bag ++ filter (λ x. not (some_of tests x)) (y ∷ []) = listing-push tests test bag ∙ ap (λ l. listing tests bag ++ l) rest in
          split (λ t. items_at slots (cond t numbers (numbers ++ b ∷ [])) ≡ listing (tests ++ test ∷ []) bag) (contains numbers b)
          (λ yes.
          let passes : some_of tests y ≡ true = some_passes tests bag y (subst (λ l. Contains l y) before (item_listed slots numbers b y yes at)) in
          before ∙ sym (append-nil _) ∙ sym (goal ∙ ap (λ t. listing tests bag ++ cond (not t) (y ∷ []) []) passes))
          (λ no.
          let fails : some_of tests y ≡ false = split (λ t. t ≡ false) (some_of tests y)
          (λ yes.
          let other = slot_of slots numbers y (subst (λ l. Contains l y) (sym before) (passer_listed tests bag y yes (content_at slots b y at))) in
          let one : other.0 ≡ b = same_slot agree slots other.0 b y y apart symm other.2 at (itself_alike y) in
          absurd (false≢true (sym no ∙ ap (contains numbers) (sym one) ∙ other.1)))
          (λ _. refl) in
          items_at-push slots numbers b ∙ ap (λ o. items_at slots numbers ++ option_to_list o) at ∙ ap (λ l. l ++ y ∷ []) before
          ∙ sym (goal ∙ ap (λ t. listing tests bag ++ cond (not t) (y ∷ []) []) fails))

module _ {T : Type 0} where
  -- if no conflicting slot is found, nothing conflicts
  pub none_conflict : (ranks : Ranks T) (slots : List (Option T)) (x : T) (numbers : List ℕ) → items_at slots numbers ≡ conflicting ranks (contents slots) x
      → length numbers ≡ 0 → conflicts_of ranks (contents slots) x ≡ []
  none_conflict ranks slots x [] is short = sym (same_from_short [] _
      (subst (λ l. IsPermutation l (conflicts_of ranks (contents slots) x)) (sym is) (IsPermutation-conflicting ranks (contents slots) x)) (omega arith))
  none_conflict ranks slots x (a ∷ numbers) is short = absurd (omega arith)

  -- if a slot is found, something conflicts
  pub some_conflict : (ranks : Ranks T) (slots : List (Option T)) (x : T) (numbers : List ℕ) → items_at slots numbers ≡ conflicting ranks (contents slots) x
      → All (IsLive slots) numbers → length numbers ≢ 0 → conflicts_of ranks (contents slots) x ≢ []
  some_conflict ranks slots x [] is live some none = some refl
  some_conflict ranks slots x (a ∷ numbers) is live some none = by_slot (get slots a) refl (All-head (IsLive slots) a numbers live)
    where
      same : IsPermutation (items_at slots (a ∷ numbers)) []
      same = subst (λ l. IsPermutation (items_at slots (a ∷ numbers)) l) none (subst (λ l. IsPermutation l (conflicts_of ranks (contents slots) x)) (sym is) (IsPermutation-conflicting ranks (contents slots) x))

      by_slot : (o : Option T) → get slots a ≡ o → IsSome o → ⊥
      by_slot None at some = absurd (cc)
      by_slot (Some y) at some =
          let long : length (y ∷ items_at slots numbers) ≡ 0 = sym (length_permutation _ _ (rw at at same)) in
          omega arith
