-- An item in the place of those that conflict with it.
use Rattle.std.proofs.Common.{◌≡◌, ◌≢◌, ℕ, ◌+◌, ◌*◌, ◌≤◌, Bool, true, false, not, cond, List, [], ◌∷◌, ◌++◌, Option, Some, None, map, length, get_or, set, refl, sym, ap, ◌∙◌, subst, arith, length-append}
use Rattle.std.specs.Prelude.{filter, IsPermutation}
use Rattle.std.specs.List.{AllByRecursion}
use Rattle.std.specs.Option.{IfSome, option_and_then, option_to_list}
use Rattle.std.specs.Cmp.{IsTotalOrder}
use Rattle.std.specs.Ordering.{is_eq}
use Rattle.std.specs.declared.cmp.Ordering.{Ordering}
use Rattle.std.specs.declared.cmp.Ordering.TheVariants.{Less, Equal, Greater}
use Rattle.std.proofs.lemmas.Bool.{false≢true}
use Rattle.std.proofs.lemmas.List.{nil_from_length}
use Rattle.std.proofs.lemmas.List.Elements.{All-head, All-tail, filter_passes}
use Rattle.std.proofs.lemmas.List.Sorted.{IsPermutation-sym, IsPermutation-trans, IsPermutation-cons, IsPermutation-append_right, IsPermutation-middle, length_permutation}
use Rattle.iddqd_store.specs.Bag.{Ranks, conflicting, conflicts_of, do_conflict, listing}
use Rattle.iddqd_store.specs.Map.{Map, Loses, bag}
use Rattle.iddqd_store.specs.Rank.{FoundByHash, walks_within}
use Rattle.iddqd_store.specs.Rank.All.{AreHashed}
use Rattle.iddqd_store.specs.Rank.Index.{HasHash}
use Rattle.iddqd_store.specs.Slots.{contents, get, IsLive}
use Rattle.iddqd_store.specs.Slots.Found.{AreFound, StandAt, items_at}
use Rattle.iddqd_store.proofs.BagLemmas.Exchanges.{IsPermutation-filter}
use Rattle.iddqd_store.proofs.BagLemmas.Over.{conflicts_of-taken, with_item-taken}
use Rattle.iddqd_store.proofs.BagLemmas.Sound.{IsPermutation-conflicting, same_from_short}
use Rattle.iddqd_store.proofs.RankLemmas.Walks.{walks_less}
use Rattle.iddqd_store.proofs.SlotLemmas.Contents.{contents-take}
use Rattle.iddqd_sorted.specs.Ordered.{IsAscending}
use Rattle.iddqd_sorted.specs.Overwriting.{overwritten}
use Rattle.iddqd_sorted.proofs.Entries.{length-items}
use Rattle.iddqd_sorted.proofs.Unique.{ascending-filter, is-with_item}

-- walks through each table, and then others through fewer pairs
pub walks_add : {X : Type 0} (ranks : List X) (a b n m : ℕ) → m ≤ n
    → walks_within n (map (λ (_ : X). a) ranks) + walks_within m (map (λ (_ : X). b) ranks) ≤ walks_within n (map (λ (_ : X). a + b) ranks)
walks_add [] a b n m less = omega arith
walks_add (r ∷ ranks) a b n m less = omega (arith, walks_add ranks a b n m less, walks_less b m n less)

-- where items left, fewer are there
pub fewer_left : {T S : Type 0} (old new : Map T S) (gone : List T) → Loses old gone new → length (contents new.slots) ≤ length (contents old.slots)
fewer_left old new gone loses = omega (arith, length_permutation _ _ loses.items, length-append gone (contents new.slots))

-- what two steps cost together, of which the first has so many parts
pub searches_both : (rest k r before between after : ℕ) → k ≡ rest + 1 → between ≤ before + rest * (3 * r + 19) → after ≤ between + 2 * (3 * r + 19) → after ≤ before + (k + 1) * (3 * r + 19)
searches_both rest k r before between after same first second = rw same (omega (arith, first, second))

pub walks_both : {X : Type 0} (ranks : List X) (n m rest k before between after : ℕ) → m ≤ n → k ≡ rest + 1 → between ≤ before + walks_within n (map (λ (_ : X). rest) ranks)
    → after ≤ between + walks_within m (map (λ (_ : X). 2) ranks) → after ≤ before + walks_within n (map (λ (_ : X). k + 1) ranks)
walks_both {X} ranks n m rest k before between after less same first second =
    let sum : rest + 2 ≡ k + 1 = omega (arith, same) in
    let all = subst (λ (w : ℕ). walks_within n (map (λ (_ : X). rest) ranks) + walks_within m (map (λ (_ : X). 2) ranks) ≤ walks_within n (map (λ (_ : X). w) ranks)) sum (walks_add ranks rest 2 n m less) in
    omega (arith, all, first, second)

module _ {T : Type 0} where
  -- at most one item passes each test
  abbrev pub AreFew : List (T → Bool) → List T → Type 0
  AreFew tests xs = AllByRecursion (λ test. length (filter test xs) ≤ 1) tests

  short : (o : Option T) → length (option_to_list o) ≤ 1
  short None = omega arith
  short (Some x) = omega arith

  pub few_found : (tests : List (T → Bool)) (slots : List (Option T)) (found : List (Option ℕ)) → AreFound tests slots found → AreFew tests (contents slots)
  few_found [] slots [] are = tt
  few_found [] slots (at ∷ found) are = absurd are
  few_found (test ∷ tests) slots [] are = absurd are
  few_found (test ∷ tests) slots (at ∷ found) are =
      (subst (λ (q : List T). length q ≤ 1) are.0.only (short (option_and_then (get slots) at)), few_found tests slots found are.1)

  fewer_both : (p q : T → Bool) (xs : List T) → length (filter p (filter q xs)) ≤ length (filter p xs)
  fewer_both p q [] = omega arith
  fewer_both p q (x ∷ xs) = by_tests (q x) (p x) refl (fewer_both p q xs)
    where
      by_tests : (b c : Bool) → p x ≡ c → length (filter p (filter q xs)) ≤ length (filter p xs) → length (filter p (cond b (x ∷ filter q xs) (filter q xs))) ≤ length (cond c (x ∷ filter p xs) (filter p xs))
      by_tests true true is more = rw is (omega (arith, more))
      by_tests true false is more = rw is more
      by_tests false true is more = omega (arith, more)
      by_tests false false is more = more

  few_others : (q : T → Bool) (tests : List (T → Bool)) (xs : List T) → AreFew tests xs → AreFew tests (filter q xs)
  few_others q [] xs few = tt
  few_others q (test ∷ tests) xs few = (omega (arith, few.0, fewer_both test q xs), few_others q tests xs few.1)

  -- where at most one item passes each test, those that pass are listed alike in each order
  pub listing-few : (tests : List (T → Bool)) (xs ys : List T) → AreFew tests xs → IsPermutation xs ys → listing tests xs ≡ listing tests ys
  listing-few [] xs ys few same = refl
  listing-few (test ∷ tests) xs ys few same =
      let first = same_from_short (filter test xs) (filter test ys) (IsPermutation-filter test xs ys same) few.0 in
      let rest = listing-few tests (filter (λ x. not (test x)) xs) (filter (λ x. not (test x)) ys) (few_others (λ x. not (test x)) tests xs few.1) (IsPermutation-filter (λ x. not (test x)) xs ys same) in
      λ t. first t ++ rest t

module _ {T : Type 0} {by : T → T → Ordering} (o : IsTotalOrder by) (ranks : Ranks T) (x : T) (level : (y : T) → by y x ≡ Equal → do_conflict ranks x y ≡ true) where
  -- what does not conflict with an item is not level with it
  apart : (y : T) → not (do_conflict ranks x y) ≡ true → is_eq (by y x) ≡ false
  apart y other = by_order (by y x) refl
    where
      by_order : (c : Ordering) → by y x ≡ c → is_eq (by y x) ≡ false
      by_order Less is = ap is_eq is
      by_order Greater is = ap is_eq is
      by_order Equal is = absurd (false≢true (ap not (sym (level y is)) ∙ other))

  -- An ascending list with the item in the place of those that conflict with it. The lists `bag` and `made` have the same items in another order.
  pub is-overwritten : (xs bag left made new : List T) → IsAscending by xs → IsAscending by new → IsPermutation bag xs → IsPermutation made new
      → IsPermutation bag (conflicting ranks bag x ++ left) → IsPermutation made (x ∷ left) → new ≡ overwritten ranks by xs x
  is-overwritten xs bag left made new up up_new listed new_listed out put =
      let test : T → Bool = λ y. not (do_conflict ranks x y) in
      let over : IsPermutation made (x ∷ filter test bag) = with_item-taken ranks bag left made x out put in
      let kept : IsPermutation (x ∷ filter test bag) (x ∷ filter test xs) = IsPermutation-cons x _ _ (IsPermutation-filter test bag xs listed) in
      is-with_item o x (filter test xs) (λ j d lt. apart (get_or (filter test xs) j d) (filter_passes test xs j d lt)) (ascending-filter o test xs up)
      new up_new (IsPermutation-trans _ _ _ (IsPermutation-sym _ _ new_listed) (IsPermutation-trans _ _ _ over kept))

-- what searches found is so where other items left
module _ {T : Type 0} (old new : List (Option T)) (left : (slot : ℕ) (x : T) → get new slot ≡ Some x → get old slot ≡ Some x) where
  hashed_left : (hash : T → ℕ) (h : ℕ) (slot : Option ℕ) → IfSome slot (λ at. HasHash hash old at h) → IfSome slot (λ at. HasHash hash new at h)
  hashed_left hash h None is = tt
  hashed_left hash h (Some at) is = λ x there. is x (left at x there)

  pub AreHashed-left : (hashes : List (T → ℕ)) (found : List FoundByHash) → AreHashed hashes old found → AreHashed hashes new found
  AreHashed-left [] [] are = tt
  AreHashed-left [] (at ∷ found) are = absurd are
  AreHashed-left (hash ∷ hashes) [] are = absurd are
  AreHashed-left (hash ∷ hashes) (at ∷ found) are = (hashed_left hash at.hash at.slot are.0, AreHashed-left hashes found are.1)

-- nothing is listed, so nothing conflicts
pub none_conflict : {T : Type 0} (ranks : Ranks T) (xs : List T) (x : T) → conflicting ranks xs x ≡ [] → conflicts_of ranks xs x ≡ []
none_conflict ranks xs x none = nil_from_length (conflicts_of ranks xs x) (length_permutation _ _ (IsPermutation-conflicting ranks xs x) ∙ ap length none)

-- The items of the slots behind the first one left. The item of the first one is still there.
module _ {T S : Type 0} (ranks : Ranks T) (old mid : Map T S) (x : T) (slot : ℕ) (rest : List ℕ) (taken : List T) (stand : StandAt old.slots (slot ∷ rest) (conflicting ranks (bag old) x))
    (values : taken ≡ items_at old.slots rest) (loses : Loses old taken mid) (stays : get mid.slots slot ≡ get old.slots slot) where
  pub still_live : IsLive mid.slots slot
  still_live = rw stays (All-head (IsLive old.slots) slot rest stand.live)

  pub as_many : length taken ≡ length rest
  as_many = ap length values ∙ length-items (get old.slots) rest (All-tail (IsLive old.slots) slot rest stand.live)

  module _ (gone : T) (there : get mid.slots slot ≡ Some gone) where
    pub all_displaced : gone ∷ taken ≡ conflicting ranks (bag old) x
    all_displaced =
        let here : get old.slots slot ≡ Some gone = sym stays ∙ there in
        ap (λ (q : List T). gone ∷ q) values ∙ (rw here at stand.items)

    pub out : IsPermutation (bag old) (conflicting ranks (bag old) x ++ contents (set mid.slots slot None))
    out =
        let left = contents (set mid.slots slot None) in
        let one : IsPermutation (taken ++ bag mid) (taken ++ gone ∷ left) = IsPermutation-append_right taken _ _ (contents-take mid.slots slot gone there) in
        subst (λ (q : List T). IsPermutation (bag old) (q ++ left)) all_displaced (IsPermutation-trans _ _ _ loses.items (IsPermutation-trans _ _ _ one (IsPermutation-middle taken gone left)))

  -- without them nothing conflicts
  pub gives_way : conflicts_of ranks (contents (set mid.slots slot None)) x ≡ []
  gives_way = by_slot (get mid.slots slot) refl still_live
    where
      by_slot : (o : Option T) → get mid.slots slot ≡ o → IsLive mid.slots slot → conflicts_of ranks (contents (set mid.slots slot None)) x ≡ []
      by_slot None is live = absurd (false≢true (rw is at live))
      by_slot (Some gone) is live = conflicts_of-taken ranks (bag old) _ x (out gone is)
