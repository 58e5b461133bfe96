-- What searches found stays found if items change and keep their keys.
use Rattle.std.specs.Prelude.{◌≡◌, ◌≢◌, ◌≤◌, is_some, ℕ, zero, suc, Bool, true, false, List, [], ◌∷◌, length, filter, Option, Some, None, slice_set, if◌then◌else◌}
use Rattle.std.specs.Cmp.{IsEquivalence}
use Rattle.std.specs.List.{AllByRecursion, IsDistinct, list_any}
use Rattle.std.specs.Option.{option_to_list}
use Rattle.std.proofs.Common.{IsSome, refl, sym, ap, subst, ◌∙◌, arith}
use Rattle.std.proofs.lemmas.Bool.{false≢true, and_parts}
use Rattle.std.proofs.lemmas.List.{nil_from_length}
use Rattle.iddqd_store.specs.Bag.{Ranks, AreLawful, IsSound, agrees, entry, listing}
use Rattle.iddqd_store.specs.Rank.Keys.{IsKeyTest, AreKeyTests}
use Rattle.iddqd_store.specs.Slots.{contents, get}
use Rattle.iddqd_store.specs.Slots.Found.{FoundAt, AreFound, entry_at, held_at}
use Rattle.iddqd_store.specs.Slots.Kept.{KeepsKeys}
use Rattle.iddqd_store.proofs.BagLemmas.Exchanges.{split}
use Rattle.iddqd_store.proofs.BagLemmas.Same.{agrees-refl, agrees-trans}
use Rattle.iddqd_store.proofs.BagLemmas.Sound.{Contains-filter, IsSound-rank, each_passes, only_one}
use Rattle.iddqd_store.proofs.SlotLemmas.Contents.{content_at}
use Rattle.iddqd_store.proofs.SlotLemmas.Entries.{found_entry, found_listing, held_none, held_some}

weaker : {T : Type 0} (p q : T → T → Bool) → ((x y : T) → p x y ≡ true → q x y ≡ true) → (old new : List (Option T)) → KeepsKeys p old new → KeepsKeys q old new
weaker p q less [] [] kept = tt
weaker p q less [] (o ∷ new) kept = absurd kept
weaker p q less (o ∷ old) [] kept = absurd kept
weaker p q less (None ∷ old) (None ∷ new) kept = (tt, weaker p q less old new kept.1)
weaker p q less (None ∷ old) (Some y ∷ new) kept = absurd kept.0
weaker p q less (Some x ∷ old) (None ∷ new) kept = absurd kept.0
weaker p q less (Some x ∷ old) (Some y ∷ new) kept = (less x y kept.0, weaker p q less old new kept.1)

module _ {T : Type 0} (ranks : Ranks T) (laws : AreLawful ranks) where
  pub kept-same : (slots : List (Option T)) → KeepsKeys (agrees ranks) slots slots
  kept-same [] = tt
  kept-same (None ∷ slots) = (tt, kept-same slots)
  kept-same (Some x ∷ slots) = (agrees-refl ranks laws x, kept-same slots)

  -- one more item is written, which keeps its keys
  pub kept-set : (old mid : List (Option T)) (at : ℕ) (x y : T) → KeepsKeys (agrees ranks) old mid → get mid at ≡ Some x → agrees ranks x y ≡ true
      → KeepsKeys (agrees ranks) old (slice_set mid at (Some y))
  kept-set [] [] at x y kept here same = kept
  kept-set [] (p ∷ mid) at x y kept here same = absurd kept
  kept-set (o ∷ old) [] at x y kept here same = absurd kept
  kept-set (o ∷ old) (None ∷ mid) zero x y kept here same = absurd (cc here)
  kept-set (None ∷ old) (Some z ∷ mid) zero x y kept here same = absurd kept.0
  kept-set (Some w ∷ old) (Some z ∷ mid) zero x y kept here same =
      let is : z ≡ x = cc here in
      (agrees-trans ranks laws w z y kept.0 (rw is same), kept.1)
  kept-set (o ∷ old) (p ∷ mid) (suc at) x y kept here same = (kept.0, kept-set old mid at x y kept.1 here same)

module _ {T : Type 0} {agree : T → T → Bool} (laws : IsEquivalence agree) (test : T → Bool) (key : IsKeyTest agree test) where
  same_answer : (x y : T) → agree x y ≡ true → test x ≡ test y
  same_answer x y same =
      split (λ b. b ≡ test y) (test x)
      (λ yes. sym same ∙ key x y yes)
      (λ no. split (λ b. false ≡ b) (test y) (λ yes. sym no ∙ sym (key y x yes) ∙ laws.symm y x ∙ same) (λ _. refl))

  counts : (b c : Bool) (x y : T) (xs ys : List T) → b ≡ c → length ys ≡ length xs → length (if c then y ∷ ys else ys) ≡ length (if b then x ∷ xs else xs)
  counts true true x y xs ys is longer = omega (arith, longer)
  counts true false x y xs ys is longer = absurd (false≢true (sym is))
  counts false true x y xs ys is longer = absurd (false≢true is)
  counts false false x y xs ys is longer = longer

  as_many : (old new : List (Option T)) → KeepsKeys agree old new → length (filter test (contents new)) ≡ length (filter test (contents old))
  as_many [] [] kept = refl
  as_many [] (p ∷ new) kept = absurd kept
  as_many (o ∷ old) [] kept = absurd kept
  as_many (None ∷ old) (None ∷ new) kept = as_many old new kept.1
  as_many (None ∷ old) (Some y ∷ new) kept = absurd kept.0
  as_many (Some x ∷ old) (None ∷ new) kept = absurd kept.0
  as_many (Some x ∷ old) (Some y ∷ new) kept = counts (test x) (test y) x y (filter test (contents old)) (filter test (contents new)) (same_answer x y kept.0) (as_many old new kept.1)

  there_still : (old new : List (Option T)) (at : ℕ) (x : T) → KeepsKeys agree old new → get old at ≡ Some x → (y : T) × (get new at ≡ Some y) × (agree x y ≡ true)
  there_still [] [] at x kept here = absurd (cc here)
  there_still [] (p ∷ new) at x kept here = absurd kept
  there_still (o ∷ old) [] at x kept here = absurd kept
  there_still (None ∷ old) (p ∷ new) zero x kept here = absurd (cc here)
  there_still (Some z ∷ old) (None ∷ new) zero x kept here = absurd kept.0
  there_still (Some z ∷ old) (Some y ∷ new) zero x kept here =
      let is : z ≡ x = cc here in
      (y, refl, subst (λ w. agree w y ≡ true) is kept.0)
  there_still (o ∷ old) (p ∷ new) (suc at) x kept here = there_still old new at x kept.1 here

  module _ (old new : List (Option T)) (kept : KeepsKeys agree old new) where
    passing : length (filter test (contents new)) ≡ length (filter test (contents old))
    passing = as_many old new kept

    -- a search by the test found this slot before, and would find it now
    found_still : (at : Option ℕ) → FoundAt test old at → FoundAt test new at
    found_still None found = record { only = sym (nil_from_length (filter test (contents new)) (passing ∙ ap length (sym found.only))); live = tt }
    found_still (Some slot) found = by_slot (get old slot) refl found.only found.live
      where
        by_slot : (o : Option T) → get old slot ≡ o → option_to_list o ≡ filter test (contents old) → IsSome o → FoundAt test new (Some slot)
        by_slot None there only some = absurd (cc)
        by_slot (Some x) there only some =
            let now = there_still old new slot x kept there in
            let passes : test x ≡ true = (subst (λ l. AllByRecursion (λ z. test z ≡ true) l) (sym only) (each_passes test (contents old))).0 in
            let passes_now : test now.0 ≡ true = sym (same_answer x now.0 now.2) ∙ passes in
            let one : length (filter test (contents new)) ≤ 1 = omega (arith, passing, ap length only) in
            let listed = only_one (filter test (contents new)) now.0 one (Contains-filter test (contents new) now.0 passes_now (content_at new slot now.0 now.1)) in
            record { only = rw now.1 (sym listed); live = rw now.1 refl }

-- the same for a search by each test
pub found_kept : {T : Type 0} (ranks : Ranks T) (tests : List (T → Bool)) → AreLawful ranks → AreKeyTests ranks tests → (old new : List (Option T))
    → KeepsKeys (agrees ranks) old new → (found : List (Option ℕ)) → AreFound tests old found → AreFound tests new found
found_kept [] [] laws keys old new kept [] are = tt
found_kept [] [] laws keys old new kept (at ∷ found) are = absurd are
found_kept [] (test ∷ tests) laws keys old new kept found are = absurd keys
found_kept (agree ∷ ranks) [] laws keys old new kept found are = absurd keys
found_kept (agree ∷ ranks) (test ∷ tests) laws keys old new kept [] are = absurd are
found_kept (agree ∷ ranks) (test ∷ tests) laws keys old new kept (at ∷ found) are =
    let first = weaker (agrees (agree ∷ ranks)) agree (λ x y same. (and_parts (agree x y) (agrees ranks x y) same).0) old new kept in
    let others = weaker (agrees (agree ∷ ranks)) (agrees ranks) (λ x y same. (and_parts (agree x y) (agrees ranks x y) same).1) old new kept in
    (found_still laws.0 test keys.0 old new first at are.0, found_kept ranks tests laws.1 keys.1 old new others found are.1)

-- what an entry is by the slots that its searches found
pub record FindsAt {T : Type 0} (tests : List (T → Bool)) (slots : List (Option T)) (found : List (Option ℕ)) : Type 0 where
  pub found_each : AreFound tests slots found
  pub value : entry_at slots found ≡ entry tests (contents slots)
  pub listed : held_at slots found ≡ listing tests (contents slots)
  pub some : listing tests (contents slots) ≢ []

-- it stays the same if the items keep their keys
module _ {T : Type 0} (agree : T → T → Bool) (ranks : Ranks T) (laws : AreLawful (agree ∷ ranks)) (tests : List (T → Bool))
    (keys : AreKeyTests (agree ∷ ranks) tests) (old new : List (Option T)) (kept : KeepsKeys (agrees (agree ∷ ranks)) old new)
    (sound : IsSound (agree ∷ ranks) (contents new)) where
  apart : IsDistinct agree (contents new)
  apart = (IsSound-rank agree ranks (contents new) sound).0

  pub finds_still : (at : Option ℕ) (found : List (Option ℕ)) → AreFound tests old (at ∷ found)
      → held_at old (at ∷ found) ≡ listing tests (contents old) → listing tests (contents old) ≢ [] → FindsAt tests new (at ∷ found)
  finds_still at found are listed some =
      let still : AreFound tests new (at ∷ found) = found_kept (agree ∷ ranks) tests laws keys old new kept (at ∷ found) are in
      let one : list_any is_some (at ∷ found) ≡ true = split (λ b. b ≡ true) (list_any is_some (at ∷ found)) (λ _. refl) (λ none. absurd (some (sym listed ∙ held_none old (at ∷ found) none))) in
      let listed_now = found_listing laws.0 new apart tests (at ∷ found) still in
      record {
        found_each = still;
        value = found_entry laws.0 new apart tests at found still;
        listed = listed_now;
        some = λ none. held_some new tests (at ∷ found) still one (listed_now ∙ none);
      }
