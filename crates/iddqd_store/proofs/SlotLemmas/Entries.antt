-- The slots that searches found hold what the tests find in the bag.
use Rattle.std.specs.Prelude.{◌≡◌, ◌≢◌, ℕ, Bool, true, false, cond, List, [], ◌∷◌, ◌++◌, length, filter, fold, map, Contains, Option, Some, None, is_some, nat_eq, if◌then◌else◌}
use Rattle.std.specs.Cmp.{IsEquivalence}
use Rattle.std.specs.List.{AllByRecursion, IsDistinct, list_all, list_any}
use Rattle.std.specs.Borrow.{MutBor}
use Rattle.std.specs.Option.{option_copied_mut, option_map, option_to_list, option_and_then, IfSome}
use Rattle.std.proofs.Common.{IsSome, inl, inr, refl, sym, ap, subst, ◌∙◌, arith, append-nil, append_assoc}
use Rattle.std.proofs.lemmas.Bool.{false≢true, eq-eqb}
use Rattle.std.proofs.lemmas.Bool.Decides.{nat_tests}
use Rattle.iddqd_store.specs.Bag.{listing, all_of, every_of, entry, entry_of}
use Rattle.iddqd_store.specs.Slots.{IsLive, contents, get}
use Rattle.iddqd_store.specs.Slots.Found.{items_at, contains, with_found, each_once, is_at, found_by_all, FoundAt, AreFound, held_at, entry_at}
use Rattle.iddqd_store.proofs.BagLemmas.Entries.{all_of-next}
use Rattle.iddqd_store.proofs.BagLemmas.Exchanges.{split}
use Rattle.iddqd_store.proofs.BagLemmas.Over.{IsDistinct-with_found}
use Rattle.iddqd_store.proofs.BagLemmas.Sound.{each_passes, Contains-filter, IsDistinct-nil}
use Rattle.iddqd_store.proofs.RankLemmas.Index.{Contains-cons_cases, same_slot}
use Rattle.iddqd_store.proofs.SlotLemmas.Contents.{content_at}
use Rattle.iddqd_store.proofs.SlotLemmas.Found.{listing_found}

-- a search found the one member that passes
pub found_only : {T : Type 0} (found : Option T) (x : T) (xs : List T) → option_to_list found ≡ xs → x ∷ [] ≡ xs → found ≡ Some x
found_only None x xs is only = absurd (cc (is, only))
found_only (Some y) x xs is only = let same : y ≡ x = cc (is, only) in ap Some same

-- a part of the item in a slot is that part of what is there
pub part_there : {T D : Type 0} (part : T → D) (d : D) (o : Option T) → IsSome o → ((x : T) → o ≡ Some x → d ≡ part x) → Some d ≡ option_map part o
part_there part d None some is = absurd (cc)
part_there part d (Some x) some is = ap (λ y. Some y) (is x refl)

-- each slot is found once
pub IsDistinct-each_once : (found : List (Option ℕ)) → IsDistinct nat_eq (each_once found)
IsDistinct-each_once found = on [] found (IsDistinct-nil nat_eq)
  where
    on : (numbers : List ℕ) (found : List (Option ℕ)) → IsDistinct nat_eq numbers → IsDistinct nat_eq (fold with_found numbers found)
    on numbers [] apart = apart
    on numbers (at ∷ found) apart = on (with_found numbers at) found (IsDistinct-with_found numbers at apart)

module _ {T : Type 0} {agree : T → T → Bool} (laws : IsEquivalence agree) (slots : List (Option T)) (apart : IsDistinct agree (contents slots)) where
  -- the slots found have the members that the tests list
  pub found_listing : (tests : List (T → Bool)) (found : List (Option ℕ)) → AreFound tests slots found → held_at slots found ≡ listing tests (contents slots)
  found_listing tests found are = on [] [] tests found refl are
    where
      on : (done : List (T → Bool)) (numbers : List ℕ) (tests : List (T → Bool)) (found : List (Option ℕ))
          → items_at slots numbers ≡ listing done (contents slots) → AreFound tests slots found
          → items_at slots (fold with_found numbers found) ≡ listing (done ++ tests) (contents slots)
      on done numbers [] [] so_far are = so_far ∙ ap (λ l. listing l (contents slots)) (sym (append-nil done))
      on done numbers [] (at ∷ found) so_far are = absurd are
      on done numbers (test ∷ tests) [] so_far are = absurd are
      on done numbers (test ∷ tests) (at ∷ found) so_far are =
          let one_more = listing_found agree slots done test numbers at laws.refl laws.symm apart so_far are.0.live are.0.only in
          on (done ++ test ∷ []) (with_found numbers at) tests found one_more are.1
          ∙ ap (λ l. listing l (contents slots)) (append_assoc done (test ∷ []) tests)

  -- an item passes a test exactly if the search by the test found its slot
  passes_found : (test : T → Bool) (at : Option ℕ) (slot : ℕ) (x : T) → get slots slot ≡ Some x → FoundAt test slots at → test x ≡ is_at slot at
  passes_found test None slot x here found =
      split (λ b. b ≡ false) (test x)
      (λ yes. absurd (omega (arith, (subst (λ l. Contains l x) (sym found.only) (Contains-filter test (contents slots) x yes (content_at slots slot x here))).1)))
      (λ _. refl)
  passes_found test (Some j) slot x here found = by_slot (get slots j) refl found.only found.live
    where
      by_slot : (o : Option T) → get slots j ≡ o → option_to_list o ≡ filter test (contents slots) → IsSome o → test x ≡ nat_eq slot j
      by_slot None there only some = absurd (cc)
      by_slot (Some y) there only some =
          split (λ b. test x ≡ b) (nat_eq slot j)
          (λ same.
          let one : slot ≡ j = grind (arith, nat_tests) in
          let is : Some x ≡ Some y = sym here ∙ ap (get slots) one ∙ there in
          let item : x ≡ y = cc is in
          ap test item ∙ (subst (λ l. AllByRecursion (λ z. test z ≡ true) l) (sym only) (each_passes test (contents slots))).0)
          (λ differs. split (λ b. b ≡ false) (test x)
          (λ yes.
          let found_x = subst (λ l. Contains l x) (sym only) (Contains-filter test (contents slots) x yes (content_at slots slot x here)) in
          elim (Contains-cons_cases y x [] found_x) [
            | inl same ↦
                let one : slot ≡ j = same_slot agree slots slot j x y apart laws.symm here there (ap (agree x) same ∙ laws.refl x) in
                absurd (false≢true (sym differs ∙ ap (nat_eq slot) (sym one) ∙ eq-eqb slot slot refl))
            | inr further ↦ absurd (omega (arith, further.1))
          ])
          (λ _. refl))

  every_found : (tests : List (T → Bool)) (found : List (Option ℕ)) (slot : ℕ) (x : T) → get slots slot ≡ Some x → AreFound tests slots found → every_of tests x ≡ list_all (is_at slot) found
  every_found [] [] slot x here are = refl
  every_found [] (at ∷ found) slot x here are = absurd are
  every_found (test ∷ tests) [] slot x here are = absurd are
  every_found (test ∷ tests) (at ∷ found) slot x here are =
      rw (passes_found test at slot x here are.0, every_found tests found slot x here are.1) refl

  -- the slot found by all has the member that passes every test
  found_whole : (test : T → Bool) (tests : List (T → Bool)) (found : List (Option ℕ)) → AreFound (test ∷ tests) slots found
      → option_to_list (option_and_then (get slots) (found_by_all found)) ≡ all_of (test ∷ tests) (contents slots)
  found_whole test tests [] are = absurd are
  found_whole test tests (None ∷ found) are = sym (all_of-next test tests (contents slots) ∙ ap (all_of tests) (sym are.0.only))
  found_whole test tests (Some slot ∷ found) are = by_slot (get slots slot) refl are.0.only are.0.live
    where
      by_slot : (o : Option T) → get slots slot ≡ o → option_to_list o ≡ filter test (contents slots) → IsSome o
          → option_to_list (option_and_then (get slots) (found_by_all (Some slot ∷ found))) ≡ all_of (test ∷ tests) (contents slots)
      by_slot None there only some = absurd (cc)
      by_slot (Some x) there only some =
          let whole : all_of (test ∷ tests) (contents slots) ≡ cond (list_all (is_at slot) found) (x ∷ []) [] =
          all_of-next test tests (contents slots) ∙ ap (all_of tests) (sym only) ∙ ap (λ b. cond b (x ∷ []) []) (every_found tests found slot x there are.1) in
          sym (whole ∙ split (λ b. cond b (x ∷ []) [] ≡ option_to_list (option_and_then (get slots) (cond b (Some slot) None))) (list_all (is_at slot) found) (λ _. rw there refl) (λ _. refl))

  -- the slots hold what the tests find
  pub found_entry : (tests : List (T → Bool)) (at : Option ℕ) (found : List (Option ℕ)) → AreFound tests slots (at ∷ found) → entry_at slots (at ∷ found) ≡ entry tests (contents slots)
  found_entry [] at found are = absurd are
  found_entry (test ∷ tests) at found are =
      ap (λ l. entry_of l (option_to_list (option_and_then (get slots) (found_by_all (at ∷ found))))) (found_listing (test ∷ tests) (at ∷ found) are)
      ∙ ap (entry_of (listing (test ∷ tests) (contents slots))) (found_whole test tests (at ∷ found) are)

-- what the slots that searches found hold
module _ {T : Type 0} (slots : List (Option T)) where
  front_stays : (slot : ℕ) (l : List ℕ) (found : List (Option ℕ)) → (rest : List ℕ) × (fold with_found (slot ∷ l) found ≡ slot ∷ rest)
  front_stays slot l [] = (l, refl)
  front_stays slot l (None ∷ found) = front_stays slot l found
  front_stays slot l (Some b ∷ found) =
      split (λ t. (rest : List ℕ) × (fold with_found (if t then slot ∷ l else (slot ∷ l) ++ b ∷ []) found ≡ slot ∷ rest)) (contains (slot ∷ l) b)
      (λ _. front_stays slot l found)
      (λ _. front_stays slot (l ++ b ∷ []) found)

  -- if a search found a slot, some item is held
  pub held_some : (tests : List (T → Bool)) (found : List (Option ℕ)) → AreFound tests slots found → list_any is_some found ≡ true → held_at slots found ≢ []
  held_some [] [] are some = absurd (false≢true some)
  held_some [] (at ∷ found) are some = absurd are
  held_some (test ∷ tests) [] are some = absurd are
  held_some (test ∷ tests) (None ∷ found) are some = held_some tests found are.1 some
  held_some (test ∷ tests) (Some slot ∷ found) are some = by_slot (get slots slot) refl are.0.live
    where
      by_slot : (o : Option T) → get slots slot ≡ o → IsSome o → held_at slots (Some slot ∷ found) ≢ []
      by_slot None there some = absurd (cc)
      by_slot (Some x) there some = λ none.
          let front = front_stays slot [] found in
          let held : held_at slots (Some slot ∷ found) ≡ x ∷ items_at slots front.0 = ap (items_at slots) front.1 ∙ (rw there refl) in
          absurd (omega (arith, ap length (sym held ∙ none)))

  -- if no search found one, no item is held
  pub held_none : (found : List (Option ℕ)) → list_any is_some found ≡ false → held_at slots found ≡ []
  held_none [] none = refl
  held_none (None ∷ found) none = held_none found none
  held_none (Some slot ∷ found) none = absurd (false≢true (sym none))

  -- what is borrowed from the slot that a search found is a part of the one member that passes
  pub found_data : {D : Type 0} (part : T → D) (test : T → Bool) (at : Option ℕ) → FoundAt test slots at → (r : Option (MutBor D)) → is_some r ≡ is_some at →
      ((x : T) → option_and_then (get slots) at ≡ Some x → IfSome r (λ m. m.now ≡ part x)) → option_to_list (option_copied_mut r) ≡ map part (filter test (contents slots))
  found_data part test None found None some value = ap (map part) found.only
  found_data part test None found (Some m) some value = absurd (false≢true (sym some))
  found_data part test (Some slot) found None some value = absurd (false≢true some)
  found_data part test (Some slot) found (Some m) some value = by_slot (get slots slot) refl found.only found.live
    where
      by_slot : (o : Option T) → get slots slot ≡ o → option_to_list o ≡ filter test (contents slots) → IsSome o → m.now ∷ [] ≡ map part (filter test (contents slots))
      by_slot None there only some = absurd (cc)
      by_slot (Some x) there only some = ap (λ d. d ∷ []) (value x there) ∙ ap (map part) only

-- the slot that every search found is one of those that they found
pub by_all_live : {T : Type 0} (slots : List (Option T)) (found : List (Option ℕ)) → AllByRecursion (λ at. IfSome at (IsLive slots)) found → IfSome (found_by_all found) (IsLive slots)
by_all_live slots [] live = tt
by_all_live slots (None ∷ found) live = tt
by_all_live slots (Some slot ∷ found) live = by (list_all (is_at slot) found)
  where
    by : (b : Bool) → IfSome (if b then Some slot else None) (IsLive slots)
    by true = live.0
    by false = tt
