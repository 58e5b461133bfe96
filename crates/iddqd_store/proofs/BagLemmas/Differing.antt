-- How the items of two bags pair off, one after another.
use Rattle.std.specs.Prelude.{◌≡◌, ◌≤◌, ◌+◌, ◌*◌, ℕ, Bool, true, false, not, ◌&&◌, ◌||◌, List, [], ◌∷◌, ◌++◌, cond, map, filter, length, All, IsPermutation, Option}
use Rattle.std.specs.Cmp.{IsEquivalence}
use Rattle.std.specs.List.{IsDistinct, list_any}
use Rattle.std.proofs.Common.{refl, sym, ap, subst, ◌∙◌, arith}
use Rattle.std.proofs.lemmas.List.{append_assoc, append-nil, length-append, map-append}
use Rattle.std.proofs.lemmas.List.Elements.{All-append, All-cons, All-nil, filter-append}
use Rattle.std.proofs.lemmas.List.Sums.{sum_by_push, sum_by-append}
use Rattle.std.proofs.lemmas.List.Sorted.{IsPermutation-refl, IsPermutation-trans, IsPermutation-append, IsPermutation-filter_both}
use Rattle.std.proofs.lemmas.Map.Keys.{IsDistinct-head, IsDistinct-tail}
use Rattle.iddqd_store.specs.Bag.{crowd}
use Rattle.iddqd_store.specs.Differing.{SearchesEach, paired, unpaired}
use Rattle.iddqd_store.specs.Rank.{Costs, SearchCosts}
use Rattle.iddqd_store.specs.declared.differing.ItemPair.{ItemPair}
use Rattle.iddqd_store.proofs.BagLemmas.Sound.{none_pass, each_weaker}
use Rattle.iddqd_store.proofs.BagLemmas.Unique.{any_listed, some_item}

twice : (b : Bool) → b ≡ not (not b)
twice true = refl
twice false = refl

never : (b : Bool) → (b && false) ≡ false
never true = refl
never false = refl

all_kept : {T : Type 0} (xs : List T) → xs ≡ filter (λ x. true) xs
all_kept [] = refl
all_kept (x ∷ xs) = ap (λ l. x ∷ l) (all_kept xs)

-- a filter of a filter asks both tests
fused : {T : Type 0} (p q r : T → Bool) → ((x : T) → r x ≡ (q x && p x)) → (xs : List T) → filter p (filter q xs) ≡ filter r xs
fused p q r both [] = refl
fused p q r both (x ∷ xs) = by_test (q x) refl (fused p q r both xs)
  where
    by_test : (b : Bool) → q x ≡ b → filter p (filter q xs) ≡ filter r xs → filter p (filter q (x ∷ xs)) ≡ filter r (x ∷ xs)
    by_test true is rest =
        let same : r x ≡ p x = both x ∙ ap (λ b. b && p x) is in
        rw (is, same) (ap (λ l. cond (p x) (x ∷ l) l) rest)
    by_test false is rest =
        let out : r x ≡ false = both x ∙ ap (λ b. b && p x) is in
        rw (is, out) rest

module _ {T : Type 0} (agree : T → T → Bool) where
  -- the partners that the items of a list have in another bag, one after another
  abbrev pub partners : List T → List T → List T
  partners [] other = []
  partners (x ∷ xs) other = filter (agree x) other ++ partners xs other

  partners-push : (xs other : List T) (x : T) → partners (xs ++ x ∷ []) other ≡ partners xs other ++ filter (agree x) other
  partners-push [] other x = append-nil (filter (agree x) other)
  partners-push (y ∷ ys) other x = ap (λ l. filter (agree y) other ++ l) (partners-push ys other x) ∙ sym (append_assoc (filter (agree y) other) (partners ys other) (filter (agree x) other))

  -- The items of `done` were paired off so far: `alone` have no partner in the other bag.
  pub record ArePaired (done other alone : List T) (pairs : List (ItemPair T)) : Type 0 where
    pub alone_are : alone ≡ unpaired agree done other
    pub before : map (λ p. p.before.now) pairs ≡ paired agree done other
    pub after : map (λ p. p.after.now) pairs ≡ partners done other
    pub agree_in_pairs : All (λ p. agree p.before.now p.after.now ≡ true) pairs

  none_any : (x : T) (other : List T) → [] ≡ filter (agree x) other → list_any (agree x) other ≡ false
  none_any x other none = any_listed (agree x) other ∙ ap some_item (sym none)

  some_any : (x y : T) (other : List T) → y ∷ [] ≡ filter (agree x) other → list_any (agree x) other ≡ true
  some_any x y other some = any_listed (agree x) other ∙ ap some_item (sym some)

  -- one more item without a partner
  pub unpaired-alone : (done other : List T) (x : T) → [] ≡ filter (agree x) other → unpaired agree (done ++ x ∷ []) other ≡ unpaired agree done other ++ x ∷ []
  unpaired-alone done other x none = filter-append _ done (x ∷ []) ∙ ap (λ b. unpaired agree done other ++ cond (not b) (x ∷ []) []) (none_any x other none)

  -- one more item with a partner
  pub unpaired-paired : (done other : List T) (x y : T) → y ∷ [] ≡ filter (agree x) other → unpaired agree (done ++ x ∷ []) other ≡ unpaired agree done other
  unpaired-paired done other x y some =
      filter-append _ done (x ∷ []) ∙ ap (λ b. unpaired agree done other ++ cond (not b) (x ∷ []) []) (some_any x y other some) ∙ append-nil (unpaired agree done other)

  paired-alone : (done other : List T) (x : T) → [] ≡ filter (agree x) other → paired agree (done ++ x ∷ []) other ≡ paired agree done other
  paired-alone done other x none =
      filter-append _ done (x ∷ []) ∙ ap (λ b. paired agree done other ++ cond b (x ∷ []) []) (none_any x other none) ∙ append-nil (paired agree done other)

  paired-paired : (done other : List T) (x y : T) → y ∷ [] ≡ filter (agree x) other → paired agree (done ++ x ∷ []) other ≡ paired agree done other ++ x ∷ []
  paired-paired done other x y some = filter-append _ done (x ∷ []) ∙ ap (λ b. paired agree done other ++ cond b (x ∷ []) []) (some_any x y other some)

  pub ArePaired-none : (other : List T) → ArePaired [] other [] []
  ArePaired-none other = record { alone_are = refl; before = refl; after = refl; agree_in_pairs = All-nil (λ p. agree p.before.now p.after.now ≡ true) }

  pub ArePaired-alone : (done other alone more : List T) (pairs : List (ItemPair T)) (x : T) → ArePaired done other alone pairs
      → [] ≡ filter (agree x) other → more ≡ alone ++ x ∷ [] → ArePaired (done ++ x ∷ []) other more pairs
  ArePaired-alone done other alone more pairs x so_far none is = record {
    alone_are = is ∙ ap (λ l. l ++ x ∷ []) so_far.alone_are ∙ sym (unpaired-alone done other x none);
    before = so_far.before ∙ sym (paired-alone done other x none);
    after = so_far.after ∙ sym (partners-push done other x ∙ ap (λ l. partners done other ++ l) (sym none) ∙ append-nil (partners done other));
    agree_in_pairs = so_far.agree_in_pairs;
  }

  pub ArePaired-pair : (done other alone : List T) (pairs more : List (ItemPair T)) (p : ItemPair T) → ArePaired done other alone pairs
      → p.after.now ∷ [] ≡ filter (agree p.before.now) other → agree p.before.now p.after.now ≡ true → more ≡ pairs ++ p ∷ []
      → ArePaired (done ++ p.before.now ∷ []) other alone more
  ArePaired-pair done other alone pairs more p so_far one agrees is = record {
    alone_are = so_far.alone_are ∙ sym (unpaired-paired done other p.before.now p.after.now one);
    before = rw (is, map-append) (ap (λ l. l ++ p.before.now ∷ []) so_far.before ∙ sym (paired-paired done other p.before.now p.after.now one));
    after = rw (is, map-append) (ap (λ l. l ++ p.after.now ∷ []) so_far.after ∙ ap (λ l. partners done other ++ l) one ∙ sym (partners-push done other p.before.now));
    agree_in_pairs = rw is (All-append (λ p. agree p.before.now p.after.now ≡ true) pairs (p ∷ []) so_far.agree_in_pairs
        (All-cons (λ p. agree p.before.now p.after.now ≡ true) p [] agrees (All-nil (λ p. agree p.before.now p.after.now ≡ true))));
  }

  module _ (laws : IsEquivalence agree) where
    -- what agrees with the first item agrees with none of the others
    first_alone : (x : T) (xs : List T) (y : T) → IsDistinct agree (x ∷ xs) → agree x y ≡ (not (list_any (agree y) xs) && agree y x)
    first_alone x xs y apart = by_test (agree y x) refl
      where
        by_test : (b : Bool) → agree y x ≡ b → agree x y ≡ (not (list_any (agree y) xs) && agree y x)
        by_test true is =
            let none : list_any (agree y) xs ≡ false =
            any_listed (agree y) xs ∙ ap some_item (none_pass (agree y) xs (each_weaker _ _ (λ z out. laws.congr y x z is ∙ out) xs (IsDistinct-head agree x xs apart))) in
            rw (none, is) (laws.symm x y ∙ is)
        by_test false is = rw is (laws.symm x y ∙ is ∙ sym (never (not (list_any (agree y) xs))))

    behind : (b c : Bool) → not (c || b) ≡ (not b && not c)
    behind true true = refl
    behind true false = refl
    behind false true = refl
    behind false false = refl

    -- a bag has the items without a partner, and the partners
    pub pairs_off : (xs other : List T) → IsDistinct agree xs → IsPermutation other (unpaired agree other xs ++ partners xs other)
    pairs_off [] other apart = subst (IsPermutation other) (all_kept other ∙ sym (append-nil _)) (IsPermutation-refl other)
    pairs_off (x ∷ xs) other apart =
        let rest : List T = unpaired agree other xs in
        let both : IsPermutation rest (filter (λ y. not (agree y x)) rest ++ filter (λ y. agree y x) rest) = IsPermutation-filter_both (λ y. not (agree y x)) (λ y. agree y x) (λ y. twice (agree y x)) rest in
        let fewer : filter (λ y. not (agree y x)) rest ≡ unpaired agree other (x ∷ xs) = fused _ _ _ (λ y. behind (list_any (agree y) xs) (agree y x)) other in
        let these : filter (λ y. agree y x) rest ≡ filter (agree x) other = fused _ _ _ (λ y. first_alone x xs y apart) other in
        let parts : IsPermutation rest (unpaired agree other (x ∷ xs) ++ filter (agree x) other) = rw (fewer, these) at both in
        let all = IsPermutation-append rest _ (partners xs other) (partners xs other) parts (IsPermutation-refl _) in
        subst (IsPermutation other) (append_assoc (unpaired agree other (x ∷ xs)) (filter (agree x) other) (partners xs other))
        (IsPermutation-trans _ _ _ (pairs_off xs other (IsDistinct-tail agree x xs apart)) all)

    pub ArePaired-after : (bag other alone : List T) (pairs : List (ItemPair T)) → IsDistinct agree bag → ArePaired bag other alone pairs
        → IsPermutation other (unpaired agree other bag ++ map (λ p. p.after.now) pairs)
    ArePaired-after bag other alone pairs apart all = rw all.after (pairs_off bag other apart)

  -- a bag has the items without a partner, and those with one
  pub IsPermutation-unpaired : (bag other : List T) → IsPermutation bag (unpaired agree bag other ++ paired agree bag other)
  IsPermutation-unpaired bag other = IsPermutation-filter_both (λ x. not (list_any (agree x) other)) (λ x. list_any (agree x) other) (λ x. twice _) bag

module _ {T : Type 0} (hash_of : T → ℕ) (bag : List T) where
  pub SearchesEach-none : (costs : Costs) → SearchesEach hash_of bag [] costs costs
  SearchesEach-none costs = record { asked = omega arith; probed = omega arith }

  -- one more search
  pub SearchesEach-more : (done : List T) (x : T) {A : Type 0} (room : ℕ) (answer : Option A) (before middle after : Costs) → SearchesEach hash_of bag done before middle
      → SearchCosts hash_of bag room (hash_of x) answer middle.asked after.asked middle.probed after.probed → SearchesEach hash_of bag (done ++ x ∷ []) before after
  SearchesEach-more done x room answer before middle after so_far search = record {
    asked = omega (arith, so_far.asked, search.asked, sum_by_push (λ y. crowd hash_of bag (hash_of y)) done x);
    probed = rw (length-append done (x ∷ [])) (omega (arith, so_far.probed, search.at_most));
  }

  more_times : (m n k : ℕ) → m * k ≤ (m + n) * k
  more_times m n k = omega arith

  -- searches for some of the items cost no more than those for all
  pub SearchesEach-part : (done rest xs : List T) (before after : Costs) → xs ≡ done ++ rest → SearchesEach hash_of bag done before after → SearchesEach hash_of bag xs before after
  SearchesEach-part done rest xs before after is so_far = rw is record {
    asked = omega (arith, so_far.asked, sum_by-append (λ y. crowd hash_of bag (hash_of y)) done rest);
    probed = rw (length-append done rest) (omega (arith, so_far.probed, more_times (length done) (length rest) (length bag + 1)));
  }
