-- What a table that indexes slots finds, and how it stays an index.
use Rattle.std.specs.Prelude.{◌≡◌, ℕ, zero, suc, ◌+◌, ◌≤◌, ◌<◌, ◌==◌, Bool, true, false, cond, List, [], ◌∷◌, length, map, filter, IsPermutation, Contains, Option, Some, None, is_some, count_by, ◌⊎◌}
use Rattle.std.specs.List.{IsDistinct, AllByRecursion, sum_by}
use Rattle.std.specs.Option.{option_map_or, IfSome}
use Rattle.std.proofs.Common.{refl, sym, ap, subst, ◌∙◌, arith, inl, inr, get_or, set, zero-add, add-zero}
use Rattle.std.proofs.lemmas.Bool.{false≢true, cases_eq, eq-eqb}
use Rattle.std.proofs.lemmas.List.{get_or-set_other}
use Rattle.std.proofs.lemmas.Bool.Decides.{nat_tests}
use Rattle.std.proofs.lemmas.List.Sums.{sum_by-cons}
use Rattle.std.proofs.lemmas.Map.Keys.{IsDistinct-head, IsDistinct-cons, IsDistinct-IsPermutation}
use Rattle.std.proofs.lemmas.List.Sorted.{IsPermutation-refl, IsPermutation-sym, IsPermutation-cons, IsPermutation-trans, IsPermutation-map, length_permutation}
use Rattle.std.proofs.lemmas.List.Sorted.{Contains-permutation, sum_by-IsPermutation}
use Rattle.iddqd_store.specs.Slots.{get, members_from, members, contents}
use Rattle.iddqd_store.specs.Rank.Index.{pair_of, IsIndex, HasHash, passes_at}
use Rattle.iddqd_store.specs.Bag.{NamesOne}
use Rattle.iddqd_store.specs.Table.{HaveOwnSlots}
use Rattle.iddqd_store.proofs.BagLemmas.Sound.{each_weaker, without_named, IsDistinct-nil}
use Rattle.iddqd_store.proofs.BagLemmas.Exchanges.{split}
use Rattle.iddqd_store.proofs.SlotLemmas.Contents.{content_at, contents-members, contents-take, length-contents}

pub Contains-cons : {X : Type 0} (head x : X) (rest : List X) → Contains rest x → Contains (head ∷ rest) x
Contains-cons head x rest p = (suc p.0, omega (arith, p.1), p.2)

pub Contains-cons_cases : {X : Type 0} (head x : X) (rest : List X) → Contains (head ∷ rest) x → (head ≡ x) ⊎ Contains rest x
Contains-cons_cases head x rest (zero, within, found) = inl found
Contains-cons_cases head x rest (suc k, within, found) = inr (k, omega arith, found)

pub Contains-here : {X : Type 0} (x : X) (rest : List X) → Contains (x ∷ rest) x
Contains-here x rest = (0, omega arith, refl)

pub each_at : {X : Type 0} (P : X → Type 0) (xs : List X) (y : X) → AllByRecursion P xs → Contains xs y → P y
each_at P [] y h found = absurd (omega (arith, found.1))
each_at P (z ∷ zs) y h (zero, lt, is) = subst P is h.0
each_at P (z ∷ zs) y h (suc k, lt, is) = each_at P zs y h.1 (k, omega arith, is)

pub Contains-map : {X Y : Type 0} (f : X → Y) (xs : List X) (x : X) → Contains xs x → Contains (map f xs) (f x)
Contains-map f [] x h = absurd (omega (arith, h.1))
Contains-map f (y ∷ ys) x (zero, within, found) = (0, omega arith, ap f found)
Contains-map f (y ∷ ys) x (suc k, within, found) = Contains-cons (f y) (f x) (map f ys) (Contains-map f ys x (k, omega arith, found))

Contains-of_map : {X Y : Type 0} (f : X → Y) (xs : List X) (y : Y) → Contains (map f xs) y → (x : X) × Contains xs x × (f x ≡ y)
Contains-of_map f [] y h = absurd (omega (arith, h.1))
Contains-of_map f (x ∷ xs) y (zero, within, found) = (x, Contains-here x xs, found)
Contains-of_map f (x ∷ xs) y (suc k, within, found) =
    let rest = Contains-of_map f xs y (k, omega arith, found) in
    (rest.0, Contains-cons x rest.0 xs rest.1, rest.2)

length-map : {X Y : Type 0} (f : X → Y) (xs : List X) → length (map f xs) ≡ length xs
length-map f [] = refl
length-map f (x ∷ xs) = ap suc (length-map f xs)

pub each_from_Contains : {X : Type 0} (P : X → Type 0) (xs : List X) → ((x : X) → Contains xs x → P x) → AllByRecursion P xs
each_from_Contains P [] f = tt
each_from_Contains P (x ∷ xs) f = (f x (Contains-here x xs), each_from_Contains P xs (λ y h. f y (Contains-cons x y xs h)))

differs : (a b : ℕ) → a < b → (a == b) ≡ false
differs a b h = grind (arith, nat_tests)

pub same_slot_symm : (p q : ℕ × ℕ) → (p.1 == q.1) ≡ (q.1 == p.1)
same_slot_symm p q = grind (arith, nat_tests)

names_slot : (at : ℕ) → NamesOne (λ p q. p.1 == q.1) (λ (p : ℕ × ℕ). at == p.1)
names_slot at p q h k = grind (arith, nat_tests)

module _ {T : Type 0} where
  pub length-members_from : (first : ℕ) (slots : List (Option T)) → length (members_from first slots) ≡ count_by is_some slots
  length-members_from first [] = refl
  length-members_from first (None ∷ rest) = omega (arith, length-members_from (first + 1) rest, sum_by-cons (λ o. cond (is_some o) 1 0) None rest)
  length-members_from first (Some x ∷ rest) = omega (arith, length-members_from (first + 1) rest, sum_by-cons (λ o. cond (is_some o) 1 0) (Some x) rest)

  listed_from : (first : ℕ) (slots : List (Option T)) (at : ℕ) (x : T) → get_or slots at None ≡ Some x → Contains (members_from first slots) (first + at, x)
  listed_from first [] at x found = absurd (cc)
  listed_from first (slot ∷ rest) zero x found = rw (found, add-zero) (0, omega arith, refl)
  listed_from first (None ∷ rest) (suc at) x found =
      let shift : first + suc at ≡ first + 1 + at = omega arith in
      rw shift (listed_from (first + 1) rest at x found)
  listed_from first (Some other ∷ rest) (suc at) x found =
      let shift : first + suc at ≡ first + 1 + at = omega arith in
      rw shift (Contains-cons _ _ _ (listed_from (first + 1) rest at x found))

  slot_from : (first : ℕ) (slots : List (Option T)) (key : ℕ) (x : T) → Contains (members_from first slots) (key, x) → (at : ℕ) × (key ≡ first + at) × (get_or slots at None ≡ Some x)
  slot_from first [] key x listed = absurd (omega (arith, listed.1))
  slot_from first (None ∷ rest) key x listed =
      let later = slot_from (first + 1) rest key x listed in
      (suc later.0, omega (arith, later.1), later.2)
  slot_from first (Some other ∷ rest) key x listed =
      elim (Contains-cons_cases _ _ _ listed) [
        | inl here ↦ (0, omega (arith, ap (λ p. p.0) here), ap (λ p. Some p.1) here)
        | inr there ↦
            let later = slot_from (first + 1) rest key x there in
            (suc later.0, omega (arith, later.1), later.2)
      ]

  -- a live slot is a member
  pub member_at : (slots : List (Option T)) (at : ℕ) (x : T) → get slots at ≡ Some x → Contains (members slots) (at, x)
  member_at slots at x found = rw zero-add at (listed_from 0 slots at x found)

  -- a member is in its slot
  pub at_member : (slots : List (Option T)) (at : ℕ) (x : T) → Contains (members slots) (at, x) → get slots at ≡ Some x
  at_member slots at x listed = let found = slot_from 0 slots at x listed in ap (get slots) (found.1 ∙ zero-add found.0) ∙ found.2

  pub none_of_map : {X : Type 0} (f : X → T) (test : T → Bool) (xs : List X) → AllByRecursion (λ x. test (f x) ≡ false) xs → filter test (map f xs) ≡ []
  none_of_map f test [] h = refl
  none_of_map f test (x ∷ xs) h = rw h.0 (none_of_map f test xs h.1)

  -- if no index with the hash is accepted, no item is named
  pub none_is : (hash : T → ℕ) (test : T → Bool) (h : ℕ) (slots : List (Option T)) (pairs : List (ℕ × ℕ)) → IsIndex hash slots pairs
      → ((x : T) → Contains (contents slots) x → test x ≡ true → hash x ≡ h) → ((at : ℕ) → Contains pairs (h, at) → passes_at test slots at ≡ false)
      → filter test (contents slots) ≡ []
  none_is hash test h slots pairs index alike none =
      subst (λ l. filter test l ≡ []) (contents-members slots) (none_of_map (λ m. m.1) test (members slots) (each_from_Contains (λ m. test m.1 ≡ false) (members slots) (λ m listed.
      let stands = at_member slots m.0 m.1 listed in
      let paired : Contains pairs (hash m.1, m.0) = Contains-permutation _ _ _ (IsPermutation-sym _ _ index.paired) (Contains-map (pair_of hash) (members slots) m listed) in
      split (λ b. b ≡ false) (test m.1)
      (λ yes.
      let same = alike m.1 (content_at slots m.0 m.1 stands) yes in
      let refused : passes_at test slots m.0 ≡ false = none m.0 (subst (λ k. Contains pairs (k, m.0)) same paired) in
      let is : passes_at test slots m.0 ≡ test m.1 = ap (λ o. option_map_or test o false) stands in
      sym yes ∙ sym is ∙ refused)
      (λ _. refl))))

  pub IsIndex-empty : {hash : T → ℕ} → IsIndex hash [] []
  IsIndex-empty = record { paired = IsPermutation-refl [] }

  -- a table in another order indexes the same slots
  pub IsIndex-reorder : {hash : T → ℕ} {slots : List (Option T)} {pairs more : List (ℕ × ℕ)} → IsIndex hash slots pairs → IsPermutation pairs more → IsIndex hash slots more
  IsIndex-reorder index same = record { paired = IsPermutation-trans _ _ _ (IsPermutation-sym _ _ same) index.paired }

  -- a pair and its slot come together
  pub IsIndex-insert : {hash : T → ℕ} {old new : List (Option T)} {pairs more : List (ℕ × ℕ)} {at h : ℕ} (x : T) → IsIndex hash old pairs → h ≡ hash x
      → IsPermutation (members new) ((at, x) ∷ members old) → IsPermutation ((h, at) ∷ pairs) more → IsIndex hash new more
  IsIndex-insert {hash = hash} {pairs = pairs} {more = more} {at = at} x index is added paired = record {
    paired =
        IsPermutation-trans _ _ _ (IsPermutation-sym _ _ (subst (λ k. IsPermutation ((k, at) ∷ pairs) more) is paired))
        (IsPermutation-trans _ _ _ (IsPermutation-cons (hash x, at) _ _ index.paired)
        (IsPermutation-sym _ _ (IsPermutation-map (pair_of hash) _ _ added)));
  }

  -- slot numbers differ
  low_pairs : (hash : T → ℕ) (first : ℕ) (slots : List (Option T)) → AllByRecursion (λ p. first ≤ p.1) (map (pair_of hash) (members_from first slots))
  low_pairs hash first [] = tt
  low_pairs hash first (None ∷ rest) = each_weaker (λ p. first + 1 ≤ p.1) (λ p. first ≤ p.1) (λ p h. omega arith) _ (low_pairs hash (first + 1) rest)
  low_pairs hash first (Some x ∷ rest) = (omega arith, each_weaker (λ p. first + 1 ≤ p.1) (λ p. first ≤ p.1) (λ p h. omega arith) _ (low_pairs hash (first + 1) rest))

  distinct_pairs : (hash : T → ℕ) (first : ℕ) (slots : List (Option T)) → IsDistinct (λ p q. p.1 == q.1) (map (pair_of hash) (members_from first slots))
  distinct_pairs hash first [] = IsDistinct-nil _
  distinct_pairs hash first (None ∷ rest) = distinct_pairs hash (first + 1) rest
  distinct_pairs hash first (Some x ∷ rest) =
      IsDistinct-cons (λ p q. p.1 == q.1) (hash x, first) (map (pair_of hash) (members_from (first + 1) rest))
      (each_weaker (λ p. first + 1 ≤ p.1) (λ p. (first == p.1) ≡ false) (λ p h. differs first p.1 (omega arith)) _ (low_pairs hash (first + 1) rest))
      (distinct_pairs hash (first + 1) rest)

  pub own_slots : {hash : T → ℕ} {slots : List (Option T)} {pairs : List (ℕ × ℕ)} → IsIndex hash slots pairs → HaveOwnSlots pairs
  own_slots {hash = hash} {slots = slots} index = IsDistinct-IsPermutation (λ (p q : ℕ × ℕ). p.1 == q.1) same_slot_symm _ _ (IsPermutation-sym _ _ index.paired) (distinct_pairs hash 0 slots)

  -- a pair and its slot leave together
  pub IsIndex-remove : {hash : T → ℕ} {old new : List (Option T)} {pairs fewer : List (ℕ × ℕ)} {at h : ℕ} (x : T) → IsIndex hash old pairs
      → h ≡ hash x → IsPermutation (members old) ((at, x) ∷ members new) → IsPermutation pairs ((h, at) ∷ fewer) → IsIndex hash new fewer
  IsIndex-remove {hash = hash} {old = old} {new = new} {pairs = pairs} {fewer = fewer} {at = at} x index is taken leaves =
      let paired : IsPermutation pairs ((hash x, at) ∷ fewer) = subst (λ k. IsPermutation pairs ((k, at) ∷ fewer)) is leaves in
      let slot : ℕ × ℕ → ℕ × ℕ → Bool = λ p q. p.1 == q.1 in
      let left : List (ℕ × ℕ) = map (pair_of hash) (members new) in
      let other : IsPermutation pairs ((hash x, at) ∷ left) = IsPermutation-trans _ _ _ index.paired (IsPermutation-map (pair_of hash) _ _ taken) in
      let apart : IsDistinct slot pairs = own_slots index in
      let first = without_named slot (λ p. at == p.1) (names_slot at) pairs fewer (hash x, at) (IsDistinct-IsPermutation slot same_slot_symm _ _ paired apart) (eq-eqb at at refl) paired in
      let second = without_named slot (λ p. at == p.1) (names_slot at) pairs left (hash x, at) (IsDistinct-IsPermutation slot same_slot_symm _ _ other apart) (eq-eqb at at refl) other in
      record { paired = IsPermutation-trans _ _ _ (IsPermutation-sym _ _ first) second }

  -- the pair of a live slot is in its table
  pub pair_in : {hash : T → ℕ} {slots : List (Option T)} {pairs : List (ℕ × ℕ)} (at : ℕ) (x : T) (h : ℕ) → IsIndex hash slots pairs → h ≡ hash x → get slots at ≡ Some x → Contains pairs (h, at)
  pair_in {hash = hash} {slots = slots} {pairs = pairs} at x h index is found =
      subst (λ k. Contains pairs (k, at)) (sym is) (Contains-permutation _ _ _ (IsPermutation-sym _ _ index.paired) (Contains-map (pair_of hash) (members slots) (at, x) (member_at slots at x found)))

  -- an item in a slot that is paired with a hash has this hash
  pub hash_at : {hash : T → ℕ} {slots : List (Option T)} {pairs : List (ℕ × ℕ)} (at h : ℕ) (x : T) → IsIndex hash slots pairs → Contains pairs (h, at) → get slots at ≡ Some x → hash x ≡ h
  hash_at {hash = hash} {slots = slots} at h x index listed found =
      let source = Contains-of_map (pair_of hash) (members slots) (h, at) (Contains-permutation _ _ _ index.paired listed) in
      let there : get slots source.0.0 ≡ Some source.0.1 = at_member slots source.0.0 source.0.1 source.1 in
      let slot : source.0.0 ≡ at = ap (λ p. p.1) source.2 in
      let same : Some x ≡ Some source.0.1 = sym found ∙ ap (get slots) (sym slot) ∙ there in
      let item : x ≡ source.0.1 = cc in
      ap hash item ∙ ap (λ p. p.0) source.2

  -- a hash that is given is that of the item
  pub hash_known : {hash : T → ℕ} {slots : List (Option T)} {pairs : List (ℕ × ℕ)} (at : ℕ) (x : T) (known : Option ℕ) → IsIndex hash slots pairs
      → IfSome known (HasHash hash slots at) → get slots at ≡ Some x → IfSome known (λ h. hash x ≡ h)
  hash_known at x None index has found = tt
  hash_known at x (Some h) index has found = has x found

  -- as many pairs as items
  pub length-index : {hash : T → ℕ} {slots : List (Option T)} {pairs : List (ℕ × ℕ)} → IsIndex hash slots pairs → length pairs ≡ length (contents slots)
  length-index {hash = hash} {slots = slots} index =
      sym (length_permutation _ _ index.paired) ∙ length-map (pair_of hash) (members slots) ∙ length-members_from 0 slots ∙ sym (length-contents slots)

  -- two slots whose items agree are the same slot
  pub same_slot : (agree : T → T → Bool) (slots : List (Option T)) (a b : ℕ) (x y : T) → IsDistinct agree (contents slots)
      → ((x y : T) → agree x y ≡ agree y x) → get slots a ≡ Some x → get slots b ≡ Some y → agree x y ≡ true → a ≡ b
  same_slot agree slots a b x y apart symm found other alike =
      elim (cases_eq a b) [
        | inl same ↦ same
        | inr differs ↦
            let rest : List (Option T) = set slots a None in
            let kept : get rest b ≡ Some y = get_or-set_other slots a b None None (λ e. differs (sym e)) ∙ other in
            let moved : IsPermutation (contents slots) (x ∷ contents rest) = contents-take slots a x found in
            let head = IsDistinct-head agree x (contents rest) (IsDistinct-IsPermutation agree symm _ _ moved apart) in
            absurd (false≢true (sym (each_at (λ z. agree x z ≡ false) (contents rest) y head (content_at rest b y kept)) ∙ alike))
      ]

sum_by-map : {X Y : Type 0} (f : Y → ℕ) (h : X → Y) (xs : List X) → sum_by f (map h xs) ≡ sum_by (λ x. f (h x)) xs
sum_by-map f h [] = refl
sum_by-map f h (x ∷ xs) = omega (arith, sum_by-map f h xs, sum_by-cons f (h x) (map h xs), sum_by-cons (λ x. f (h x)) x xs)

-- as many pairs have a hash as items
pub crowd_is : {T : Type 0} (hash : T → ℕ) (h : ℕ) (slots : List (Option T)) (pairs : List (ℕ × ℕ)) → IsIndex hash slots pairs
    → count_by (λ p. p.0 == h) pairs ≡ count_by (λ x. hash x == h) (contents slots)
crowd_is hash h slots pairs index =
    let moved = sum_by-IsPermutation (λ p. cond (p.0 == h) 1 0) _ _ index.paired in
    let first = sum_by-map (λ (p : ℕ × ℕ). cond (p.0 == h) 1 0) (pair_of hash) (members slots) in
    let second = sum_by-map (λ x. cond (hash x == h) 1 0) (λ m. m.1) (members slots) in
    sym moved ∙ first ∙ sym second ∙ ap (count_by (λ x. hash x == h)) (contents-members slots)
