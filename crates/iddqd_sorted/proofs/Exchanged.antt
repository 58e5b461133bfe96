-- An item in the slot of another, whose entry goes to its own place.
use Rattle.std.proofs.Common.{◌≡◌, ℕ, zero, suc, ◌+◌, ◌<◌, Bool, true, false, not, cond, List, [], ◌∷◌, Option, Some, None, length, get_or, set, refl, sym, ap, ◌∙◌, arith, inl, inr}
use Rattle.std.specs.Prelude.{filter, IsPermutation}
use Rattle.std.specs.List.{remove}
use Rattle.std.specs.Cmp.{IsTotalOrder}
use Rattle.std.specs.declared.cmp.Ordering.{Ordering}
use Rattle.std.proofs.lemmas.Bool.{cases_lt}
use Rattle.std.proofs.lemmas.List.{get_or_past, get_or-set_same, get_or-set_other, nil_from_length}
use Rattle.std.proofs.lemmas.List.Sorted.{IsPermutation-sym, IsPermutation-trans, length_permutation}
use Rattle.std.proofs.lemmas.Map.Keys.{IsDistinct-head}
use Rattle.iddqd_store.specs.Bag.{Ranks, AreLawful, IsSound, agrees, conflicts_of, do_conflict, swap}
use Rattle.iddqd_store.specs.Map.{Map}
use Rattle.iddqd_store.specs.Map.Written.{map_with, of_item}
use Rattle.iddqd_store.specs.Slots.{get, contents, live_count, IsLive, Updates}
use Rattle.iddqd_store.proofs.BagLemmas.Exchanges.{IsPermutation-filter}
use Rattle.iddqd_store.proofs.BagLemmas.Sound.{IsSound-IsPermutation, none_pass}
use Rattle.iddqd_store.proofs.SlotLemmas.Contents.{length-contents, contents-take, contents-set}
use Rattle.iddqd_sorted.specs.declared.entry.Entry.{Entry}
use Rattle.iddqd_sorted.specs.Entries.{IsListed, items_in}
use Rattle.iddqd_sorted.specs.Settled.{ListsOthers}
use Rattle.iddqd_sorted.proofs.Listed.{items-removed, IsListed-removed}
use Rattle.iddqd_sorted.proofs.Replacing.{same_conflicts}
use Rattle.iddqd_sorted.proofs.Settling.{none_left}
use Rattle.iddqd_sorted.proofs.Sorting.{filter-same}

module _ {T : Type 0} (slots : List (Option T)) (slot : ℕ) (x y : T) (there : get slots slot ≡ Some x) where
  inside : slot < length slots
  inside = elim (cases_lt slot (length slots)) [ inl below ↦ below | inr past ↦ absurd (cc (sym (get_or_past slots slot None past) ∙ there)) ]

  pub put : Updates slots (set slots slot (Some y)) slot (Some y)
  put = record { changed = get_or-set_same slots slot (Some y) None inside; others = λ other apart. get_or-set_other slots slot other (Some y) None apart }

  pub as_many : length (contents (set slots slot (Some y))) ≡ length (contents slots)
  as_many = omega (arith, length_permutation _ _ (contents-set slots slot y inside), length_permutation _ _ (contents-take slots slot x there))

-- what stands in a slot does not matter once it is taken
pub set-twice : {A : Type 0} (xs : List A) (i : ℕ) (y z : A) → set (set xs i y) i z ≡ set xs i z
set-twice [] i y z = refl
set-twice (x ∷ xs) zero y z = refl
set-twice {A} (x ∷ xs) (suc i) y z = ap (λ (q : List A). x ∷ q) (set-twice xs i y z)

module _ {T K : Type 0} {by : T → T → Ordering} (o : IsTotalOrder by) (sort : T → K) {cmp : K → K → Ordering} (slots : List (Option T)) (es : List (Entry K)) (r : IsListed by sort cmp slots es)
    (slot : ℕ) (x : T) (p : ℕ) (lt : p < length es) (at : (d : Entry K) → (get_or es p d).slot ≡ slot)
    (new : List (Option T)) (y : T) (updates : Updates slots new slot (Some y)) (many : length (contents new) ≡ length (contents slots)) where
  entry : Entry K
  entry = record { sort_key = sort x; slot = slot }

  gone : Updates slots (set new slot None) slot None
  gone = record { changed = none_left new slot; others = λ other apart. get_or-set_other new slot other None None apart ∙ updates.others other apart }

  gone_here : Updates slots (set new slot None) (get_or es p entry).slot None
  gone_here = rw (at entry) gone

  fewer : live_count (set new slot None) + 1 ≡ live_count slots
  fewer = omega (arith, many, length_permutation _ _ (contents-take new slot y updates.changed), length-contents slots, length-contents (set new slot None))

  -- the entries of the other slots
  pub others_left : ListsOthers by sort cmp new slot (remove es p)
  others_left = IsListed-removed o sort slots es r (set new slot None) p entry lt gone_here fewer

  pub others_items : items_in (set new slot None) (remove es p) ≡ remove (items_in slots es) p
  others_items = items-removed o sort slots es r (set new slot None) p entry lt gone_here

filter-neither : {T : Type 0} (p : T → Bool) (xs : List T) → filter p (filter (λ z. not (p z)) xs) ≡ []
filter-neither p [] = refl
filter-neither {T} p (x ∷ xs) = by_test (p x) refl (filter-neither p xs)
  where
    by_test : (b : Bool) → p x ≡ b → filter p (filter (λ z. not (p z)) xs) ≡ [] → filter p (filter (λ z. not (p z)) (x ∷ xs)) ≡ []
    by_test true is more = rw is more
    by_test false is more = rw (is, is) more

-- beside `y` no item passes
left_apart : {T : Type 0} (p : T → Bool) (y : T) (a b : List T) → IsPermutation (y ∷ a) (y ∷ filter (λ z. not (p z)) b) → filter p a ≡ []
left_apart {T} p y a b same = by_test (p y) (length_permutation _ _ (IsPermutation-filter p _ _ same))
  where
    none : length (filter p (filter (λ z. not (p z)) b)) ≡ 0
    none = ap length (filter-neither p b)

    by_test : (c : Bool) → length (cond c (y ∷ filter p (filter (λ z. not (p z)) b)) (filter p (filter (λ z. not (p z)) b))) ≡ length (cond c (y ∷ filter p a) (filter p a)) → filter p a ≡ []
    by_test true count = nil_from_length (filter p a) (omega (arith, count, none))
    by_test false count = nil_from_length (filter p a) (omega (arith, count, none))

module _ {T : Type 0} (ranks : Ranks T) (laws : AreLawful ranks) where
  -- the others do not conflict with one of a sound bag
  pub free_taken : (slots : List (Option T)) (slot : ℕ) (x : T) → get slots slot ≡ Some x → IsSound ranks (contents slots) → conflicts_of ranks (contents (set slots slot None)) x ≡ []
  free_taken slots slot x there sound =
      none_pass (do_conflict ranks x) _ (IsDistinct-head (do_conflict ranks) x _ (IsSound-IsPermutation ranks laws _ _ (contents-take slots slot x there) sound))

  -- what does not conflict with an item does not conflict with one that has its keys
  pub free_again : (bag : List T) (x y : T) → agrees ranks x y ≡ true → conflicts_of ranks bag x ≡ [] → conflicts_of ranks bag y ≡ []
  free_again bag x y same none = filter-same (do_conflict ranks y) (do_conflict ranks x) (λ z. sym (same_conflicts ranks laws x y same z)) bag ∙ none

  -- the others do not conflict with one that was put in the place of another
  pub free_swapped : (old : List T) (new : List (Option T)) (slot : ℕ) (x y : T) → get new slot ≡ Some y → IsPermutation (contents new) (swap ranks old x y) → agrees ranks x y ≡ true
      → conflicts_of ranks (contents (set new slot None)) y ≡ []
  free_swapped old new slot x y there swaps same =
      let both = IsPermutation-trans _ _ _ (IsPermutation-sym _ _ (contents-take new slot y there)) swaps in
      free_again (contents (set new slot None)) x y same (left_apart (do_conflict ranks x) y (contents (set new slot None)) old both)

-- a map in which the item of a slot was written
module _ {T S : Type 0} (m new : Map T S) (slot : ℕ) (f : T → T) (x : T) (there : get m.slots slot ≡ Some x) (written : new ≡ map_with m slot f) where
  written_is : new.slots ≡ set m.slots slot (Some (f x))
  written_is = ap (λ (n : Map T S). n.slots) written ∙ ap (λ (q : Option T). set m.slots slot (of_item f q)) there

  pub written_updates : Updates m.slots new.slots slot (Some (f x))
  written_updates = rw written_is (put m.slots slot x (f x) there)

  pub written_live : IsLive new.slots slot
  written_live = rw written_updates.changed refl

  pub written_many : length (contents new.slots) ≡ length (contents m.slots)
  written_many = rw written_is (as_many m.slots slot x (f x) there)

  -- if it keeps its keys, the others do not conflict with it
  pub free_written : (ranks : Ranks T) → AreLawful ranks → IsSound ranks (contents m.slots) → agrees ranks x (f x) ≡ true → (z : T) → get new.slots slot ≡ Some z
      → conflicts_of ranks (contents (set new.slots slot None)) z ≡ []
  free_written ranks laws sound same z is =
      let one : f x ≡ z = cc (sym written_updates.changed ∙ is) in
      let bare : set new.slots slot None ≡ set m.slots slot None = ap (λ (q : List (Option T)). set q slot None) written_is ∙ set-twice m.slots slot (Some (f x)) None in
      rw (← one, bare) (free_again ranks laws (contents (set m.slots slot None)) x (f x) same (free_taken ranks laws m.slots slot x there sound))
