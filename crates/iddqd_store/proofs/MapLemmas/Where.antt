-- A map with `f x` in the place of each item x that passes a test, and one in which the item that a search found was written.
use Rattle.std.specs.Prelude.{◌≡◌, ℕ, zero, suc, Bool, true, false, cond, if◌then◌else◌, List, [], ◌∷◌, map, filter, Option, Some, None, IsSome, IsPermutation, slice_set}
use Rattle.std.specs.Borrow.{MutBor}
use Rattle.std.specs.List.{AllByRecursion}
use Rattle.std.proofs.Common.{refl, sym, ap, subst, ◌∙◌}
use Rattle.std.proofs.lemmas.Bool.{false≢true}
use Rattle.iddqd_store.specs.Bag.{IsOnly, Ranks, swap}
use Rattle.iddqd_store.specs.Map.{Map, bag}
use Rattle.iddqd_store.specs.Map.Written.{map_where, map_with, of_item, slots_where, MapsWhere, StaysWhere, SwapsWhere}
use Rattle.iddqd_store.specs.Slots.{contents, get}
use Rattle.iddqd_store.specs.Slots.Found.{FoundAt}
use Rattle.iddqd_store.proofs.BagLemmas.Sound.{each_passes}
use Rattle.iddqd_store.proofs.MapLemmas.Mapped.{fails_at, maps_absent, maps_found, same_with}
use Rattle.iddqd_store.proofs.MapLemmas.Updating.{found_one}

module _ {T : Type 0} (test : T → Bool) (f : T → T) where
  abbrev where_it_passes : T → T
  where_it_passes x = if test x then f x else x

  at_it : (x : T) → test x ≡ true → f x ≡ where_it_passes x
  at_it x passes = ap (λ b. if b then f x else x) (sym passes)

  -- where no item passes, no slot changes
  none_where : (slots : List (Option T)) → filter test (contents slots) ≡ [] → slots ≡ map (of_item where_it_passes) slots
  none_where [] none = refl
  none_where (None ∷ slots) none = ap (λ l. None ∷ l) (none_where slots none)
  none_where (Some z ∷ slots) none = by (test z) (none_where slots) none
    where
      by : (b : Bool) → (filter test (contents slots) ≡ [] → slots ≡ map (of_item where_it_passes) slots)
          → cond b (z ∷ filter test (contents slots)) (filter test (contents slots)) ≡ []
          → Some z ∷ slots ≡ Some (if b then f z else z) ∷ map (of_item where_it_passes) slots
      by true rest h = absurd (cc h)
      by false rest h = ap (λ l. Some z ∷ l) (rest h)

  -- where the item of this slot is the only one that passes, no other slot changes
  set_where : (slots : List (Option T)) (at : ℕ) (x : T) → get slots at ≡ Some x → test x ≡ true → IsOnly test (contents slots) (Some x)
      → slice_set slots at (Some (f x)) ≡ map (of_item where_it_passes) slots
  set_where [] zero x is passes only = absurd (cc is)
  set_where [] (suc at) x is passes only = absurd (cc is)
  set_where (None ∷ slots) zero x is passes only = absurd (cc is)
  set_where (Some z ∷ slots) zero x is passes only =
      let same : z ≡ x = cc is in
      let there : x ∷ [] ≡ z ∷ filter test (contents slots) = rw (ap test same ∙ passes) at only in
      let none : filter test (contents slots) ≡ [] = cc there in
      ap (λ w. Some w ∷ slots) (at_it x passes ∙ ap where_it_passes (sym same)) ∙ ap (λ l. Some (where_it_passes z) ∷ l) (none_where slots none)
  set_where (None ∷ slots) (suc at) x is passes only = ap (λ l. None ∷ l) (set_where slots at x is passes only)
  set_where (Some z ∷ slots) (suc at) x is passes only = by (test z) (λ o. set_where slots at x is passes o) only
    where
      by : (b : Bool) → (IsOnly test (contents slots) (Some x) → slice_set slots at (Some (f x)) ≡ map (of_item where_it_passes) slots)
          → x ∷ [] ≡ cond b (z ∷ filter test (contents slots)) (filter test (contents slots))
          → Some z ∷ slice_set slots at (Some (f x)) ≡ Some (if b then f z else z) ∷ map (of_item where_it_passes) slots
      by true rest h = let none : filter test (contents slots) ≡ [] = cc h in absurd (false≢true (sym (fails_at test slots at x is none) ∙ passes))
      by false rest h = ap (λ l. Some z ∷ l) (rest h)

module _ {T S : Type 0} (test : T → Bool) (m : Map T S) where
  -- if none was found, nothing changes
  absent_where : (f : T → T) → FoundAt test m.slots None → map_where test f m ≡ m
  unfolding slots_where
  absent_where f found = ap (λ l. record m { slots = l }) (sym (none_where test f m.slots (sym found.only)))

  module _ (slot : ℕ) (found : FoundAt test m.slots (Some slot)) where
    -- the slot that was found has an item
    item_of : (o : Option T) → get m.slots slot ≡ o → IsSome o → (x : T) × (get m.slots slot ≡ Some x)
    item_of None there live = absurd (cc live)
    item_of (Some x) there live = (x, there)

    the_item : (x : T) × (get m.slots slot ≡ Some x) × IsOnly test (bag m) (Some x)
    the_item = let it = item_of (get m.slots slot) refl found.live in (it.0, it.1, found_one test m.slots slot it.0 found it.1)

    -- it is the only item that passes the test
    found_there : (x : T) → IsOnly test (bag m) (Some x) → get m.slots slot ≡ Some x
    found_there x only = let same : the_item.0 ∷ [] ≡ x ∷ [] = the_item.2 ∙ sym only in the_item.1 ∙ cc same

    -- only the item that was found changes
    pub found_where : (f : T → T) → map_with m slot f ≡ map_where test f m
    unfolding slots_where
    found_where f =
        let passes : test the_item.0 ≡ true = (subst (AllByRecursion (λ y. test y ≡ true)) (sym the_item.2) (each_passes test (bag m))).0 in
        ap (λ o. record m { slots = slice_set m.slots slot (of_item f o) }) the_item.1
        ∙ ap (λ l. record m { slots = l }) (set_where test f m.slots slot the_item.0 the_item.1 passes the_item.2)

    -- what is lent of the slot is the data of the only item that passes the test
    pub data_found : {D : Type 0} (part : T → D) (d : D) → ((x : T) → get m.slots slot ≡ Some x → d ≡ part x) → (x : T) × IsOnly test (bag m) (Some x) × (d ≡ part x)
    data_found part d value = (the_item.0, the_item.2, value the_item.0 the_item.1)

module _ {T D S : Type 0} (put : T → D → T) (test : T → Bool) (m : Map T S) where
  -- the data that are lent are those of the item that was found
  pub maps_where : (part : T → D) (lent : MutBor D) (slot : ℕ) → FoundAt test m.slots (Some slot) → ((x : T) → get m.slots slot ≡ Some x → lent.now ≡ part x)
      → MapsWhere put test m part (Some lent)
  maps_where part lent slot found value = λ d write one stays.
      let it = the_item test m slot found in
      subst (λ (n : Map T S). IsPermutation (bag n) (map write (bag m))) (found_where test m slot found (λ y. put y d))
      (maps_found (λ x e. (e ≡ d) × (lent.now ≡ part x)) put test m slot found it.0 d it.1 (refl, value it.0 it.1) write
      (λ x e passes is. one x passes is.1 ∙ ap (put x) (sym is.0)) stays)

  pub swaps_where : (ranks : Ranks T) (slot : ℕ) → FoundAt test m.slots (Some slot)
      → ((x : T) (d : D) → get m.slots slot ≡ Some x → IsPermutation (bag (map_with m slot (λ y. put y d))) (swap ranks (bag m) x (put x d))) → SwapsWhere put test m ranks
  swaps_where ranks slot found swaps = λ x d only.
      subst (λ (n : Map T S). IsPermutation (bag n) (swap ranks (bag m) x (put x d))) (found_where test m slot found (λ y. put y d))
      (swaps x d (found_there test m slot found x only))

  pub stays_where : (slot : ℕ) → FoundAt test m.slots (Some slot) → StaysWhere put test m
  stays_where slot found = λ d same.
      let it = the_item test m slot found in
      sym (found_where test m slot found (λ y. put y d)) ∙ same_with m slot (λ y. put y d) it.0 it.1 (same it.0 it.2)

  -- if none was found, nothing changes
  pub maps_nowhere : (part : T → D) → FoundAt test m.slots None → MapsWhere put test m part None
  maps_nowhere part found = λ write stays. maps_absent (λ x e. ⊥) put test m found write (λ x e passes no. absurd no) stays

  pub stays_nowhere : FoundAt test m.slots None → StaysWhere put test m
  stays_nowhere found = λ d same. absent_where test m (λ y. put y d) found
