-- Written by hand; tests/one_key.patch says why.

-- What one search found, and what an entry finds after a write.
use Rattle.std.specs.Prelude.{◌≡◌, ◌≢◌, ◌&&◌, ℕ, Bool, true, false, cond, filter, List, [], ◌∷◌, length, Option, Some, None, IsSome, is_some, IsPermutation}
use Rattle.std.specs.Borrow.{Bor}
use Rattle.std.specs.Cmp.{IsEquivalence}
use Rattle.std.specs.List.{AllByRecursion}
use Rattle.std.specs.Option.{option_and_then, option_copied, option_to_list}
use Rattle.std.proofs.Common.{refl, sym, ap, subst, ◌∙◌, arith}
use Rattle.std.proofs.lemmas.List.Sorted.{IsPermutation-sym}
use Rattle.iddqd_store.specs.Bag.{IsOnly, IsSound, Ranks, agrees, conflicts_of, every_of, conflicting, swap}
use Rattle.iddqd_store.specs.Map.{bag}
use Rattle.iddqd_store.specs.Slots.{contents, get}
use Rattle.iddqd_store.specs.Slots.Found.{FoundAt, each_once, items_at}
use Rattle.iddqd_store.proofs.BagLemmas.Sound.{IsSound-IsPermutation, each_passes}
use Rattle.iddqd_store.proofs.BagLemmas.Steps.{conflicts_of-empty, conflicting-empty}
use Rattle.iddqd_store.proofs.BagLemmas.Theory.{IsSound-swap}
use Rattle.iddqd_store.proofs.MapLemmas.Written.{item_written}
use Rattle.iddqd_store.proofs.SlotLemmas.Found.{items_at-push}
use Rattle.iddqd_store.proofs.SlotLemmas.Here.{finds_here}
use Rattle.iddqd_id.specs.Entries.{HasFound, entry_with, found_item}
use Rattle.iddqd_id.specs.Keys.{has, key_tests, ranks}
use Rattle.iddqd_id.specs.declared.item.IdHashItem as item
use Rattle.iddqd_id.specs.declared.entry.OccupiedEntry.{OccupiedEntry}
use Rattle.iddqd_id.proofs.MapLemmas.{AreKeyTests-queries, AreLawful-ranks}

-- the items that pass a test are those that pass it and no other
passes_alone : {T : Type 0} (test : T → Bool) (xs : List T) → filter test xs ≡ filter (every_of (test ∷ [])) xs
passes_alone test [] = refl
passes_alone {T} test (x ∷ xs) = by (test x) (passes_alone test xs)
  where
    by : (b : Bool) → filter test xs ≡ filter (every_of (test ∷ [])) xs
        → cond b (x ∷ filter test xs) (filter test xs) ≡ cond (b && true) (x ∷ filter (every_of (test ∷ [])) xs) (filter (every_of (test ∷ [])) xs)
    by true less = ap (λ (ys : List T). x ∷ ys) less
    by false less = less

-- a search by the only key finds the item that has all keys
pub found_by_only : {T : Type 0} (test : T → Bool) (slots : List (Option T)) (slot : Option ℕ) → FoundAt test slots slot → FoundAt (every_of (test ∷ [])) slots slot
found_by_only test slots slot found = record { only = found.only ∙ passes_alone test (contents slots); live = found.live }

-- one search finds one slot, or none
pub one_slot : {s : Option ℕ} {slot : ℕ} → s ≡ Some slot → each_once (s ∷ []) ≡ slot ∷ []
one_slot is = ap (λ (s : Option ℕ). each_once (s ∷ [])) is

pub no_slot : {s : Option ℕ} → s ≡ None → length (each_once (s ∷ [])) ≡ 0
no_slot is = ap (λ (s : Option ℕ). length (each_once (s ∷ []))) is

module _ {T : Type 0} where
  -- the item of the slot that a search found is all that it lists
  pub one_item : (slots : List (Option T)) (s : Option ℕ) → option_to_list (option_and_then (get slots) s) ≡ items_at slots (each_once (s ∷ []))
  one_item slots None = refl
  one_item slots (Some slot) = sym (items_at-push slots [] slot)

  -- something conflicts exactly if an item is listed
  pub clash_found : (ranks : Ranks T) (bag : List T) (x : T) (r : Option (Bor T)) → option_to_list (option_copied r) ≡ conflicting ranks bag x → is_some r ≡ true → conflicts_of ranks bag x ≢ []
  clash_found ranks bag x None is some = absurd (cc some)
  clash_found ranks bag x (Some r) is some = λ none. absurd (cc (is, conflicting-empty ranks bag x none))

  pub clash_not_found : (ranks : Ranks T) (bag : List T) (x : T) (r : Option (Bor T)) → option_to_list (option_copied r) ≡ conflicting ranks bag x → is_some r ≡ false → conflicts_of ranks bag x ≡ []
  clash_not_found ranks bag x None is none = conflicts_of-empty ranks bag x (sym is)
  clash_not_found ranks bag x (Some r) is none = absurd (cc none)

  -- the only item that passes a test passes it
  pub only_passes : (test : T → Bool) (bag : List T) (x : T) → IsOnly test bag (Some x) → test x ≡ true
  only_passes test bag x only = (subst (λ l. AllByRecursion (λ y. test y ≡ true) l) (sym only) (each_passes test bag)).0

module _ {T S Q Key H : Type 0} (of : item.Ghosts T Key) (eq : Key → Key → Bool) (laws : IsEquivalence eq)
    (stands : Q → Key → Bool) (respects : (q : Q) (x y : Key) → stands q x ≡ true → stands q y ≡ eq x y) (o : OccupiedEntry T S Q Key H) where
  -- an entry still finds its item after a write that keeps the item's key
  pub written_at : (f : T → T) (x : T) → found_item o ≡ Some x → eq (of.key x) (of.key (f x)) ≡ true → HasFound of stands o → IsSound (ranks of eq) (bag o.map.now)
      → IsPermutation (bag (entry_with o f).map.now) (swap (ranks of eq) (bag o.map.now) x (f x)) → HasFound of stands (entry_with o f)
  written_at f x there same found sound swaps =
      let lawful = AreLawful-ranks of laws in
      let agree : agrees (ranks of eq) x (f x) ≡ true = rw same refl in
      let after : IsSound (ranks of eq) (bag (entry_with o f).map.now) =
      IsSound-IsPermutation (ranks of eq) lawful _ _ (IsPermutation-sym _ _ swaps) (IsSound-swap (ranks of eq) lawful (bag o.map.now) x (f x) agree sound) in
      let only : IsOnly (has of stands o.query) (bag o.map.now) (Some x) = ap option_to_list (sym there) ∙ found.only in
      let passed : stands o.query (of.key x) ≡ true = only_passes (has of stands o.query) (bag o.map.now) x only in
      let passes : stands o.query (of.key (f x)) ≡ true = respects o.query (of.key x) (of.key (f x)) passed ∙ same in
      let here = finds_here (ranks of eq) (key_tests of stands o.query) (omega arith) (AreKeyTests-queries of eq stands respects o.query)
      (entry_with o f).map.now.slots o.slot (f x) (passes, tt) after (item_written o.map.now o.slot f x there) in
      record { only = here.found.0.only; live = here.found.0.live }

  pub finds_written : (f : T → T) → ((x : T) → eq (of.key x) (of.key (f x)) ≡ true) → HasFound of stands o
      → IsSound (ranks of eq) (bag o.map.now)
      → ((x : T) → found_item o ≡ Some x → IsPermutation (bag (entry_with o f).map.now) (swap (ranks of eq) (bag o.map.now) x (f x))) → HasFound of stands (entry_with o f)
  finds_written f same found sound swaps = by_slot (found_item o) refl found.live
    where
      by_slot : (i : Option T) → found_item o ≡ i → IsSome i → HasFound of stands (entry_with o f)
      by_slot None there some = absurd (cc)
      by_slot (Some x) there some = written_at f x there (same x) found sound (swaps x there)
