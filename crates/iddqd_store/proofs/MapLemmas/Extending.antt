-- What an iterator over a `Vec` by value gives, and how a bag is extended by a list.
use Rattle.std.proofs.Common.{◌≡◌, ◌+◌, ◌≤◌, ◌<◌, ℕ, sym, ap, subst, ◌∙◌, arith, List, [], ◌∷◌, ◌++◌, length, Option, Some, length-append}
use Rattle.std.specs.Prelude.{IsPermutation}
use Rattle.std.specs.Iterator.{Yields, YieldsThen}
use Rattle.std.proofs.lemmas.List.{take_all, take-append-le}
use Rattle.std.proofs.lemmas.List.Sorted.{length_permutation}
use Rattle.iddqd_store.specs.Bag.{Ranks, with_item, with_items}
use Rattle.iddqd_store.specs.Map.{most_grown}
use Rattle.iddqd_store.specs.Map.State.{State, FitsOnTheWay, ExtendsTo}
use Rattle.iddqd_store.proofs.Plain.{by_order}
use Rattle.iddqd_store.proofs.BagLemmas.Sound.{length-with_item}
use Rattle.iddqd_store.proofs.BagLemmas.Steps.{with_items-step}

module _ {S T : Type 0} (steps : S → Option T → S → Type 0) (left : S → List T) (first : (s t : S) (x : T) → steps s (Some x) t → left s ≡ x ∷ left t) where
  -- the items that came and those that are left are those that were left before
  pub yielded : (xs : List T) (s t : S) → Yields steps s xs t → left s ≡ xs ++ left t
  yielded [] s t same = ap left same
  yielded (x ∷ xs) s t run = first s run.0 x run.1 ∙ ap (λ ys. x ∷ ys) (yielded xs run.0 t run.2)

  -- all came, and then the next
  pub yielded_then : (xs : List T) (s u : S) (x : T) → YieldsThen steps s xs (Some x) u → left s ≡ xs ++ x ∷ left u
  yielded_then xs s u x run = yielded xs s run.0 run.1 ∙ ap (λ ys. xs ++ ys) (first run.0 u x run.2)

module _ {T : Type 0} (ranks : Ranks T) where
  -- each item of a list makes one more at most
  length-with_items : (bag xs : List T) → length (with_items ranks bag xs) ≤ length bag + length xs
  length-with_items bag [] = omega arith
  length-with_items bag (x ∷ xs) = omega (arith, length-with_items (with_item ranks bag x) xs, length-with_item ranks bag x)

  -- one more item came
  pub ExtendsTo-push : (old held new : State T) (xs : List T) (x : T) (wanted : ℕ) → ExtendsTo ranks old xs held
      → IsPermutation new.items (with_item ranks held.items x) → length new.items ≤ new.capacity → held.capacity ≤ new.capacity
      → new.capacity ≤ most_grown held.capacity (length held.items) wanted → ExtendsTo ranks old (xs ++ x ∷ []) new
  ExtendsTo-push old held new xs x wanted so_far put fits no_less grown = record {
    items = items;
    fits_on_the_way = way;
    no_less_room = omega (arith, so_far.no_less_room, no_less);
    most = omega (arith, so_far.most, one_more, few, grown);
  }
    where
      one_more : length (xs ++ x ∷ []) ≡ length xs + 1
      one_more = length-append xs (x ∷ [])

      few : length held.items ≤ length old.items + length xs
      few = omega (arith, length_permutation _ _ so_far.items, length-with_items old.items xs)

      items : IsPermutation new.items (with_items ranks old.items (xs ++ x ∷ []))
      items = with_items-step ranks old.items xs held.items new.items x so_far.items put

      way : FitsOnTheWay ranks old.items (xs ++ x ∷ []) new.capacity
      way n =
          let at : List T → Type 0 = λ l. length (with_items ranks old.items l) ≤ new.capacity in
          by_order (length xs) n
          (λ (past : length xs < n).
          subst at (sym (take_all n (xs ++ x ∷ []) (omega (arith, length-append xs (x ∷ []))))) (omega (arith, length_permutation _ _ items)))
          (λ (within : n ≤ length xs). subst at (sym (take-append-le n xs (x ∷ []) within)) (omega (arith, so_far.fits_on_the_way n)))
