-- A map that gets the items of an iterator, one after another.
use Rattle.std.proofs.Common.{◌≡◌, ℕ, suc, ◌+◌, ◌<◌, ◌≤◌, Bool, true, false, not, cond, List, [], ◌∷◌, ◌++◌, length, sym, ap, ◌∙◌, arith, length-append}
use Rattle.std.specs.Prelude.{◌*◌, filter, fold, max}
use Rattle.std.specs.Ordering.{is_gt, is_lt}
use Rattle.std.specs.declared.cmp.Ordering.{Ordering}
use Rattle.std.specs.declared.cmp.Ordering.TheVariants.{Less, Equal, Greater}
use Rattle.std.proofs.lemmas.List.Sums.{fold_push}
use Rattle.iddqd_store.specs.Bag.{Ranks, do_conflict}
use Rattle.iddqd_store.proofs.Plain.{by_order}
use Rattle.iddqd_sorted.specs.Items.{GrowsUnless, SortedValue, items, most_extended, most_grown}
use Rattle.iddqd_sorted.specs.Overwriting.{Overwrites, overwritten}

module _ {T : Type 0} where
  fewer_pass : (p : T → Bool) (xs : List T) → length (filter p xs) ≤ length xs
  fewer_pass p [] = omega arith
  fewer_pass p (x ∷ xs) = by_test (p x) (fewer_pass p xs)
    where
      by_test : (b : Bool) → length (filter p xs) ≤ length xs → length (cond b (x ∷ filter p xs) (filter p xs)) ≤ length (x ∷ xs)
      by_test true more = omega (arith, more)
      by_test false more = omega (arith, more)

  lower_and_higher : (by : T → Ordering) (xs : List T) → length (filter (λ y. is_lt (by y)) xs) + length (filter (λ y. is_gt (by y)) xs) ≤ length xs
  lower_and_higher by [] = omega arith
  lower_and_higher by (x ∷ xs) = by_order (by x) (lower_and_higher by xs)
    where
      by_order : (c : Ordering) → length (filter (λ y. is_lt (by y)) xs) + length (filter (λ y. is_gt (by y)) xs) ≤ length xs
          → length (cond (is_lt c) (x ∷ filter (λ y. is_lt (by y)) xs) (filter (λ y. is_lt (by y)) xs))
          + length (cond (is_gt c) (x ∷ filter (λ y. is_gt (by y)) xs) (filter (λ y. is_gt (by y)) xs)) ≤ length (x ∷ xs)
      by_order Less more = omega (arith, more)
      by_order Equal more = omega (arith, more)
      by_order Greater more = omega (arith, more)

  -- at most one item more
  length-overwritten : (ranks : Ranks T) (by : T → T → Ordering) (xs : List T) (x : T) → length (overwritten ranks by xs x) ≤ suc (length xs)
  length-overwritten ranks by xs x =
      let kept : List T = filter (λ y. not (do_conflict ranks x y)) xs in
      omega (arith, length-append (filter (λ y. is_lt (by y x)) kept) (x ∷ filter (λ y. is_gt (by y x)) kept), lower_and_higher (λ y. by y x) kept, fewer_pass (λ y. not (do_conflict ranks x y)) xs)

  -- one more item came
  pub overwritten-push : (ranks : Ranks T) (by : T → T → Ordering) (old held new xs : List T) (x : T) → held ≡ fold (overwritten ranks by) old xs
      → new ≡ overwritten ranks by held x → new ≡ fold (overwritten ranks by) old (xs ++ x ∷ [])
  overwritten-push ranks by old held new xs x so_far put = put ∙ ap (λ q. overwritten ranks by q x) so_far ∙ sym (fold_push (overwritten ranks by) old xs x)

-- A map became another one. Its capacity is no lower, and if `certain` holds, it is the same, and so many more items fit.
pub record HasRoomOn {T K S : Type 0} (certain : Type 0) (left : ℕ) (old now : SortedValue T K S) : Type 0 where
  pub no_less_room : old.capacity ≤ now.capacity
  pub fits : certain → (length (items now) + left ≤ now.capacity) × (now.capacity ≡ old.capacity)
  pub same_builder : now.builder ≡ old.builder

module _ {T K S : Type 0} {certain : Type 0} {left : ℕ} {old now : SortedValue T K S} (so_far : HasRoomOn certain left old now) where
  pub GrowsUnless-so_far : GrowsUnless certain old now
  GrowsUnless-so_far = record { no_less_room = so_far.no_less_room; same_room = λ fit. (so_far.fits fit).1; same_builder = so_far.same_builder }

  module _ (next : ℕ) (nearer : next < left) where
    -- one of the items that are left comes: the map is not full
    pub full_not : certain → length (items now) ≡ now.capacity → ⊥
    full_not fit full = let fits = (so_far.fits fit).0 in absurd (omega (arith, fits, full, nearer))

    pub HasRoomOn-overwrites : {ranks : Ranks T} {by : T → T → Ordering} {wanted : ℕ} {x : T} {new : SortedValue T K S} → Overwrites ranks by wanted now x new → HasRoomOn certain next old new
    HasRoomOn-overwrites {ranks} {by} {x} {new} put = record {
      no_less_room = omega (arith, so_far.no_less_room, put.no_less_room);
      fits = λ fit.
          let before = so_far.fits fit in
          let stays : new.capacity ≡ now.capacity = put.same_room (let fits = before.0 in omega (arith, fits, nearer)) in
          let few : length (items new) ≤ suc (length (items now)) = rw put.lists (length-overwritten ranks by (items now) x) in
          (let fits = before.0 in omega (arith, fits, few, stays, nearer), stays ∙ before.1);
      same_builder = put.same_builder ∙ so_far.same_builder;
    }

-- A map became another one when these items came. It has no more items than that, and its capacity is within the bound for them.
pub record IsWithin {T K S : Type 0} (old now : SortedValue T K S) (xs : List T) : Type 0 where
  pub few : length (items now) ≤ length (items old) + length xs
  pub most : now.capacity ≤ most_extended old.capacity (length (items old) + length xs)

module _ {T K S : Type 0} {old now : SortedValue T K S} where
  -- the map grew once for what was promised
  pub IsWithin-start : (more : ℕ) → length (items now) ≡ length (items old) → now.capacity ≤ max (length (items old) + more) (max (2 * old.capacity) 4)
      → more ≤ max (8 * length (items old)) 65536 → IsWithin old now []
  IsWithin-start more same grown asked = record { few = omega (arith, same); most = omega (arith, grown, asked) }

  -- one more came, for which a full map grew
  pub IsWithin-step : {xs : List T} (x : T) {new : SortedValue T K S} (wanted : ℕ) → IsWithin old now xs → length (items new) ≤ suc (length (items now))
      → (length (items now) < now.capacity → new.capacity ≡ now.capacity) → new.capacity ≤ most_grown now.capacity (length (items now)) wanted
      → IsWithin old new (xs ++ x ∷ [])
  IsWithin-step {xs} x {new} wanted so_far few same grown = record { few = omega (arith, so_far.few, few, more); most = by_order (length (items now)) now.capacity spare full }
    where
      more : length (xs ++ x ∷ []) ≡ length xs + 1
      more = length-append xs (x ∷ [])

      spare : length (items now) < now.capacity → new.capacity ≤ most_extended old.capacity (length (items old) + length (xs ++ x ∷ []))
      spare room = omega (arith, so_far.most, same room, more)

      full : now.capacity ≤ length (items now) → new.capacity ≤ most_extended old.capacity (length (items old) + length (xs ++ x ∷ []))
      full none = omega (arith, so_far.few, grown, none, more)

  pub IsWithin-overwrites : {ranks : Ranks T} {by : T → T → Ordering} {wanted : ℕ} {xs : List T} {x : T} {new : SortedValue T K S} → IsWithin old now xs
      → Overwrites ranks by wanted now x new → IsWithin old new (xs ++ x ∷ [])
  IsWithin-overwrites {ranks} {by} {wanted} {xs} {x} {new} so_far put = IsWithin-step x wanted so_far few put.same_room put.most
    where
      few : length (items new) ≤ suc (length (items now))
      few = rw put.lists (length-overwritten ranks by (items now) x)
