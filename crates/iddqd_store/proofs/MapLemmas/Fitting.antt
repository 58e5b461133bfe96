-- A map that gets the items of a list, which are certain to fit, and one from which they were removed again.
use Rattle.std.specs.List.{list_any}
use Rattle.std.specs.Prelude.{◌≡◌, ◌+◌, ◌<◌, ◌≤◌, ℕ, suc, Bool, List, [], ◌∷◌, ◌++◌, length, IsPermutation}
use Rattle.std.proofs.Common.{arith, length-append, le_of_eq, le_trans, subst, sym, ◌∙◌}
use Rattle.std.proofs.lemmas.List.Sorted.{IsPermutation-sym, length_permutation, list_any-IsPermutation}
use Rattle.iddqd_store.specs.Bag.{Ranks, AreLawful, IsSound, conflicts_of}
use Rattle.iddqd_store.specs.Bag.Building.{AddsTo}
use Rattle.iddqd_store.specs.Map.{Map, bag, Gains, GrowsUnless, Loses, Overwrites, most_extended, most_grown}
use Rattle.iddqd_store.specs.Slots.{contents}
use Rattle.iddqd_store.specs.Slots.Found.{StandAt, items_at}
use Rattle.iddqd_store.proofs.BagLemmas.Building.{AddsTo-IsPermutation, AddsTo-nil, AddsTo-push, AddsTo-sound, length-overwritten}
use Rattle.iddqd_store.proofs.BagLemmas.Cancelled.{IsPermutation-cancelled}
use Rattle.iddqd_store.proofs.BagLemmas.Sound.{IsSound-IsPermutation}
use Rattle.iddqd_store.proofs.MapLemmas.Growing.{fits_on, not_full, spare}
use Rattle.iddqd_store.proofs.SlotLemmas.Batch.{StandAt-nil}

-- A map became another one. Its capacity is no lower, and if `certain` holds, it is the same, and so many more items fit.
pub record HasRoomOn {T S : Type 0} (certain : Type 0) (left : ℕ) (old now : Map T S) : Type 0 where
  pub no_less_room : old.capacity ≤ now.capacity
  pub fits : certain → (length (bag now) + left ≤ now.capacity) × (now.capacity ≡ old.capacity)
  pub same_builder : now.builder ≡ old.builder

module _ {T S : Type 0} {certain : Type 0} {left : ℕ} {old now : Map T S} (so_far : HasRoomOn certain left old now) where
  pub GrowsUnless-so_far : GrowsUnless certain old now
  GrowsUnless-so_far = record { no_less_room = so_far.no_less_room; same_room = λ fit. (so_far.fits fit).1; same_builder = so_far.same_builder }

  module _ (next : ℕ) (nearer : next < left) where
    -- one of the items that are left comes: the map is not full
    pub full_not : certain → length (bag now) ≡ now.capacity → ⊥
    full_not fit full = not_full _ _ full (spare _ _ _ _ (so_far.fits fit).0 nearer)

    more : (new : Map T S) → length (bag new) ≤ suc (length (bag now)) → now.capacity ≤ new.capacity
        → (length (bag now) < now.capacity → new.capacity ≡ now.capacity) → new.builder ≡ now.builder → HasRoomOn certain next old new
    more new few no_less same builder = record {
      no_less_room = le_trans so_far.no_less_room no_less;
      fits = λ fit.
          let before = so_far.fits fit in
          let stays = same (spare _ _ _ _ before.0 nearer) in
          (fits_on _ _ _ _ before.0 nearer _ _ few stays, stays ∙ before.1);
      same_builder = builder ∙ so_far.same_builder;
    }

    pub HasRoomOn-gains : {wanted : ℕ} {x : T} {new : Map T S} → Gains wanted now x new → HasRoomOn certain next old new
    HasRoomOn-gains {new = new} gains = more new (le_of_eq (sym (length_permutation _ _ gains.items))) gains.no_less_room gains.same_room gains.same_builder

    pub HasRoomOn-overwrites : {ranks : Ranks T} {wanted : ℕ} {x : T} {new : Map T S} → Overwrites ranks wanted now x new → HasRoomOn certain next old new
    HasRoomOn-overwrites {ranks} {wanted} {x} {new} put = more new (length-overwritten ranks (bag now) (bag new) x put.items) put.no_less_room put.same_room put.same_builder

    -- it did not come in, and others left
    pub GrowsUnless-left : {mid new : Map T S} → GrowsUnless (length (bag now) < now.capacity) now mid → new.capacity ≡ mid.capacity → new.builder ≡ mid.builder → GrowsUnless certain old new
    GrowsUnless-left grows room builder = record {
      no_less_room = le_trans (le_trans so_far.no_less_room grows.no_less_room) (le_of_eq (sym room));
      same_room = λ fit. let before = so_far.fits fit in room ∙ grows.same_room (spare _ _ _ _ before.0 nearer) ∙ before.1;
      same_builder = builder ∙ grows.same_builder ∙ so_far.same_builder;
    }

-- The items of a list were added to a map, and their slots noted.
pub record InsertsBatch {T S : Type 0} (ranks : Ranks T) (certain : Type 0) (left : ℕ) (old now : Map T S) (notes : List ℕ) (xs : List T) : Type 0 where
  pub added : AddsTo ranks (bag old) (bag now) xs
  pub noted : StandAt now.slots notes xs
  pub room : HasRoomOn certain left old now
  pub most : now.capacity ≤ most_extended old.capacity (length (bag old) + length xs)

-- They were removed again. A key that an item had in between, one of the bag and of the list has.
pub record Undone {T : Type 0} (ranks : Ranks T) (old held new taken xs : List T) : Type 0 where
  pub all : taken ≡ xs
  pub apart : IsSound ranks (taken ++ old)
  pub same : IsPermutation new old
  pub sound : IsSound ranks new
  pub key : (test : T → Bool) → list_any test held ≡ list_any test (taken ++ old)

pub no_batch : {T S : Type 0} (ranks : Ranks T) {certain : Type 0} {left : ℕ} (m : Map T S) → HasRoomOn certain left m m → InsertsBatch ranks certain left m m [] []
no_batch ranks m room = record { added = AddsTo-nil ranks (bag m); noted = StandAt-nil m.slots; room = room; most = omega arith }

module _ {T S : Type 0} {ranks : Ranks T} {certain : Type 0} {left : ℕ} {old now : Map T S} {notes : List ℕ} {xs : List T} (batch : InsertsBatch ranks certain left old now notes xs) where
  pub all_are : length (bag now) ≡ length (bag old) + length xs
  all_are = omega (arith, length_permutation _ _ (AddsTo-IsPermutation ranks (bag old) (bag now) xs batch.added), length-append xs (bag old))

  -- the map may have grown for one more, whether it came in or not
  pub grown_for : (wanted : ℕ) (x : T) {capacity : ℕ} → capacity ≤ most_grown now.capacity (length (bag now)) wanted
      → capacity ≤ most_extended old.capacity (length (bag old) + length (xs ++ x ∷ []))
  grown_for wanted x grown = omega (arith, batch.most, grown, all_are, length-append xs (x ∷ []))

  pub one_more : {new : Map T S} {more : List ℕ} {wanted : ℕ} {x : T} (next : ℕ) → next < left → conflicts_of ranks (bag now) x ≡ [] → Gains wanted now x new
      → ((ys : List T) → StandAt now.slots notes ys → StandAt new.slots more (ys ++ x ∷ [])) → InsertsBatch ranks certain next old new more (xs ++ x ∷ [])
  one_more {new} {more} {wanted} {x} next nearer free gains note = record {
    added = AddsTo-push ranks (bag old) (bag now) (bag new) xs x batch.added free gains.items;
    noted = note xs batch.noted;
    room = HasRoomOn-gains batch.room next nearer gains;
    most = omega (arith, grown_for wanted x gains.most);
  }

  module _ (laws : AreLawful ranks) (sound : IsSound ranks (bag old)) where
    pub sound_then : IsSound ranks (bag now)
    sound_then = AddsTo-sound ranks (bag old) (bag now) xs batch.added laws sound

    pub undone : {seen : List ℕ} {taken : List T} {mid new : Map T S} → 0 < length ranks → mid.slots ≡ now.slots
        → seen ≡ notes → taken ≡ items_at mid.slots seen → Loses mid taken new → Undone ranks (bag old) (bag now) (bag new) taken xs
    undone {taken = taken} {new = new} some seen_at noted values loses =
        let all : taken ≡ xs = values ∙ rw (seen_at, noted) batch.noted.items in
        let out : IsPermutation (bag now) (taken ++ bag new) = subst (λ l. IsPermutation (contents l) (taken ++ bag new)) seen_at loses.items in
        let listed : IsPermutation (bag now) (taken ++ bag old) = subst (λ l. IsPermutation (bag now) (l ++ bag old)) (sym all) (AddsTo-IsPermutation ranks (bag old) (bag now) xs batch.added) in
        let apart = IsSound-IsPermutation ranks laws (bag now) (taken ++ bag old) listed sound_then in
        let same = IsPermutation-cancelled ranks some laws (bag now) taken (bag old) (bag new) apart listed out in
        record {
          all = all;
          apart = apart;
          same = same;
          sound = IsSound-IsPermutation ranks laws (bag old) (bag new) (IsPermutation-sym _ _ same) sound;
          key = λ test. list_any-IsPermutation test (bag now) (taken ++ bag old) listed;
        }
