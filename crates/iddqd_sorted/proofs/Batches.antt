-- Items that are inserted one after another, and removed again by their slots.
use Rattle.std.proofs.Common.{◌≡◌, ℕ, Bool, true, ◌+◌, ◌<◌, ◌≤◌, List, [], ◌∷◌, ◌++◌, length, refl, sym, ap, ◌∙◌, subst, arith}
use Rattle.std.specs.Prelude.{IsPermutation}
use Rattle.std.specs.Cmp.{IsTotalOrder}
use Rattle.std.specs.declared.cmp.Ordering.{Ordering}
use Rattle.std.proofs.lemmas.Bool.{false≢true}
use Rattle.std.proofs.lemmas.List.Sums.{fold_push}
use Rattle.std.proofs.lemmas.List.Sorted.{length_permutation}
use Rattle.iddqd_store.specs.Bag.{Ranks, AreLawful, IsSound, conflicts_of, do_conflict}
use Rattle.iddqd_store.specs.SlotMap.{AreAny}
use Rattle.iddqd_store.specs.Slots.Found.{StandAt, items_at}
use Rattle.iddqd_store.proofs.BagLemmas.Building.{AddsTo-IsPermutation, AddsTo-nil, AddsTo-push}
use Rattle.iddqd_store.proofs.BagLemmas.Cancelled.{IsPermutation-cancelled}
use Rattle.iddqd_store.proofs.BagLemmas.Sound.{IsSound-IsPermutation}
use Rattle.iddqd_store.proofs.SlotLemmas.Batch.{StandAt-nil}
use Rattle.iddqd_sorted.specs.Batches.{AddsInOrder}
use Rattle.iddqd_sorted.specs.Items.{GrowsUnless, SortedValue, items, with_item}
use Rattle.iddqd_sorted.specs.Ordered.{IsAscending}
use Rattle.iddqd_sorted.proofs.Flags.{AreAny-permutation}
use Rattle.iddqd_sorted.proofs.Unique.{ascending-unique}

-- A map became another one. Its capacity is no lower, and if `certain` holds, it is the same, and so many more items fit.
pub record HasRoomOn {T K S : Type 0} (certain : Type 0) (more : ℕ) (old now : SortedValue T K S) : Type 0 where
  pub no_less_room : old.capacity ≤ now.capacity
  pub fits : certain → (length (items now) + more ≤ now.capacity) × (now.capacity ≡ old.capacity)
  pub same_builder : now.builder ≡ old.builder

-- The items of a list were added to a map, and their slots noted.
pub record InsertsBatch {T K S : Type 0} (ranks : Ranks T) (by : T → T → Ordering) (certain : Type 0) (more : ℕ) (old now : SortedValue T K S) (notes : List ℕ) (xs : List T) : Type 0 where
  pub added : AddsInOrder ranks by (items old) (items now) xs
  pub noted : StandAt now.slots notes xs
  pub room : HasRoomOn certain more old now

-- They were removed again.
pub record Undone {T : Type 0} (ranks : Ranks T) (old new taken xs : List T) (tests : List (T → Bool)) (flags : List Bool) : Type 0 where
  pub all : taken ≡ xs
  pub same : new ≡ old
  pub apart : IsSound ranks (taken ++ old)
  pub found : AreAny flags tests (taken ++ old)

-- an item that conflicts does so at some rank
pub some_rank : {T : Type 0} (ranks : Ranks T) (x : T) → do_conflict ranks x x ≡ true → 0 < length ranks
some_rank [] x conflict = absurd (false≢true conflict)
some_rank (agree ∷ ranks) x conflict = omega arith

pub no_batch : {T K S : Type 0} (ranks : Ranks T) (by : T → T → Ordering) {certain : Type 0} {more : ℕ} (m : SortedValue T K S) → HasRoomOn certain more m m → InsertsBatch ranks by certain more m m [] []
no_batch ranks by m room = record { added = record { lists = refl; all = AddsTo-nil ranks (items m) }; noted = StandAt-nil m.slots; room = room }

module _ {T K S : Type 0} {certain : Type 0} {more : ℕ} {old now : SortedValue T K S} (so_far : HasRoomOn certain more old now) where
  pub grows_so_far : GrowsUnless certain old now
  grows_so_far = record { no_less_room = so_far.no_less_room; same_room = λ fit. (so_far.fits fit).1; same_builder = so_far.same_builder }

  -- one of the items that are left did not come in, and others left
  pub grows_left : (next : ℕ) → next < more → {mid new : SortedValue T K S} → GrowsUnless (length (items now) < now.capacity) now mid → new.capacity ≡ mid.capacity → new.builder ≡ mid.builder → GrowsUnless certain old new
  grows_left next nearer grows room builder = record {
    no_less_room = omega (arith, so_far.no_less_room, grows.no_less_room, room);
    same_room = λ fit. let before = so_far.fits fit in room ∙ grows.same_room (omega (arith, before.0, nearer)) ∙ before.1;
    same_builder = builder ∙ grows.same_builder ∙ so_far.same_builder;
  }

  -- one of them came in
  room_then : (next : ℕ) → next < more → {new : SortedValue T K S} {x : T} → IsPermutation (items new) (x ∷ items now) → GrowsUnless (length (items now) < now.capacity) now new → HasRoomOn certain next old new
  room_then next nearer gained grows = record {
    no_less_room = omega (arith, so_far.no_less_room, grows.no_less_room);
    fits = λ fit.
        let before = so_far.fits fit in
        let stays = grows.same_room (omega (arith, before.0, nearer)) in
        (omega (arith, length_permutation _ _ gained, before.0, nearer, stays), stays ∙ before.1);
    same_builder = grows.same_builder ∙ so_far.same_builder;
  }

module _ {T K S : Type 0} {ranks : Ranks T} {by : T → T → Ordering} {certain : Type 0} {more : ℕ} {old now : SortedValue T K S} {notes : List ℕ} {xs : List T} (batch : InsertsBatch ranks by certain more old now notes xs) where
  pub one_more : {new : SortedValue T K S} {seen : List ℕ} {x : T} (next : ℕ) → next < more → items new ≡ with_item by (items now) x → IsPermutation (items new) (x ∷ items now)
      → conflicts_of ranks (items now) x ≡ [] → ((ys : List T) → StandAt now.slots notes ys → StandAt new.slots seen (ys ++ x ∷ []))
      → GrowsUnless (length (items now) < now.capacity) now new → InsertsBatch ranks by certain next old new seen (xs ++ x ∷ [])
  one_more {new} {seen} {x} next nearer lists gained free note grows = record {
    added = record {
      lists = lists ∙ ap (λ (q : List T). with_item by q x) batch.added.lists ∙ sym (fold_push (with_item by) (items old) xs x);
      all = AddsTo-push ranks (items old) (items now) (items new) xs x batch.added.all free gained;
    };
    noted = note xs batch.noted;
    room = room_then batch.room next nearer gained grows;
  }

  pub undone : (o : IsTotalOrder by) → AreLawful ranks → (mid new : SortedValue T K S) → {seen : List ℕ} {taken : List T} {tests : List (T → Bool)} {flags : List Bool} → 0 < length ranks
      → IsSound ranks (items now) → IsAscending by (items old) → IsAscending by (items new) → mid.slots ≡ now.slots → mid.blocks ≡ now.blocks → seen ≡ notes → taken ≡ items_at mid.slots seen
      → IsPermutation (items mid) (taken ++ items new) → AreAny flags tests (items now) → Undone ranks (items old) (items new) taken xs tests flags
  undone o laws mid new {taken = taken} {tests = tests} {flags = flags} some sound up_old up_new slots blocks seen values gone found =
      let all : taken ≡ xs = values ∙ rw (slots, seen) batch.noted.items in
      let out : IsPermutation (items now) (taken ++ items new) = rw (slots, blocks) at gone in
      let listed : IsPermutation (items now) (taken ++ items old) = subst (λ (l : List T). IsPermutation (items now) (l ++ items old)) (sym all) (AddsTo-IsPermutation ranks (items old) (items now) xs batch.added.all) in
      let apart = IsSound-IsPermutation ranks laws (items now) (taken ++ items old) listed sound in
      record {
        all = all;
        same = ascending-unique o (items new) (items old) up_new up_old (IsPermutation-cancelled ranks some laws (items now) taken (items old) (items new) apart listed out);
        apart = apart;
        found = AreAny-permutation flags tests (items now) (taken ++ items old) listed found;
      }
