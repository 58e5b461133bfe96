-- Items that leave their slots one after another.
use Rattle.std.specs.Prelude.{◌≡◌, ◌≢◌, ◌++◌, ℕ, nat_eq, slice_get, false, List, [], ◌∷◌, Some, None, All}
use Rattle.std.specs.List.{IsDistinct}
use Rattle.std.proofs.Common.{refl, subst, ◌∙◌}
use Rattle.std.proofs.lemmas.List.Elements.{All-head, All-tail}
use Rattle.std.proofs.lemmas.List.Sorted.{IsPermutation-refl}
use Rattle.std.proofs.lemmas.Map.Keys.{IsDistinct-head, IsDistinct-tail}
use Rattle.std.proofs.lemmas.Option.{get_or_from_slice_get, slice_get_within}
use Rattle.iddqd_store.specs.Map.{Map, Loses, bag}
use Rattle.iddqd_store.specs.Slots.{IsLive, Updates, get}
use Rattle.iddqd_store.specs.Slots.Found.{items_at}
use Rattle.iddqd_store.proofs.BagLemmas.Over.{IsPermutation-taken, items_at-taken, live-others}
use Rattle.iddqd_store.proofs.Plain.{other_number}
use Rattle.iddqd_store.proofs.RankLemmas.Search.{each_at}

-- The items of the slots `rest` are still to leave. Those that left are `taken`.
pub record LeavesInTurn {T S : Type 0} (old now : Map T S) (numbers rest : List ℕ) (taken : List T) : Type 0 where
  pub live : All (IsLive now.slots) rest
  pub apart : IsDistinct nat_eq rest
  pub values : taken ++ items_at now.slots rest ≡ items_at old.slots numbers
  pub loses : Loses old taken now

pub none_left : {T S : Type 0} {numbers : List ℕ} (m : Map T S) → All (IsLive m.slots) numbers → IsDistinct nat_eq numbers → LeavesInTurn m m numbers numbers []
none_left m live apart = record {
  live = live;
  apart = apart;
  values = refl;
  loses = record { items = IsPermutation-refl (bag m); same_room = refl; same_builder = refl };
}

module _ {T S : Type 0} {old now : Map T S} {numbers rest : List ℕ} {taken : List T}
    (so_far : LeavesInTurn old now numbers rest taken) {slot : ℕ} {behind : List ℕ} (front : rest ≡ slot ∷ behind) where
  pub next_live : IsLive now.slots slot
  next_live = All-head (IsLive now.slots) slot behind (subst (All (IsLive now.slots)) front so_far.live)

  -- one more has left
  pub next_leaves : {new : Map T S} {x : T} → Updates now.slots new.slots slot None → get now.slots slot ≡ Some x → Loses now (x ∷ []) new → LeavesInTurn old new numbers behind (taken ++ x ∷ [])
  next_leaves {new} {x} updates stood loses =
      let apart = subst (IsDistinct nat_eq) front so_far.apart in
      record {
        live = live-others now.slots new.slots slot behind updates apart (All-tail (IsLive now.slots) slot behind (subst (All (IsLive now.slots)) front so_far.live));
        apart = IsDistinct-tail nat_eq slot behind apart;
        values = items_at-taken now.slots new.slots slot behind x taken _ updates stood apart (subst (λ l. taken ++ items_at now.slots l ≡ items_at old.slots numbers) front so_far.values);
        loses = record {
          items = IsPermutation-taken _ _ _ taken x so_far.loses.items loses.items;
          same_room = loses.same_room ∙ so_far.loses.same_room;
          same_builder = loses.same_builder ∙ so_far.loses.same_builder;
        };
      }

-- a slot that is not among these is none of them
pub apart_from : (numbers : List ℕ) (at slot other : ℕ) → slice_get numbers at ≡ Some slot → IsDistinct nat_eq (other ∷ numbers) → other ≢ slot
apart_from numbers at slot other is apart =
    let here = get_or_from_slice_get numbers at slot slot is in
    other_number other slot (each_at (λ (y : ℕ). nat_eq other y ≡ false) numbers slot (IsDistinct-head nat_eq other numbers apart) (at, slice_get_within numbers at slot is, here))
