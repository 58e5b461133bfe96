-- Lemmas for an item that takes the place of those that conflict with it.
use Rattle.std.specs.Prelude.{◌≡◌, ◌++◌, ◌∷◌, ℕ, List, [], IsPermutation}
use Rattle.std.proofs.Common.{arith}
use Rattle.iddqd_store.specs.Bag.{Ranks, conflicts_of, conflicting, with_item}
use Rattle.iddqd_store.specs.Map.{Map, Gains, Overwrites, PutsAt, bag}
use Rattle.iddqd_store.proofs.BagLemmas.Over.{with_item-taken}
use Rattle.iddqd_store.proofs.MapLemmas.Places.{over_none}

module _ {T S : Type 0} (ranks : Ranks T) (old new : Map T S) (x : T) where
  -- an item that is put in the place of those that conflict with it is put over the bag
  pub PutsAt-with_item : (slot : ℕ) (rest : List T) → IsPermutation (bag old) (conflicting ranks (bag old) x ++ rest)
      → PutsAt ranks old slot x (x ∷ rest) new → PutsAt ranks old slot x (with_item ranks (bag old) x) new
  PutsAt-with_item slot rest out put = record {
    at = put.at;
    items = with_item-taken ranks (bag old) rest (bag new) x out put.items;
    sound = put.sound;
    fits = put.fits;
    same_room = put.same_room;
    same_builder = put.same_builder;
  }

  -- an item that conflicts with none overwrites nothing
  pub Overwrites-gains : {wanted : ℕ} → conflicts_of ranks (bag old) x ≡ [] → Gains wanted old x new → Overwrites ranks wanted old x new
  Overwrites-gains free gains = record {
    items = over_none ranks (bag old) x free (bag new) gains.items;
    fits = gains.fits;
    no_less_room = gains.no_less_room;
    same_room = gains.same_room;
    most = gains.most;
    no_growth = λ some. absurd (some free);
    same_builder = gains.same_builder;
  }

  -- an item in the place of those that conflict with it overwrites them
  pub Overwrites-puts : {wanted : ℕ} (slot : ℕ) → PutsAt ranks old slot x (with_item ranks (bag old) x) new → Overwrites ranks wanted old x new
  Overwrites-puts slot puts = record {
    items = puts.items;
    fits = puts.fits;
    no_less_room = omega (arith, puts.same_room);
    same_room = λ _. puts.same_room;
    most = omega (arith, puts.same_room);
    no_growth = λ _. puts.same_room;
    same_builder = puts.same_builder;
  }
