-- Lemmas for the growth of a map, whose capacity is the least of those of its slots and tables.
use Rattle.std.specs.Prelude.{◌≡◌, ◌+◌, ◌*◌, ◌<◌, ◌≤◌, ℕ, suc, [], ◌∷◌, List, Option, Result, Ok, Err, IsErr, IsPermutation, length, min, max, ⊤}
use Rattle.std.proofs.Common.{arith, refl, ap, subst, ◌∙◌}
use Rattle.iddqd_store.specs.Bag.{Ranks}
use Rattle.iddqd_store.specs.Map.{Map, bag, Gains, GrowsUnless, PutsAt, Reserves, most_grown}
use Rattle.iddqd_store.specs.Rank.Index.{AreIndexes, IsIndexed}
use Rattle.iddqd_store.specs.Slots.{contents, live_count}
use Rattle.iddqd_store.specs.Table.{Table}
use Rattle.iddqd_store.specs.Table.Limit.{capacity_of, most_room}
use Rattle.iddqd_store.specs.Table.Room.{IsSpareFor}
use Rattle.iddqd_store.proofs.Plain.{by_order}
use Rattle.iddqd_store.proofs.MapLemmas.{MakesRoom-err}
use Rattle.iddqd_store.proofs.RankLemmas.Index.{length-index}
use Rattle.iddqd_store.proofs.SlotLemmas.Contents.{length-contents}
use Rattle.iddqd_store.proofs.TableLemmas.Limits.{least_most}

-- each table has as many pairs as slots are live
abbrev pub AreAsMany : ℕ → List (List (ℕ × ℕ)) → Type 0
AreAsMany n [] = ⊤
AreAsMany n (pairs ∷ tables) = (length pairs ≡ n) × AreAsMany n tables

abbrev pub the_map : {T S : Type 0} → List (Option T) → ℕ → S → Map T S
the_map slots capacity builder = record { slots = slots; capacity = capacity; builder = builder }

-- What a part of a map, its slots or one table, holds before and after a growth: no less, the same if `fits` holds, and then
-- as many as were `asked` for. If it held fewer, and `exact` says that no more was asked of it, it holds at most twice as many.
pub record Roomier (fits exact : Type 0) (asked before after : ℕ) : Type 0 where
  pub no_less : before ≤ after
  pub same : fits → after ≡ before
  pub enough : asked ≤ after
  pub most : exact → before < asked → after ≤ max (2 * asked) 7

-- slots that held fewer than was asked for
pub slots_most : (held : ℕ) {more asked before after : ℕ} → more ≤ asked → (more < asked → held + asked ≤ max (2 * before) 4) → after ≡ max before (held + asked)
    → before < held + more → after ≤ max (2 * (held + more)) 7
slots_most held {more} {asked} enough beyond is less = by_order more asked (λ far. omega (arith, is, beyond far, less)) (λ near. omega (arith, is, enough, near, less))

module _ {fits exact : Type 0} where
  -- the least of two parts
  pub least_of : {asked one one_after two two_after : ℕ} → Roomier fits exact asked one one_after → Roomier fits exact asked two two_after
      → Roomier fits exact asked (min one two) (min one_after two_after)
  least_of {asked} {one} first second = record {
    no_less = omega (arith, first.no_less, second.no_less);
    same = λ all. rw (first.same all, second.same all) refl;
    enough = omega (arith, first.enough, second.enough);
    most = λ is less. by_order one asked (λ lacks. omega (arith, first.most is lacks)) (λ holds. omega (arith, second.most is (omega (arith, less, holds))));
  }

  module _ (held : ℕ) {more : ℕ} where
    -- slots, which grow to what was asked for
    pub slots_grow : {asked before after : ℕ} → more ≤ asked → (held + more ≤ before → asked ≡ more) → (more < asked → held + asked ≤ max (2 * before) 4)
        → after ≡ max before (held + asked) → (fits → held + more ≤ before) → Roomier fits exact (held + more) before after
    slots_grow enough as_asked beyond is within = record {
      no_less = omega (arith, is);
      same = λ all. omega (arith, is, as_asked (within all), within all);
      enough = omega (arith, is, enough);
      most = λ _. slots_most held enough beyond is;
    }

    -- a table, which takes the spare cells over that were asked for
    pub table_grows : {table grown : Table} {wanted spare : ℕ} → length table.pairs ≡ held → more ≤ wanted → IsSpareFor table wanted spare
        → (spare ≡ 0 → grown ≡ table) → (0 < spare → grown.limit ≡ capacity_of spare)
        → (exact → wanted ≡ more) → (fits → exact) → (fits → held + more ≤ table.limit) → Roomier fits exact (held + more) table.limit grown.limit
    table_grows {table} {grown} {wanted} count enough spare_is stays limit as_asked exactly within = record {
      no_less = grind arith;
      same = λ all. grind (arith, as_asked (exactly all), within all);
      enough = grind arith;
      most = λ is less.
          (let lacks : table.limit < length table.pairs + wanted = omega (arith, count, as_asked is, less) in
          omega (arith, limit (spare_is.some lacks), least_most _ _ (spare_is.least lacks), count, as_asked is));
    }

module _ {T : Type 0} where
  as_many : (hashes : List (T → ℕ)) (slots : List (Option T)) (tables : List (List (ℕ × ℕ))) → AreIndexes hashes slots tables → AreAsMany (live_count slots) tables
  as_many [] slots [] all = tt
  as_many [] slots (pairs ∷ tables) all = absurd all
  as_many (hash ∷ hashes) slots [] all = absurd all
  as_many (hash ∷ hashes) slots (pairs ∷ tables) all = (length-index all.0 ∙ length-contents slots, as_many hashes slots tables all.1)

  module _ {S A E : Type 0} {ranks : Ranks T} {hashes : List (T → ℕ)} {slots to_slots : List (Option T)} {tables : List (List (ℕ × ℕ))}
      {capacity to_capacity more : ℕ} {builder : S} {old : Map T S} where
    -- a call that fails leaves the map as it was, if its capacity is as it was
    pub refuses : (r : Result A E) → IsErr r → the_map slots capacity builder ≡ old → to_slots ≡ slots → IsIndexed ranks hashes slots tables
        → (AreAsMany (live_count slots) tables → (to_capacity ≡ capacity) × (capacity < live_count slots + more))
        → Reserves old more r (the_map to_slots to_capacity builder)
    refuses (Err e) is seen at_slots indexed so =
        let found = so (as_many hashes slots tables indexed.indexes) in
        let same : the_map to_slots to_capacity builder ≡ the_map slots capacity builder = rw (at_slots, found.0) refl in
        rw (← seen) record { slots = at_slots; room = MakesRoom-err (Err e) e refl (rw (length-contents slots) found.1) same; unchanged = same }
    refuses (Ok _) is seen at_slots indexed so = cc

    -- a call that succeeds has made room: the slots either hold what was asked for, or are no more than twice that then
    pub grows : {x : A} (room : ℕ) → the_map slots capacity builder ≡ old → to_slots ≡ slots → IsIndexed ranks hashes slots tables
        → (AreAsMany (live_count slots) tables → (most_room < live_count slots + more → (let r : Result A E = Ok x in IsErr r))
        × Roomier (live_count slots + more ≤ capacity) (live_count slots + more ≤ room) (live_count slots + more) capacity to_capacity
        × (room < live_count slots + more → to_capacity ≤ max (2 * (live_count slots + more)) 7))
        → Reserves {A = A} {E = E} old more (Ok x) (the_map to_slots to_capacity builder)
    grows room seen at_slots indexed so =
        let found = so (as_many hashes slots tables indexed.indexes) in
        let held = length-contents slots in
        rw (← seen) record {
          slots = at_slots;
          room = record {
            room = rw held found.1.enough;
            reason = tt;
            past = λ past. found.0 (rw held at past);
            no_less_room = found.1.no_less;
            same_room = λ fits. found.1.same (rw held at fits);
            most = by_order capacity (live_count slots + more)
                (λ lacks. by_order room (live_count slots + more) (λ small. omega (arith, held, found.2 small)) (λ holds. omega (arith, held, found.1.most holds lacks)))
                (λ fits. omega (arith, found.1.same fits));
            same_builder = refl;
          };
          unchanged = tt;
        }

-- all that is left fits, and one of it came: it finds room, and the rest fits behind it
module _ (held left next room : ℕ) (fit : held + left ≤ room) (nearer : next < left) where
  pub spare : held < room
  spare = omega arith

  pub fits_on : (now grown : ℕ) → now ≤ suc held → grown ≡ room → now + next ≤ grown
  fits_on now grown more same = omega arith

pub not_full : (held room : ℕ) → held ≡ room → held < room → ⊥
not_full held room full spare = omega (arith, full, spare)

-- a map got room for an item, and then the item
module _ {T S : Type 0} (ranks : Ranks T) (old roomy : Map T S)
    (slots : roomy.slots ≡ old.slots) (no_less_room : old.capacity ≤ roomy.capacity) (same : length (bag old) < old.capacity → roomy ≡ old) (builder : roomy.builder ≡ old.builder) where
  pub GrowsUnless-room : GrowsUnless (length (bag old) < old.capacity) old roomy
  GrowsUnless-room = record { no_less_room = no_less_room; same_room = λ spare. ap (λ (m : Map T S). m.capacity) (same spare); same_builder = builder }

  module _ (new : Map T S) (slot : ℕ) (x : T) (puts : PutsAt ranks roomy slot x (x ∷ bag roomy) new) where
    pub GrowsUnless-put : GrowsUnless (length (bag old) < old.capacity) old new
    GrowsUnless-put = record {
      no_less_room = omega (arith, no_less_room, puts.same_room);
      same_room = λ spare. puts.same_room ∙ GrowsUnless-room.same_room spare;
      same_builder = puts.same_builder ∙ builder;
    }

    pub Gains-put : {wanted : ℕ} → roomy.capacity ≤ most_grown old.capacity (length (bag old)) wanted → Gains wanted old x new
    Gains-put most = record {
      items = subst (λ l. IsPermutation (bag new) (x ∷ contents l)) slots puts.items;
      no_less_room = GrowsUnless-put.no_less_room;
      same_room = GrowsUnless-put.same_room;
      most = omega (arith, most, puts.same_room);
      fits = puts.fits;
      same_builder = GrowsUnless-put.same_builder;
    }
