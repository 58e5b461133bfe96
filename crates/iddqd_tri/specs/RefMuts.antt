-- Made by tests/widths from crates/iddqd_bi/specs/RefMuts.antt: change that file.

-- What a contract says of a `RefMut`.
use Rattle.std.specs.Prelude.{◌≡◌, [], Option, Some, None, IsPermutation}
use Rattle.std.specs.Borrow.{Fml, GName, RattleType, MutBor, RestsIfNone, follows}
use Rattle.std.specs.declared.cmp.PartialEq as equal
use Rattle.std.specs.declared.hash.Hash as hash
use Rattle.std.specs.declared.hash.Hasher as hasher
use Rattle.std.specs.declared.hash.BuildHasher as builder
use mir.Syntax.{named}
use Rattle.iddqd_store.specs.Bag.{Ranks, first_mismatch, tests_of, swap}
use Rattle.iddqd_store.specs.Map.{Map, bag}
use Rattle.iddqd_store.specs.Slots.{get}
use Rattle.iddqd_tri.specs.declared.item.TriHashItem as item
use Rattle.iddqd_store.specs.Map.Written.{map_with, still_live}
use Rattle.iddqd_tri.specs.declared.ref_mut.RefMut.{RefMut}
use Rattle.iddqd_tri.specs.contracts.map.TriHashMap.{the_row as map_row}
use Rattle.iddqd_tri.specs.contracts.ref_mut.RefMut.{the_row as ref_row}

module _ {T S K1 K2 K3 H : Type 0} {of : item.Ghosts T K1 K2 K3}
    {eq1 : equal.Ghosts K1} {input1 : hash.Ghosts K1}
    {eq2 : equal.Ghosts K2} {input2 : hash.Ghosts K2}
    {eq3 : equal.Ghosts K3} {input3 : hash.Ghosts K3}
    {build : builder.Ghosts S H} {hashes : hasher.Ghosts H} where
  module _ (r : RefMut T S K1 K2 K3 H of eq1 input1 eq2 input2 eq3 input3 build hashes) where
    -- `ref_lender` is the name of the guard's reference to the map.
    -- Example: For what `map.get1_mut(..)` returned it is the name of the reference `map`.
    abbrev pub ref_lender : GName
    ref_lender = r.map.ghost_name

    -- `ref_map` is the map that the guard borrows.
    -- Example: For a guard in a map of a, b it has a, b.
    abbrev pub ref_map : Map T S
    ref_map = r.map.now

    -- `ref_item` is the item that the guard borrows.
    -- Example: For a guard of a it is `Some a`.
    abbrev pub ref_item : Option T
    ref_item = get r.map.now.slots r.slot

    -- `ref_with` is the guard, where `f` of its item has replaced the item.
    -- Example: For a guard of a it is a guard of `f a`.
    abbrev pub ref_with : (T → T) → RefMut T S K1 K2 K3 H of eq1 input1 eq2 input2 eq3 input3 build hashes
    ref_with f = record {
      map = record r.map { now = map_with r.map.now r.slot f };
      slot = r.slot;
      live = still_live f r.map.now.slots r.slot r.slot r.live;
    }

  -- The item `x` of the guard is returned, and `item`, which has the same keys, is in its place. The guard has the
  -- same map, and nothing else changes.
  -- Example: In a map of a, b, a guard of a becomes one of `item` in a map of `item`, b, and `x` is a.
  pub record Replaces (ranks : Ranks T)
      (before : RefMut T S K1 K2 K3 H of eq1 input1 eq2 input2 eq3 input3 build hashes) (item x : T)
      (after : RefMut T S K1 K2 K3 H of eq1 input1 eq2 input2 eq3 input3 build hashes) : Type 0 where
    pub same_map : ref_lender after ≡ ref_lender before
    pub old : ref_item before ≡ Some x
    pub new : ref_item after ≡ Some item
    pub swaps : IsPermutation (bag (ref_map after)) (swap ranks (bag (ref_map before)) x item)
    pub same_keys : first_mismatch (tests_of ranks x) item ≡ None
    pub capacity : (ref_map after).capacity ≡ (ref_map before).capacity
    pub builder : (ref_map after).builder ≡ (ref_map before).builder

module _ (T S K1 K2 K3 H : RattleType) {of : item.Ghosts T.Denot K1.Denot K2.Denot K3.Denot}
    {eq1 : equal.Ghosts K1.Denot} {input1 : hash.Ghosts K1.Denot}
    {eq2 : equal.Ghosts K2.Denot} {input2 : hash.Ghosts K2.Denot}
    {eq3 : equal.Ghosts K3.Denot} {input3 : hash.Ghosts K3.Denot}
    {build : builder.Ghosts S.Denot H.Denot} {hashes : hasher.Ghosts H.Denot} where
  module _ (D : RattleType) (put : T.Denot → D.Denot → T.Denot) where
    -- What is written through `r` is the data of the guard's item.
    -- Example: If d is written, a guard of a ends as one of `put a d`.
    abbrev pub lends_ref_data : MutBor
        (RefMut T.Denot S.Denot K1.Denot K2.Denot K3.Denot H.Denot of eq1 input1 eq2 input2 eq3 input3 build hashes)
        → MutBor D.Denot → Fml
    lends_ref_data m r = follows
        (ref_row (record { mir = named 1; lft = [] }) T S K1 K2 K3 H of eq1 input1 eq2 input2 eq3 input3 build hashes)
        D m.ghost_name r.ghost_name (λ d. ref_with m.now (λ x. put x d))

    -- What is written through `r` is the data of the guard's item, in the guard's map.
    -- Example: If d is written, the map of a guard of a ends with `put a d`.
    abbrev pub lends_map_data :
        RefMut T.Denot S.Denot K1.Denot K2.Denot K3.Denot H.Denot of eq1 input1 eq2 input2 eq3 input3 build hashes
        → MutBor D.Denot → Fml
    lends_map_data g r = follows (map_row T S K1 K2 K3 H of eq1 input1 eq2 input2 eq3 input3 build hashes)
        D (ref_lender g) r.ghost_name (λ d. ref_map (ref_with g (λ x. put x d)))

  -- If there is no guard, the map ends as it was.
  -- Example: A map of a, b ends as a, b.
  abbrev pub rests_if_none : MutBor (Map T.Denot S.Denot) → Option
      (RefMut T.Denot S.Denot K1.Denot K2.Denot K3.Denot H.Denot of eq1 input1 eq2 input2 eq3 input3 build hashes) → Fml
  rests_if_none m r = RestsIfNone (map_row T S K1 K2 K3 H of eq1 input1 eq2 input2 eq3 input3 build hashes) m
      ref_lender r (λ n. n ≡ m.now)
