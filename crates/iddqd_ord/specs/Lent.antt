-- What a map ends as, if a `&mut` to the data of an item is returned. In the examples an item has a key and data, as (2, 20).
use Rattle.std.specs.Prelude.{◌≡◌, Bool, List, Option, Some, map, if◌then◌else◌, OnSome}
use Rattle.std.specs.Borrow.{Lends, LendsSo, Fml, RattleType, MutBor}
use Rattle.std.specs.BTreeMap.Lent.{OrdMembers}
use Rattle.iddqd_store.specs.Bag.{IsOnly}
use Rattle.iddqd_order.specs.declared.place.Place.{Place}
use Rattle.iddqd_ord.specs.Items.{OrdMap, items}
use Rattle.iddqd_ord.specs.Writing.{map_with}
use Rattle.iddqd_ord.specs.declared.item.IdOrdItem as item
use Rattle.iddqd_ord.specs.contracts.map.IdOrdMap.{the_row}

module _ {T : Type 0} where
  -- `in_place` is the list, where `y` stands in the place of each item that passes the test.
  -- Example: For 3, 5, the test whether an item is 5, and 6 it is 3, 6.
  abbrev pub in_place : (T → Bool) → T → List T → List T
  in_place test y xs = map (λ x. if test x then y else x) xs

module _ {T D : Type 0} (put : T → D → T) (test : T → Bool) where
  -- `with_data` is the list, where `d` is the data of each item that passes the test.
  -- Example: For (1, 10), (2, 20), the test whether the key is 2, and the data 7 it is (1, 10), (2, 7).
  abbrev pub with_data : D → List T → List T
  with_data d xs = map (λ x. if test x then put x d else x) xs

  -- The data `d` was written to the item that passes the test, and nothing else changes. If the item had these data,
  -- nothing changes.
  -- Example: For the test whether the key is 2, and the data 7, a map of (1, 10), (2, 20) becomes one of (1, 10), (2, 7).
  pub record WritesTo (old : OrdMap T) (d : D) (new : OrdMap T) : Type 0 where
    pub lists : items new ≡ with_data d (items old)
    pub unchanged : ((x : T) → IsOnly test (items old) (Some x) → put x d ≡ x) → new ≡ old
    pub same_room : new.capacity ≡ old.capacity

module _ (T Key : RattleType) (of : item.Ghosts T.Denot Key.Denot) (keys : OrdMembers Key.Denot) where
  -- `map_row` is the type of the map in the logic. No public clause cites it.
  abbrev pub map_row : RattleType
  map_row = the_row T Key of (record { cmp = keys.cmp }) (record { eq = keys.eq }) (record { partial_cmp = keys.partial_cmp })

  module _ (D : RattleType) (put : T.Denot → D.Denot → T.Denot) where
    -- What is written through `r` is the data of the item at this place. No public clause cites it.
    -- Example: If d is written, a map of a, b and the place of b end as a, `put b d`.
    abbrev pub lends_data : MutBor (OrdMap T.Denot) → Place → MutBor D.Denot → Fml
    lends_data m place r = Lends map_row D m r (λ d. map_with m.now place (λ x. put x d))

    -- What is written through `r` is the data of the item that passes the test, and nothing else changes. If there is no
    -- `r`, the map ends as it was.
    -- Example: If d is written, and that item is b, a map of a, b ends as a, `put b d`.
    abbrev pub lends_data_to : (T.Denot → Bool) → MutBor (OrdMap T.Denot) → Option (MutBor D.Denot) → Fml
    lends_data_to test m r =
        LendsSo map_row D m r (λ n d. OnSome r (WritesTo put test m.now d n)) (λ n. n ≡ m.now)
