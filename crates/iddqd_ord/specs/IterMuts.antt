-- What contracts say of an `IterMut`. In the examples an item is a number.
use Rattle.std.specs.Prelude.{◌≡◌, List, [], ◌∷◌, ◌++◌, Option, take, drop, OnSome, IfNone}
use Rattle.std.specs.Borrow.{LendsSo, Fml, RattleType, MutBor}
use Rattle.std.specs.declared.cmp.Ord as ord
use Rattle.std.specs.declared.cmp.PartialEq as equal
use Rattle.std.specs.declared.cmp.PartialOrd as partial
use mir.Syntax.{named}
use Rattle.iddqd_ord.specs.Items.{items}
use Rattle.iddqd_order.specs.Row.{position}
use Rattle.iddqd_ord.specs.declared.item.IdOrdItem as item
use Rattle.iddqd_ord.specs.declared.iter_mut.IterMut.{IterMut}
use Rattle.iddqd_ord.specs.contracts.iter_mut.IterMut.{the_row}

module _ {T Key : Type 0} {of : item.Ghosts T Key} {order : ord.Ghosts Key} {eq : equal.Ghosts Key} {some_order : partial.Ghosts Key} where
  -- `rest_of` lists the items that are left to the iteration.
  -- Example: For 3, 5, 7, of which 3 has been passed, it is 5, 7.
  abbrev pub rest_of : IterMut T Key of order eq some_order → List T
  rest_of it = take it.left (drop (position it.map.now.blocks it.front) (items it.map.now))

  -- `done_of` lists the items before those that are left, as they were written. From an iteration over all items they are those that
  -- it has passed from the front.
  -- Example: For 3, 5, 7, of which 3 has been passed, it is 3.
  abbrev pub done_of : IterMut T Key of order eq some_order → List T
  done_of it = take (position it.map.now.blocks it.front) (items it.map.now)

  -- `behind_of` lists the items behind those that are left, as they were written. From an iteration over all items they are those that
  -- it has passed from behind.
  -- Example: For 3, 5, 7, of which 7 has been passed from behind, it is 7.
  abbrev pub behind_of : IterMut T Key of order eq some_order → List T
  behind_of it = drop (position it.map.now.blocks it.back) (items it.map.now)

  -- The next item of the iteration has the data `d`, and was passed. The iteration has the same map, and nothing else
  -- changes.
  -- Example: From the items 3 before 5, 7, to `put 3 d` behind which 5, 7 are left.
  pub record StepsTo {D : Type 0} (put : T → D → T) (before : IterMut T Key of order eq some_order) (d : D) (after : IterMut T Key of order eq some_order) : Type 0 where
    pub item : T
    pub same_map : after.map.ghost_name ≡ before.map.ghost_name
    pub left : rest_of before ≡ item ∷ rest_of after
    pub done : done_of after ≡ done_of before ++ put item d ∷ []
    pub behind : behind_of after ≡ behind_of before
    pub capacity : after.map.now.capacity ≡ before.map.now.capacity

  -- The last item that is left has the data `d`, and was passed. The iteration has the same map, and nothing else changes.
  -- Example: From the items 5, 7, to 5, behind which `put 7 d` is.
  pub record StepsBack {D : Type 0} (put : T → D → T) (before : IterMut T Key of order eq some_order) (d : D) (after : IterMut T Key of order eq some_order) : Type 0 where
    pub item : T
    pub same_map : after.map.ghost_name ≡ before.map.ghost_name
    pub left : rest_of before ≡ rest_of after ++ item ∷ []
    pub done : done_of after ≡ done_of before
    pub behind : behind_of after ≡ put item d ∷ behind_of before
    pub capacity : after.map.now.capacity ≡ before.map.now.capacity

  -- The iteration has the same map, and is where it was.
  pub record IsSameIter (before after : IterMut T Key of order eq some_order) : Type 0 where
    pub same_map : after.map.ghost_name ≡ before.map.ghost_name
    pub unchanged : after.map.now ≡ before.map.now
    pub front : after.front ≡ before.front
    pub back : after.back ≡ before.back
    pub left : after.left ≡ before.left

module _ (T Key : RattleType) {of : item.Ghosts T.Denot Key.Denot} {order : ord.Ghosts Key.Denot} {eq : equal.Ghosts Key.Denot} {some_order : partial.Ghosts Key.Denot} where
  -- What is written through `r` is the data of the next item, and the iteration has passed it. If there is no `r`, the
  -- iteration stays.
  -- Example: For a, b, c, of which a has been passed, if d is written, it has passed a, `put b d`.
  abbrev pub lends_next : (D : RattleType) → (T.Denot → D.Denot → T.Denot)
      → MutBor (IterMut T.Denot Key.Denot of order eq some_order) → Option (MutBor D.Denot) → Fml
  lends_next D put m r = LendsSo (the_row (record { mir = named 1; lft = [] }) T Key of order eq some_order) D m r
      (λ n d. OnSome r (StepsTo put m.now d n)) (λ n. IfNone r (IsSameIter m.now n))

  -- What is written through `r` is the data of the last item that is left, and the iteration has passed it. If there is no `r`, the
  -- iteration stays.
  -- Example: For a, b, c, if d is written, a, b are left, and `put c d` is behind them.
  abbrev pub lends_last : (D : RattleType) → (T.Denot → D.Denot → T.Denot)
      → MutBor (IterMut T.Denot Key.Denot of order eq some_order) → Option (MutBor D.Denot) → Fml
  lends_last D put m r = LendsSo (the_row (record { mir = named 1; lft = [] }) T Key of order eq some_order) D m r
      (λ n d. OnSome r (StepsBack put m.now d n)) (λ n. IfNone r (IsSameIter m.now n))
