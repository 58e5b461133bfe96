-- What the error of an insert says that borrows the map, and what the map ends as. In the examples an item is a number.
use Rattle.std.specs.Prelude.{◌≡◌, Result, Ok, Err, OnOk, OnErr}
use Rattle.std.specs.Borrow.{RattleType, MutBor, Fml, GName, follows_so}
use Rattle.std.specs.declared.cmp.Ord as ord
use Rattle.std.specs.declared.cmp.PartialEq as equal
use Rattle.std.specs.declared.cmp.PartialOrd as partial
use mathlib.Core.Option as maybe
use Rattle.iddqd_ord.specs.Items.{OrdMap}
use Rattle.iddqd_ord.specs.declared.item.IdOrdItem as item
use Rattle.iddqd_ord.specs.declared.error.insert.InsertError.{InsertError}
use Rattle.iddqd_ord.specs.contracts.map.IdOrdMap.{the_row}

module _ {T Key : Type 0} {of : item.Ghosts T Key} {order : ord.Ghosts Key} {eq : equal.Ghosts Key} {some_order : partial.Ghosts Key} where
  -- The error of an insert has the item `x`, and borrows this very map, which is as it was.
  -- Example: After an insert of 5 into a map of 3, 5 has failed, the error has the new 5, and its map has 3, 5.
  pub record HandsBackAndHolds (m : MutBor (OrdMap T)) (x : T) (e : InsertError T Key of order eq some_order) : Type 0 where
    pub handed_back : e.item ≡ x
    pub same_map : e.map.ghost_name ≡ m.ghost_name
    pub unchanged : e.map.now ≡ m.now

  abbrev pub refused_name : {X : Type 0} → Result X (InsertError T Key of order eq some_order) → maybe.Option GName
  refused_name (Ok x) = maybe.none
  refused_name (Err e) = maybe.some e.map.ghost_name

module _ (T Key : RattleType) {of : item.Ghosts T.Denot Key.Denot} {order : ord.Ghosts Key.Denot} {eq : equal.Ghosts Key.Denot} {some_order : partial.Ghosts Key.Denot} where
  -- After an error the map ends as the error leaves it, and after `Ok` it ends so that `P` holds for it.
  -- Example: If `P` says that the map gained 4, it ends with 4 or as the error leaves it.
  abbrev pub ends_as : {X : Type 0} → MutBor (OrdMap T.Denot) → Result X (InsertError T.Denot Key.Denot of order eq some_order)
      → (OrdMap T.Denot → Type 0) → Fml
  ends_as m r P =
      follows_so (the_row T Key of order eq some_order) (the_row T Key of order eq some_order) m.ghost_name (refused_name r) (λ x n. OnErr r (n ≡ x)) (λ n. OnOk r (P n))
