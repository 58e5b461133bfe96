-- What is made of the items that an iterator gives. In the examples an item is a number, which is its key.
use Rattle.std.specs.Prelude.{◌≡◌, ◌≤◌, ◌+◌, false, List, [], ◌++◌, Some, fold, length, IsPermutation}
use Rattle.std.specs.List.{list_any}
use Rattle.std.specs.declared.cmp.Ordering.{Ordering}
use Rattle.iddqd_store.specs.Bag.{IsOnly}
use Rattle.iddqd_ord.specs.Items.{OrdMap, items, has_key_of, most_extended, with_item}
use Rattle.iddqd_ord.specs.declared.item.IdOrdItem as item

module _ {T Key : Type 0} (of : item.Ghosts T Key) (cmp : Key → Key → Ordering) where
  -- `with_items` lists the items after `with_item` for each item of the second list in turn.
  -- Example: For 3, 5 and the list 4, 5 it is 3, 4 and the second 5.
  abbrev pub with_items : List T → List T → List T
  with_items xs ys = fold (with_item of cmp) xs ys

  -- Each item of the list was put into the map, and the items fit. The capacity stays if all of the list fits beside those
  -- that were there, and grows to no more than twice as many items as that.
  -- Example: A map of 3, 5 extended by 4, 5 has 3, 4 and the second 5.
  pub record ExtendsTo (old : OrdMap T) (xs : List T) (new : OrdMap T) : Type 0 where
    pub lists : items new ≡ with_items (items old) xs
    pub fits : length (items new) ≤ new.capacity
    pub no_less_room : old.capacity ≤ new.capacity
    pub same_room : length (items old) + length xs ≤ old.capacity → new.capacity ≡ old.capacity
    pub most : new.capacity ≤ most_extended old.capacity (length (items old) + length xs)

  -- Each item of the list `xs` was put among the items `old`, where none had its key, and `new` lists the result in order.
  -- Example: 4, 1 added to 3, 5 makes 1, 3, 4, 5. No list is 4, 5 added to 3, 5.
  pub record AddsTo (old new xs : List T) : Type 0 where
    pub lists : new ≡ with_items old xs
    pub all : IsPermutation new (old ++ xs)

  -- Each item of the list was added to none (`AddsTo`), and then `x` was rejected because `duplicate` has its key.
  -- Example: After the list 5, 3 another 5 is rejected because of the first.
  abbrev pub RefusesFor : T → T → List T → Type 0
  RefusesFor x duplicate xs = (made : List T) × AddsTo [] made xs × IsOnly (has_key_of of cmp x) made (Some duplicate)

  -- Each item of the list was added to none (`AddsTo`), and then none has the key of `x`.
  -- Example: After the list 5, 3 none has the key 4.
  abbrev pub HasPlaceFor : T → List T → Type 0
  HasPlaceFor x xs = (made : List T) × AddsTo [] made xs × (list_any (has_key_of of cmp x) made ≡ false)
