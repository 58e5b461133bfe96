-- The items of a list in the order given, and their numbers in the order of their keys. In the examples an item is a number,
-- which is its key.
use Rattle.std.specs.Prelude.{◌≡◌, ℕ, false, List, [], ◌∷◌, ◌++◌, Some, ⊤, map, slice_get, IsPermutation}
use Rattle.std.specs.List.{list_any}
use Rattle.std.specs.declared.cmp.Ordering.{Ordering}
use Rattle.iddqd_ord.specs.Items.{OrdMap, has_key_of, with_item}
use Rattle.iddqd_ord.specs.Ordered.{IsAscending}
use Rattle.iddqd_ord.specs.Extensions.{ExtendsTo, with_items}
use Rattle.iddqd_ord.specs.declared.item.IdOrdItem as item

module _ {T Key : Type 0} (of : item.Ghosts T Key) (cmp : Key → Key → Ordering) where
  -- No item of the list `xs` has the key of one of `held`, or of one before it in the list. No public clause cites it.
  -- Example: It holds for 3, 5 and the list 4, 1.
  abbrev pub AreFree : List T → List T → Type 0
  AreFree held [] = ⊤
  AreFree held (x ∷ xs) = (list_any (has_key_of of cmp x) held ≡ false) × AreFree (with_item of cmp held x) xs

  -- The numbers name the items of the list in the ascending order of their keys. No two of the items have an equal key. No public
  -- clause cites it.
  -- Example: For the list 5, 3, 7 the numbers are 1, 0, 2.
  pub record IsOrderOf (list : List T) (numbers : List ℕ) : Type 0 where
    pub picks : map (slice_get list) numbers ≡ map Some (with_items of cmp [] list)
    pub ascending : IsAscending cmp of.key (with_items of cmp [] list)
    pub same : IsPermutation (with_items of cmp [] list) list

  -- The map has the first items of a list (`ExtendsTo`), and the others are left. No public clause cites it.
  -- Example: A map of 3, 5 and the list 4, 1 become a map of 3, 4, 5, and 1 is left.
  pub record Gathers (old : OrdMap T) (list : List T) (new : OrdMap T) (left : List T) : Type 0 where
    pub put : List T
    pub is : list ≡ put ++ left
    pub extends : ExtendsTo of cmp old put new

  -- The map has the items of a list before `x`, which is one of the list (`ExtendsTo`). No public clause cites it.
  -- Example: A map of 3, 5 and the list 4, 1, 6 become a map of 3, 4, 5, and `x` is 1.
  pub record StopsAt (old : OrdMap T) (list : List T) (x : T) (new : OrdMap T) : Type 0 where
    pub before : List T
    pub behind : List T
    pub is : list ≡ before ++ x ∷ behind
    pub extends : ExtendsTo of cmp old before new
