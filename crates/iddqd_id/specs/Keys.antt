-- Made by tests/widths from crates/iddqd_bi/specs/Keys.antt: change that file.

-- The ranks of an item with one key, and the slots found by them.
use Rattle.std.specs.Prelude.{Bool, List, [], ◌∷◌}
use Rattle.iddqd_store.specs.Bag.{Ranks}
use Rattle.iddqd_store.specs.Rank.{agree}
use Rattle.iddqd_store.specs.declared.index_table.searched.Searched.{Searched}
use Rattle.iddqd_store.specs.declared.index_table.searched.Searched.TheVariants.{Found, Vacant}
use Rattle.iddqd_id.specs.declared.item.IdHashItem as item

module _ {T Key : Type 0} (of : item.Ghosts T Key) where
  -- `ranks` has for each rank a test whether two items have equal keys.
  -- Example: Every item passes every test with itself.
  abbrev pub ranks : (Key → Key → Bool) → Ranks T
  ranks eq = agree of.key eq ∷ []

  -- `has` tells whether the item has the key that the query stands for.
  -- Example: If the query is the key of the item, it is true.
  abbrev pub has : {Q : Type 0} → (Q → Key → Bool) → Q → T → Bool
  has stands q x = stands q (of.key x)

  -- `key_tests` has for each rank the test whether an item has the key that the query of this rank stands for.
  -- Example: If the queries are the keys of an item, it passes every test.
  abbrev pub key_tests : {Q : Type 0} → (Q → Key → Bool)
      → Q → List (T → Bool)
  key_tests stands q = has stands q ∷ []

-- `by_rank` lists what the search of each rank returned. No public clause cites it.
-- Example: If no search found a slot, it is `Vacant` of the cells at which they ended.
abbrev pub by_rank : {F V : Type 0} → Searched F V → Searched (List F) (List V)
by_rank (Found found) = Found (found ∷ [])
by_rank (Vacant at) = Vacant (at ∷ [])
