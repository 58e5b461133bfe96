-- The ranks of an item with two keys, and the slots found by them.
use Rattle.std.specs.Prelude.{Bool, List, [], ◌∷◌}
use Rattle.iddqd_store.specs.Bag.{Ranks, every_of}
use Rattle.iddqd_store.specs.Rank.{agree}
use Rattle.iddqd_store.specs.declared.index_table.searched.Searched.{Searched}
use Rattle.iddqd_store.specs.declared.index_table.searched.Searched.TheVariants.{Found, Vacant}
use Rattle.iddqd_bi.specs.declared.item.BiHashItem as item

module _ {T K1 K2 : Type 0} (of : item.Ghosts T K1 K2) where
  -- `ranks` has for each rank a test whether two items have equal keys.
  -- Example: Every item passes every test with itself.
  abbrev pub ranks : (K1 → K1 → Bool) → (K2 → K2 → Bool) → Ranks T
  ranks eq1 eq2 = agree of.key1 eq1 ∷ agree of.key2 eq2 ∷ []

  -- `has1` tells whether the item has the first key that the query stands for.
  -- Example: If the query is the first key of the item, it is true.
  abbrev pub has1 : {Q : Type 0} → (Q → K1 → Bool) → Q → T → Bool
  has1 stands q x = stands q (of.key1 x)

  abbrev pub has2 : {Q : Type 0} → (Q → K2 → Bool) → Q → T → Bool
  has2 stands q x = stands q (of.key2 x)

  -- `key_tests` has for each rank the test whether an item has the key that the query of this rank stands for.
  -- Example: If the queries are the keys of an item, it passes every test.
  abbrev pub key_tests : {Q1 Q2 : Type 0} → (Q1 → K1 → Bool) → (Q2 → K2 → Bool)
      → Q1 → Q2 → List (T → Bool)
  key_tests stands1 stands2 q1 q2 = has1 stands1 q1 ∷ has2 stands2 q2 ∷ []

  -- `has_both` tells whether the item has both keys that the queries stand for.
  -- Example: If the queries are the keys of the item, it is true.
  abbrev pub has_both : {Q1 Q2 : Type 0} → (Q1 → K1 → Bool) → (Q2 → K2 → Bool)
      → Q1 → Q2 → T → Bool
  has_both stands1 stands2 q1 q2 = every_of (key_tests stands1 stands2 q1 q2)

-- `by_rank` lists what the search of each rank returned. No public clause cites it.
-- Example: If no search found a slot, it is `Vacant` of the cells at which they ended.
abbrev pub by_rank : {F V : Type 0} → Searched (F × F) (V × V) → Searched (List F) (List V)
by_rank (Found found) = Found (found.0 ∷ found.1 ∷ [])
by_rank (Vacant at) = Vacant (at.0 ∷ at.1 ∷ [])
