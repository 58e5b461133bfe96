-- What differs between two bags, whose items are paired off by equal keys of one rank.
use Rattle.std.specs.Prelude.{◌≡◌, ◌≤◌, ◌+◌, ◌*◌, ℕ, Bool, true, not, List, ◌++◌, map, filter, length, sum_by, All, IsPermutation}
use Rattle.std.specs.List.{list_any}
use Rattle.iddqd_store.specs.Bag.{crowd}
use Rattle.iddqd_store.specs.Rank.{Costs}
use Rattle.iddqd_store.specs.declared.differing.Difference.{Difference}

module _ {T : Type 0} (agree : T → T → Bool) where
  -- `unpaired` lists the items of the bag that agree with no item of the other bag.
  -- Example: For the first rank, the bag and (1, 40), (4, 10) it is (2, 20), (3, 30).
  abbrev pub unpaired : List T → List T → List T
  unpaired bag other = filter (λ x. not (list_any (agree x) other)) bag

  -- `paired` lists the items of the bag that agree with an item of the other bag.
  -- Example: For the first rank, the bag and (1, 40), (4, 10) it is (1, 10).
  abbrev pub paired : List T → List T → List T
  paired bag other = filter (λ x. list_any (agree x) other) bag

  -- The new bag gained the items `added`, whose keys are new, the old bag lost the items `removed`, whose keys are gone,
  -- and the other items of both bags are in pairs that agree, those of the old bag in its order.
  -- Example: For the first rank, the bag and (1, 40), (4, 10), it was (4, 10) that was added, (2, 20) and (3, 30) were
  -- removed, and (1, 10) is in a pair with (1, 40).
  pub record IsDifference (old new : List T) (difference : Difference T) : Type 0 where
    pub added : map (λ x. x.now) difference.added.items ≡ unpaired new old
    pub removed : map (λ x. x.now) difference.removed.items ≡ unpaired old new
    pub agree_in_pairs : All (λ p. agree p.before.now p.after.now ≡ true) difference.common.items
    pub before : map (λ p. p.before.now) difference.common.items ≡ paired old new
    pub old_items : IsPermutation old (map (λ x. x.now) difference.removed.items ++ map (λ p. p.before.now) difference.common.items)
    pub new_items : IsPermutation new (map (λ x. x.now) difference.added.items ++ map (λ p. p.after.now) difference.common.items)

-- Each item of the list was searched for once in the bag, by the hash of its key. Each search compared at most as many
-- keys as items of the bag have the hash, and probed at most one cell more than there are items in the bag.
-- Example: For a list of 2 items, a bag of 3 and a hash of its own for each key it compared at most 2 keys, and probed at
-- most 8 cells.
pub record SearchesEach {T : Type 0} (hash_of : T → ℕ) (bag xs : List T) (before after : Costs) : Type 0 where
  pub asked : after.asked ≤ before.asked + sum_by (λ x. crowd hash_of bag (hash_of x)) xs
  pub probed : after.probed ≤ before.probed + length xs * (length bag + 1)
