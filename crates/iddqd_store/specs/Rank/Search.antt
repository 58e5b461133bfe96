-- What a search at one rank says of the slots that it reads.
use Rattle.std.specs.Prelude.{◌≡◌, ℕ, Bool, List, Option}
use Rattle.iddqd_store.specs.declared.index_table.searched.Searched.{Searched}
use Rattle.iddqd_store.specs.Rank.{Costs, IsVacantFor, SearchCosts}
use Rattle.iddqd_store.specs.Rank.Index.{HasHash}
use Rattle.iddqd_store.specs.Searched.{found_of, IfFound, IfVacant}
use Rattle.iddqd_store.specs.Slots.{contents}
use Rattle.iddqd_store.specs.Slots.Found.{FoundAt}
use Rattle.iddqd_store.specs.Table.{Spot}
use Rattle.iddqd_store.specs.Table.Limit.{capacity_of}

-- A search by this hash found the slot of the item that passes the test, and the item has the hash. Or no item passes
-- it, and a pair with the hash goes into the cell at which the search ended, in a table for `capacity` pairs. No public
-- clause of a map cites it.
-- Example: For the hash of the first key 2 it found the slot of (2, 20), and compared one key.
pub record IsSearch {T : Type 0} (hash_of : T → ℕ) (slots : List (Option T)) (capacity hash : ℕ) (test : T → Bool)
    (answer : Searched ℕ Spot) (before after : Costs) : Type 0 where
  pub found : FoundAt test slots (found_of answer)
  pub hashed : IfFound answer (λ slot. HasHash hash_of slots slot hash)
  pub vacant : IfVacant answer (IsVacantFor hash_of (contents slots) hash)
  pub cells : IfVacant answer (λ at. capacity_of at.cells ≡ capacity)
  pub costs : SearchCosts hash_of (contents slots) capacity hash (found_of answer) before.asked after.asked before.probed after.probed
