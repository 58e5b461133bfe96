-- What a search at one rank said holds in the map that it was made in.
use Rattle.std.specs.Prelude.{◌≡◌, ◌≤◌, ℕ, Bool, List, Option, IfSome}
use Rattle.std.proofs.Common.{refl}
use Rattle.iddqd_store.specs.declared.index_table.searched.Searched.{Searched}
use Rattle.iddqd_store.specs.declared.index_table.searched.Searched.TheVariants.{Found, Vacant}
use Rattle.iddqd_store.specs.Rank.{Costs, IsHashed, IsVacantFor, SearchCosts, FoundByHash}
use Rattle.iddqd_store.specs.Rank.Index.{HasHash}
use Rattle.iddqd_store.specs.Rank.Search.{IsSearch}
use Rattle.iddqd_store.specs.Searched.{found_of, IfFound, IfVacant}
use Rattle.iddqd_store.specs.Slots.{contents}
use Rattle.iddqd_store.specs.Slots.Found.{FoundAt}
use Rattle.iddqd_store.specs.Table.{Spot}
use Rattle.iddqd_store.specs.Table.Limit.{capacity_of}
use Rattle.iddqd_store.proofs.RankLemmas.Costs.{SearchCosts-room}

-- what a search says in a map of this capacity, which may be less than that of the table, and with its answer as `at` has it
pub record IsSearchIn {T : Type 0} (hash_of : T → ℕ) (slots : List (Option T)) (capacity hash : ℕ) (test : T → Bool)
    (answer : Searched ℕ Spot) (at : FoundByHash) (before after : Costs) : Type 0 where
  pub found : FoundAt test slots at.slot
  pub same : at.hash ≡ hash
  pub hashed : IsHashed hash_of slots at
  pub vacant : IfVacant answer (IsVacantFor hash_of (contents slots) hash)
  pub cells : IfVacant answer (λ spot. capacity ≤ capacity_of spot.cells)
  pub costs : SearchCosts hash_of (contents slots) capacity hash at.slot before.asked after.asked before.probed after.probed

module _ {T B : Type 0} (hash_of : B → T → ℕ) {searched slots : List (Option T)} {b builder : B} {room capacity k hash : ℕ} {test : T → Bool} {before after : Costs} where
  pub search_in : {answer : Searched ℕ Spot} {at : FoundByHash} {slot : Option ℕ} → at ≡ record { slot = slot; hash = k } → slot ≡ found_of answer
      → searched ≡ slots → b ≡ builder → capacity ≤ room → k ≡ hash → IsSearch (hash_of b) searched room k test answer before after
      → IsSearchIn (hash_of builder) slots capacity hash test answer at before after
  search_in {answer = r} is ends same also below hashes own = rw (← same, ← also, ← hashes, is, ends) record {
    found = own.found;
    same = refl;
    hashed = of r own.hashed;
    vacant = own.vacant;
    cells = wide r own.cells;
    costs = SearchCosts-room _ below own.costs;
  }
    where
      of : (s : Searched ℕ Spot) → IfFound s (λ slot. HasHash (hash_of b) searched slot k) → IfSome (found_of s) (λ slot. HasHash (hash_of b) searched slot k)
      of (Found x) holds = holds
      of (Vacant at) holds = tt

      wide : (s : Searched ℕ Spot) → IfVacant s (λ at. capacity_of at.cells ≡ room) → IfVacant s (λ at. capacity ≤ capacity_of at.cells)
      wide (Found x) holds = tt
      wide (Vacant at) holds = rw holds below
