-- What a search by one rank finds, and what it costs.
use Rattle.std.specs.Prelude.{◌≡◌, ℕ, ◌+◌, ◌*◌, ◌/◌, ◌%◌, ◌<◌, ◌≤◌, Bool, List, None, Some, Option, IfNone, length, count_by}
use Rattle.std.specs.Option.{option_and_then}
use Rattle.iddqd_store.specs.declared.index_table.searched.Searched.{Searched}
use Rattle.iddqd_store.specs.declared.index_table.searched.Searched.TheVariants.{Found, Vacant}
use Rattle.iddqd_store.specs.Searched.{IfVacant}
use Rattle.std.proofs.Common.{arith, refl, sym}
use Rattle.iddqd_store.specs.Slots.{contents, get}
use Rattle.std.proofs.lemmas.List.Sorted.{IsPermutation-sym}
use Rattle.iddqd_store.specs.Rank.Index.{IsIndex, passes_at}
use Rattle.iddqd_store.specs.Bag.{IsOnly}
use Rattle.iddqd_store.specs.Rank.{IsSearchable, IsVacantFor, NamesOneByHash, SearchCosts}
use Rattle.iddqd_store.specs.Table.Room.{IsSized}
use Rattle.iddqd_store.specs.Table.Search.{CostsByHash, FindsByHash, IsVacantForHash, RemovalCosts}
use Rattle.iddqd_store.specs.Table.Ring.{gap, stretch}
use Rattle.iddqd_store.specs.Table.{hashes, has_hash, IsFree, Spot, Table}
use Rattle.iddqd_store.proofs.RankLemmas.Search.{search_among}
use Rattle.iddqd_store.proofs.RankLemmas.Index.{crowd_is, length-index}
use Rattle.iddqd_store.proofs.RankLemmas.Probes.{hashes-index, probes_within, probes_within_most}
use Rattle.iddqd_store.proofs.TableLemmas.Spot.{free_permutation}

module _ {T : Type 0} {agree : T → T → Bool} {hash : T → ℕ} {slots : List (Option T)} (table : Table) (rank : IsSearchable agree hash slots table.pairs) where
  pub searches : (test : T → Bool) (h : ℕ) (r : Option ℕ) → NamesOneByHash agree hash h test (contents slots)
      → FindsByHash table h (passes_at test slots) r → IsOnly test (contents slots) (option_and_then (get slots) r)
  searches test h r names finds = search_among agree test hash h slots table.pairs r names.one rank.apart rank.index names.hashed finds.accepted finds.none

  pub costs : (h : ℕ) (r : Option ℕ) (asks asks_then before after : ℕ) → IsSized table → CostsByHash table h r asks asks_then before after
      → SearchCosts hash (contents slots) table.limit h r asks asks_then before after
  costs h r asks asks_then before after sized own = record {
    asked = omega (arith, own.asked, crowd_is hash h slots table.pairs rank.index);
    probes = probes_within hash slots table.pairs (length table.row) table.limit h r before after rank.index sized.size sized.counted (omega (arith, sized.limit)) own.probes;
    at_most = probes_within_most hash slots table.pairs (length table.row) h r before after rank.index own.probes;
  }

  -- a removal by a search costs as much as a search that finds nothing
  pub removal_costs : (h asks asks_then before after : ℕ) → IsSized table → RemovalCosts table h asks asks_then before after
      → SearchCosts {A = ℕ} hash (contents slots) table.limit h None asks asks_then before after
  removal_costs h asks asks_then before after sized own =
      costs h None asks asks_then before after sized record {
        asked = own.asked;
        probes = record { no_cells = own.no_cells; miss = own.probes; hit_least = tt; hit_most = tt };
        within = own.within;
      }

  -- a search that found a cell, and then a removal from it
  pub found_removal : (h at asks asks_then before between after : ℕ) → IsSized table
      → asks_then ≤ asks + count_by (has_hash h) table.pairs → stretch (hashes table.pairs) (length table.row) h ≤ length table.pairs
      → (length table.row ≡ 0 → between ≡ before) → between ≡ before + gap (length table.row) (h % length table.row) at + 1
      → after + gap (length table.row) (h % length table.row) at ≡ between + stretch (hashes table.pairs) (length table.row) h
      → SearchCosts {A = ℕ} hash (contents slots) table.limit h None asks asks_then before after
  found_removal h at asks asks_then before between after sized asked within none search rest =
      removal_costs h asks asks_then before after sized record {
        asked = asked;
        no_cells = λ no. absurd (omega (arith, none no, search));
        probes = λ some. omega (arith, search, rest);
        within = within;
      }

  -- a search that found no cell
  pub missed_removal : (h asks asks_then before after : ℕ) → IsSized table
      → asks_then ≤ asks + count_by (has_hash h) table.pairs → stretch (hashes table.pairs) (length table.row) h ≤ length table.pairs
      → (length table.row ≡ 0 → after ≡ before) → (0 < length table.row → after ≡ before + stretch (hashes table.pairs) (length table.row) h + 1)
      → SearchCosts {A = ℕ} hash (contents slots) table.limit h None asks asks_then before after
  missed_removal h asks asks_then before after sized asked within none miss =
      removal_costs h asks asks_then before after sized record { asked = asked; no_cells = none; probes = miss; within = within }

  -- the cell at which the table's search ended is for the members' hashes, and one of as many cells as the table has
  pub vacant_found : (h : ℕ) (r : Searched ℕ Spot) → IsSized table → IfVacant r (IsVacantForHash table h) → IfVacant r (IsVacantFor hash (contents slots) h)
  vacant_found h (Found at) sized vacant = tt
  vacant_found h (Vacant spot) sized vacant =
      let paired = hashes-index hash slots table.pairs rank.index in
      record {
        same = vacant.hash;
        free = free_permutation _ _ spot paired vacant.vacant;
        fits = omega (arith, vacant.cells, sized.limit, sized.fits, length-index rank.index);
      }

  pub cells_found : (h : ℕ) (r : Searched ℕ Spot) → IsSized table → IfVacant r (IsVacantForHash table h) → IfVacant r (λ spot. spot.cells / 8 * 7 ≡ table.limit)
  cells_found h (Found at) sized vacant = tt
  cells_found h (Vacant spot) sized vacant = rw vacant.cells (sym sized.limit)

-- the place for a pair by the members' hashes is its place in a table that indexes them
pub place_in : {T : Type 0} {hash : T → ℕ} {slots : List (Option T)} {pairs : List (ℕ × ℕ)} {h : ℕ} {spot : Spot} → IsIndex hash slots pairs
    → IsVacantFor hash (contents slots) h spot → IsFree (hashes pairs) spot
place_in {hash = hash} {slots = slots} {pairs = pairs} {spot = spot} index vacant =
    free_permutation _ _ spot (IsPermutation-sym _ _ (hashes-index hash slots pairs index)) vacant.free

-- a search costs no more if there is less room
pub SearchCosts-room : {T A : Type 0} {hash : T → ℕ} {bag : List T} {room h : ℕ} {answer : Option A} {asks asks_then before after : ℕ} (less : ℕ)
    → less ≤ room → SearchCosts hash bag room h answer asks asks_then before after → SearchCosts hash bag less h answer asks asks_then before after
SearchCosts-room less below costs =
    let probes = costs.probes in
    record { asked = costs.asked; probes = (probes.0, probes.1, probes.2, omega (arith, below, probes.3), probes.4); at_most = costs.at_most }

-- a search that was all there is
pub only_search : {A : Type 0} (answer : Option A) (after : ℕ) → IfNone answer (after ≡ after)
only_search None after = refl
only_search (Some x) after = tt
