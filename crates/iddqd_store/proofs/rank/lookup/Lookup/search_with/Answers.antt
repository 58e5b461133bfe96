use Rattle.std.proofs.Common.{inl, rules}
use borrow.Author.Rules.{lives}
use Rattle.iddqd_store.specs.declared.index_table.searched.Searched.TheVariants.{Vacant}
use Rattle.iddqd_store.proofs.RankLemmas.Index.{hash_at, own_slots}
use Rattle.iddqd_store.proofs.SlotLemmas.Contents.{content_at}
use Rattle.iddqd_store.proofs.RankLemmas.Costs.{searches, costs, vacant_found, cells_found}
use Rattle.iddqd_store.proofs.rank.lookup.Lookup.search_with.Goals as goal

pub returns-in-Found-clause-found : goal.returns-in-Found-clause-found
returns-in-Found-clause-found g c =
    rw (← c.self.view_is) (searches _ c.self.invariant _ c.args.hash _ (rw (← c.self.view_is) at c.requires.names) c.in-Found.ensures.found)

pub returns-in-Vacant-clause-found : goal.returns-in-Vacant-clause-found
returns-in-Vacant-clause-found g c =
    rw (← c.self.view_is) (searches _ c.self.invariant _ c.args.hash _ (rw (← c.self.view_is) at c.requires.names) c.in-Vacant.ensures.found)

pub returns-in-Found-clause-costs : goal.returns-in-Found-clause-costs
returns-in-Found-clause-costs g c =
    let table = c.in-Found.ensures in
    let own = table.costs.probes in
    rw (← c.self.view_is) (costs _ c.self.invariant c.args.hash _ _ _ _ _ table.sized
    (record {
      asked = search (rules, lives, table.costs.asked);
      probes = record { no_cells = own.no_cells; miss = own.miss; hit_least = own.hit_least; hit_most = own.hit_most };
      within = table.costs.within;
    }))

pub returns-in-Vacant-clause-costs : goal.returns-in-Vacant-clause-costs
returns-in-Vacant-clause-costs g c =
    let table = c.in-Vacant.ensures in
    let own = table.costs.probes in
    rw (← c.self.view_is) (costs _ c.self.invariant c.args.hash _ _ _ _ _ table.sized
    (record {
      asked = search (rules, lives, table.costs.asked);
      probes = record { no_cells = own.no_cells; miss = own.miss; hit_least = own.hit_least; hit_most = own.hit_most };
      within = table.costs.within;
    }))

pub returns-in-Found-clause-hashed : goal.returns-in-Found-clause-hashed
returns-in-Found-clause-hashed g c = rw (← c.self.view_is) (λ x stands. hash_at c.in-Found.found.0 c.args.hash x c.self.invariant.index c.in-Found.ensures.found.found stands)

pub returns-in-Vacant-clause-vacant : goal.returns-in-Vacant-clause-vacant
returns-in-Vacant-clause-vacant g c = rw (← c.self.view_is) (vacant_found _ c.self.invariant c.args.hash (Vacant c.in-Vacant.at) c.in-Vacant.ensures.sized c.in-Vacant.ensures.vacant)

pub returns-in-Vacant-clause-cells : goal.returns-in-Vacant-clause-cells
returns-in-Vacant-clause-cells g c = rw (← c.self.view_is) (cells_found _ c.self.invariant c.args.hash (Vacant c.in-Vacant.at) c.in-Vacant.ensures.sized c.in-Vacant.ensures.vacant)

pub find_cell-requires-clause-own : goal.find_cell-requires-clause-own
find_cell-requires-clause-own g c = inl (own_slots c.self.invariant.index)

pub find_cell-requires-clause-asks : goal.find_cell-requires-clause-asks
find_cell-requires-clause-asks g c = λ slot there. (
  c.self.invariant.apart,
  λ x here.
      let asks = rw (← c.self.view_is) at c.requires.asks in
      asks x (content_at _ slot x here) (hash_at slot c.args.hash x c.self.invariant.index there here),
)
