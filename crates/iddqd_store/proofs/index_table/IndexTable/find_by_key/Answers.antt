use Rattle.std.proofs.Common.{arith, inl, rules, ℕ, Bool}
use borrow.Author.Rules.{lives}
use Rattle.iddqd_store.proofs.RankLemmas.Costs.{found_removal, missed_removal, searches}
use Rattle.iddqd_store.proofs.RankLemmas.Index.{hash_at, own_slots}
use Rattle.iddqd_store.proofs.SlotLemmas.Contents.{content_at}
use Rattle.iddqd_store.proofs.index_table.IndexTable.find_by_key.Goals as goal

pub find_cell-requires-clause-own : goal.find_cell-requires-clause-own
find_cell-requires-clause-own g c = inl (own_slots c.requires.searchable.index)

pub find_cell-requires-clause-asks : goal.find_cell-requires-clause-asks
find_cell-requires-clause-asks g c = λ slot there. (
  c.requires.searchable.apart,
  λ x here. c.requires.asks x (content_at _ slot x here) (hash_at slot c.args.hash x c.requires.searchable.index there here),
)

pub returns-in-Found-clause-found : goal.returns-in-Found-clause-found
returns-in-Found-clause-found g c = record {
  only = searches c.args.self.now c.requires.searchable _ c.args.hash _ c.requires.names c.in-Found.ensures.found;
  live = search rules;
}

pub returns-in-Vacant-clause-found : goal.returns-in-Vacant-clause-found
returns-in-Vacant-clause-found g c = record {
  only = searches c.args.self.now c.requires.searchable _ c.args.hash _ c.requires.names c.in-Vacant.ensures.found;
  live = tt;
}

pub returns-in-Found-clause-hashed : goal.returns-in-Found-clause-hashed
returns-in-Found-clause-hashed g c = λ x stands. hash_at c.in-Found.found.0 c.args.hash x c.requires.searchable.index c.in-Found.ensures.found.found stands

pub returns-in-Found-clause-costs : goal.returns-in-Found-clause-costs
returns-in-Found-clause-costs g c = λ after removed.
    let table = c.in-Found.ensures in
    found_removal c.args.self.now c.requires.searchable c.args.hash c.in-Found.found.1 _ _ _ _ after table.sized
    (search (rules, lives, table.costs.asked)) table.costs.within table.costs.probes.no_cells table.probes removed

pub returns-in-Vacant-clause-costs : goal.returns-in-Vacant-clause-costs
returns-in-Vacant-clause-costs g c = λ after removed.
    let table = c.in-Vacant.ensures in
    rw removed (missed_removal c.args.self.now c.requires.searchable c.args.hash _ _ _ _ table.sized
    (search (rules, lives, table.costs.asked)) table.costs.within table.costs.probes.no_cells table.costs.probes.miss)
