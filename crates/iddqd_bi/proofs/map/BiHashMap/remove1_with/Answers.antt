use Rattle.std.proofs.Common.{arith, sym, refl, ◌∙◌, length}
use Rattle.iddqd_store.proofs.RankLemmas.Costs.{SearchCosts-room, only_search}
use Rattle.iddqd_store.proofs.RankLemmas.Displaced.{paired_at}
use Rattle.iddqd_store.proofs.RankLemmas.Invariant.{IsIndexed-remove, first_rank}
use Rattle.iddqd_store.proofs.RankLemmas.Walks.{once, walk_through}
use Rattle.iddqd_store.proofs.SlotLemmas.Contents.{contents-moves}
use Rattle.iddqd_bi.proofs.MapLemmas.{AreLawful-ranks}
use Rattle.iddqd_bi.proofs.map.BiHashMap.remove1_with.Goals as goal

pub find_by_key-requires : goal.find_by_key-requires
find_by_key-requires g c = record { searchable = first_rank c.self.invariant; names = rw (← c.self.view_is) at c.requires.names; asks = rw (← c.self.view_is) at c.requires.asks }

pub remove-requires-2 : goal.remove-requires-2
remove-requires-2 g c =
    paired_at c.in_ok-slot.slot c.in-Some.item c.hash_in-second_hash.result c.self.invariant.indexes.1.0 c.hash_in-second_hash.ensures (sym c.remove.ensures.value ∙ c.in-Some.is)

pub invariant_of-self : goal.invariant_of-self
invariant_of-self g c =
    let found = sym c.remove.ensures.value ∙ c.in-Some.is in
    let is_hash = c.in_ok-slot.ensures.hashed c.in-Some.item found in
    let is_other = c.hash_in-second_hash.ensures c.in-Some.item found in
    let one = rw (← is_hash) at c.remove_cell.ensures.removed in
    let two = rw (← is_other) at c.remove-2.ensures.removed in
    IsIndexed-remove c.in-Some.item (AreLawful-ranks g.T.BiHashItem g.met.T.K1.Eq.laws g.met.T.K2.Eq.laws) c.self.invariant c.in-Some.ensures.taken.members
    (one, (two, tt))

pub returns-clause-loses : goal.returns-clause-loses
returns-clause-loses g c = record {
  items = rw (← c.self.view_is) (contents-moves c.self.inside.items.slots c.remove.new.self.slots _ _ c.in-Some.ensures.taken.members);
  same_room = rw (← c.self.view_is, c.remove.ensures.capacity, c.remove_cell.ensures.limit, c.remove-2.ensures.limit) refl;
  same_builder = rw (← c.self.view_is) refl;
}

pub returns-clause-costs : goal.returns-clause-costs
returns-clause-costs g c =
    let walk = walk_through 1 _ _ c.self.invariant.indexes.1.0 (once (length c.self.inside.second.pairs) c.remove_cell.new.meter c.remove-2.new.meter (omega (arith, c.remove-2.ensures.probes, c.remove-2.ensures.within))) in
    rw (← c.self.view_is) record {
      between = c.remove_cell.new.meter;
      search = SearchCosts-room _ (omega arith) (c.in_ok-slot.ensures.costs c.remove_cell.new.meter c.remove_cell.ensures.probes);
      rest = omega (arith, walk);
      absent = tt;
    }

pub returns-in_err-slot-clause-costs : goal.returns-in_err-slot-clause-costs
returns-in_err-slot-clause-costs g c =
    rw (← c.self.view_is) record {
      between = c.find_by_key.new.meter;
      search = SearchCosts-room _ (omega arith) (c.in_err-slot.ensures.costs c.find_by_key.new.meter refl);
      rest = omega arith;
      absent = only_search _ _;
    }
