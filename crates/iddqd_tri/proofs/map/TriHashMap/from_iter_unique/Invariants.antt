-- Made by tests/widths from crates/iddqd_bi/proofs/map/BiHashMap/from_iter_unique/Invariants.antt: change that file.
use Rattle.std.proofs.Common.{◌≤◌, [], length}
use Rattle.iddqd_store.specs.Map.{bag, most_extended}
use Rattle.iddqd_store.specs.Bag.Building.{AddsTo}
use Rattle.iddqd_tri.proofs.map.TriHashMap.from_iter_unique.Given as goal

-- the items that came so far were added
abbrev pub invariant-loop-item : goal.invariant-loop-item
invariant-loop-item g l = record {
  callable : (goal.iterator-loop-item g).can_next l.item-iterator;
  ending : (goal.iterator-loop-item g).is_finite l.item-iterator;
  added : AddsTo g.T.Ranked.ranks [] (bag l.map) l.yielded;
  most : l.map.capacity ≤ most_extended 0 (length (bag l.map));
  builder : g.S.Default.is_default l.map.builder;
}
