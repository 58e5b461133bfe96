-- Made by tests/widths from crates/iddqd_bi/proofs/map/BiHashMap/extract_from/Invariants.antt: change that file.
use Rattle.std.proofs.Common.{◌≡◌, length}
use Rattle.std.specs.Fn.{CalledAt}
use Rattle.iddqd_store.specs.Map.Walk.{to_come}
use Rattle.iddqd_store.proofs.BagLemmas.Calling.{TakesEach}
use Rattle.iddqd_store.proofs.MapLemmas.Extracting.{HasRejected}
use Rattle.iddqd_tri.proofs.map.TriHashMap.extract_from.Given as goal

abbrev pub invariant-loop-slot : goal.invariant-loop-slot
invariant-loop-slot g l = record {
  rejected : HasRejected (CalledAt g.F.FnMut) l.fn.f l.self l.fn.cursor l.f l.cursor;
  callable : TakesEach g.F.FnMut l.f (to_come l.self l.cursor);
  same : l.self ≡ l.fn.self;
}

abbrev pub decreases-loop-slot : goal.decreases-loop-slot
decreases-loop-slot g l = length (to_come l.self l.cursor)
