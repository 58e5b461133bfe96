-- Made by tests/widths from crates/iddqd_bi/proofs/map/iterate/BiHashMapIntoIterator/into_iter/Answers.antt: change that file.
use Rattle.std.proofs.Common.{rules, arith}
use Rattle.std_collections.proofs.IterRuns.{gives_in_order}
use Rattle.iddqd_tri.proofs.map.iterate.TriHashMapIntoIterator.into_iter.Goals as goal

pub returns : goal.returns
returns g c = record { into_iter_gives = (search rules, gives_in_order, search (rules, arith)) }
