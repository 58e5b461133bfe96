use Rattle.std.proofs.Common.{inr, sym}
use Rattle.iddqd_bi.specs.Walk.{to_come}
use Rattle.iddqd_bi.proofs.CallerLemmas.Walks.{first_written}
use Rattle.caller_bi.proofs.walking.write_first_and_count.Goals as goal

-- the first item of the walk is the first of the bag
pub returns-in-Some-clause-written : goal.returns-in-Some-clause-written
returns-in-Some-clause-written g c =
    let walk = c.iter_mut-walk in
    let next = c.in-Some.ensures.next in
    let write : g.row.T.Denot → g.row.T.Denot = λ x. g.T.BiHashItemMut.put x c.args.d in
    let both = first_written walk.result.map.now walk.result.next next.0 _ _ _ walk.ensures.start walk.ensures.gives next.1 write in
    rw (c.map-1.given.1 (sym walk.ensures.same_map), c.drop-walk.ensures) (inr (next.0, to_come walk.result.map.now _, both.0, both.1))
