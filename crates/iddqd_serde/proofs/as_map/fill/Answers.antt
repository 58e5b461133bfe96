use Rattle.std.proofs.Common.{rules, ◌≡◌, ◌+◌, arith}
use Rattle.serde.specs.Event.{key_begins, map_ends}
use Rattle.serde.specs.Steps.{Gives}
use Rattle.iddqd_store.proofs.CallerLemmas.{length-inserted}
use Rattle.iddqd_serde.proofs.Counting.{HasRead-more}
use Rattle.iddqd_serde.proofs.as_map.fill.Goals as goal

-- the map of serde ends after the entries that were read
pub returns-then-not-branch-clause-reads : goal.returns-then-not-branch-clause-reads
returns-then-not-branch-clause-reads g c =
    let ended : Gives g.F.Format.gives c.loop.from map_ends c.next_entry.new.from = search rules in
    (c.loop.from, c.loop.invariant.0, ended)

-- the map and what was read get one item more
pub loop-preserved : goal.loop-preserved
loop-preserved g c =
    let put = c.in_ok-put.ensures in
    let more = length-inserted (g.M.Collection.listed c.loop.map) (g.M.Collection.listed c.put.new.map) c.in_ok-item.item put.gained in
    let found : Gives g.F.Format.gives c.loop.from key_begins c.next_entry.new.from = search rules in
    let counted : c.next_entry.new.read ≡ c.loop.read + 1 = search rules in
    let agreed : c.agree.new.agreed ≡ c.loop.agreed + 1 = search rules in (
      HasRead-more _ _ _ _ c.args.from.now c.loop.from c.next_entry.new.from _ more c.loop.invariant.0 found,
      λ new. put.builder (c.loop.invariant.1 new),
      omega (arith, more, c.loop.invariant.2, counted),
      omega (arith, more, c.loop.invariant.3, agreed),
    )
