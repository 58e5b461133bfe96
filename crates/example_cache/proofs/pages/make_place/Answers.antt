use Rattle.std.proofs.Common.{rules, arith}
use Rattle.iddqd_sorted.specs.Items.{items}
use Rattle.example_cache.proofs.Uses.{fewer_others, oldest}
use Rattle.example_cache.proofs.pages.make_place.Goals as goal

pub returns-clause-evicted : goal.returns-clause-evicted
returns-clause-evicted c =
    let first = c.in-Some.ensures.parts in
    rw first (oldest c.in-Some.gone (items c.pop_first.new.self) (rw first at c.len.ensures.ascending))

pub returns-then-is_taken-clause-place : goal.returns-then-is_taken-clause-place
returns-then-is_taken-clause-place c =
    let fewer = fewer_others (items c.args.pages.now) c.args.page.now (search rules) in
    rw (c.remove2.ensures.rest, c.remove1.ensures.rest) (omega (arith, fewer, c.requires.bounded))
