use Rattle.std.proofs.Common.{length, ◌<◌, rules, arith}
use Rattle.iddqd_order.proofs.WalkLemmas.{is_walked}
use Rattle.iddqd_sorted.proofs.map.Sorted.iter.Goals as goal

pub over-requires : goal.over-requires
over-requires g c = rw (c.slots.ensures, c.iter.ensures.gives) c.self.invariant.live

pub returns-clause-gives : goal.returns-clause-gives
returns-clause-gives g c = rw (← c.self.view_is, ← c.slots.ensures, ← c.iter.ensures.gives) c.over.ensures.gives

pub returns-clause-walked : goal.returns-clause-walked
returns-clause-walked g c = is_walked

pub returns-clause-ascending : goal.returns-clause-ascending
returns-clause-ascending g c = rw (← c.self.view_is) c.self.invariant.ascending

pub returns-clause-countable : goal.returns-clause-countable
returns-clause-countable g c =
    let same = returns-clause-gives g c in
    let t : length c.iter.result < 18446744073709551616 = search rules in
    rw (← same) (omega (arith, c.over.ensures.as_many, t))
