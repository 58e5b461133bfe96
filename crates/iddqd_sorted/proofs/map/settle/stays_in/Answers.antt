use Rattle.std.proofs.Common.{◌≡◌, true, rules}
use Rattle.iddqd_order.specs.Row.{entries_in, position}
use Rattle.iddqd_order.proofs.PlaceLemmas.{position-below}
use Rattle.iddqd_sorted.proofs.Staying.{gap_left}
use Rattle.iddqd_sorted.proofs.map.settle.stays_in.Goals as goal

pub returns-clause-gap : goal.returns-clause-gap
returns-clause-gap g c = λ stays.
    (let blocks = c.args.order.now.blocks in
    let above : c.is_above_previous.result ≡ true = search rules in
    gap_left (g.C.Compare.order c.args.sought.now) (entries_in c.args.order.now) (position blocks c.args.place) (position-below blocks c.args.place c.requires.entry)
    (c.is_above_previous.ensures.lower above) (c.is_below_next.ensures.higher stays))
