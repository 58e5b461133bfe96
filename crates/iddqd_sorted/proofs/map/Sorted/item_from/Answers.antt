use Rattle.iddqd_order.specs.Row.{position}
use Rattle.iddqd_sorted.specs.Items.{items}
use Rattle.iddqd_order.proofs.RetainLemmas.{drop_here}
use Rattle.iddqd_sorted.proofs.map.Sorted.item_from.Goals as goal

pub returns-clause-first : goal.returns-clause-first
returns-clause-first g c =
    let x = c.item_in.result.now in
    drop_here (items c.args.self.now) (position c.args.self.now.blocks c.args.place) x c.item_in.ensures.within (c.item_in.ensures.item x)

pub returns-clause-item : goal.returns-clause-item
returns-clause-item g c = c.item_in.ensures.item c.item_in.result.now
