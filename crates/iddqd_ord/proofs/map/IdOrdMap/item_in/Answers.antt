use Rattle.iddqd_ord.specs.Items.{items}
use Rattle.iddqd_order.specs.Row.{position}
use Rattle.iddqd_order.proofs.RetainLemmas.{drop_here}
use Rattle.iddqd_ord.proofs.map.IdOrdMap.item_in.Goals as goal

pub returns-clause-first : goal.returns-clause-first
returns-clause-first g c =
    let x = c.entry_in.result.now in
    rw (← c.self.view_is) (drop_here (items c.self.inside.items) (position c.self.inside.items.blocks c.args.place) x c.entry_in.ensures.within (c.entry_in.ensures.value x))
