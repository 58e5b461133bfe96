use Rattle.std.proofs.Common.{sym, arith}
use Rattle.iddqd_ord.specs.Items.{items}
use Rattle.iddqd_order.specs.Row.{position}
use Rattle.iddqd_ord.proofs.LentLemmas.{item_there, found_only, found_replaced}
use Rattle.iddqd_order.proofs.FilterLemmas.{absent-split}
use Rattle.iddqd_ord.proofs.map.IdOrdMap.find_place.Goals as goal

pub returns-in-Ok-clause-found : goal.returns-in-Ok-clause-found
returns-in-Ok-clause-found g c =
    let m = c.args.self.now in
    let there = item_there (items m) (position m.blocks c.in-Ok.place) (omega (arith, c.in-Ok.ensures.found.in_range)) in
    rw there.1 (found_only _ _ _ c.in-Ok.ensures.found there.0 there.1)

pub returns-in-Ok-clause-index : goal.returns-in-Ok-clause-index
returns-in-Ok-clause-index g c = λ y.
    (let m = c.args.self.now in
    let there = item_there (items m) (position m.blocks c.in-Ok.place) (omega (arith, c.in-Ok.ensures.found.in_range)) in
    found_replaced _ _ _ c.in-Ok.ensures.found there.0 there.1 y)

pub returns-in-Err-clause-found : goal.returns-in-Err-clause-found
returns-in-Err-clause-found g c = sym (absent-split _ _ _ c.in-Err.ensures.gap)
