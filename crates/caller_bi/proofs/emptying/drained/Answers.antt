use Rattle.std.proofs.Common.{refl, ◌∙◌}
use Rattle.iddqd_bi.specs.Map.{bag}
use Rattle.iddqd_bi.proofs.CallerLemmas.Extracting.{popped-end, popped-start}
use Rattle.caller_bi.proofs.emptying.drained.Goals as goal

pub loop-item-init : goal.loop-item-init
loop-item-init g c = record {
  popped = rw (c.new-at.ensures, c.in_ok-items.ensures.items) (popped-start c.args.map.now);
  room = c.in_ok-items.ensures.exact ∙ c.len.ensures.value;
  capacity = refl;
}

-- none is left
pub returns-clause-items : goal.returns-clause-items
returns-clause-items g c =
    let at = c.loop-item in
    (popped-end at.map c.pop_from.new.self at.at c.pop_from.new.cursor (bag c.args.map.now) at.items.items c.in_default.ensures.pops_from at.invariant.popped).1
