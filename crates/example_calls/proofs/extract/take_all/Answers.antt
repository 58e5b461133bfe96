use Rattle.std.proofs.Common.{refl, ◌∙◌}
use Rattle.iddqd_id.specs.Map.{bag}
use Rattle.iddqd_id.proofs.CallerLemmas.Extracting.{popped-end, popped-start}
use Rattle.example_calls.proofs.extract.take_all.Goals as goal

pub loop-task-init : goal.loop-task-init
loop-task-init c = record {
  popped = rw (c.new-at.ensures, c.in_ok-all.ensures.items) (popped-start c.args.tasks.now);
  room = c.in_ok-all.ensures.exact ∙ c.len.ensures.value;
  capacity = refl;
}

-- no item is left
pub returns-clause-items : goal.returns-clause-items
returns-clause-items c =
    let at = c.loop-task in
    (popped-end at.tasks c.pop_from.new.self at.at c.pop_from.new.cursor (bag c.args.tasks.now) at.all.items c.in_default.ensures.pops_from at.invariant.popped).1
