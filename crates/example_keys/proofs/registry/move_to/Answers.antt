use Rattle.std.proofs.Common.{rules}
use Rattle.iddqd_bi.specs.Map.{bag}
use Rattle.example_keys.proofs.registry.move_to.Goals as goal

-- the other services are those that are left after the removal
pub returns-in-Ok-clause-moved : goal.returns-in-Ok-clause-moved
returns-in-Ok-clause-moved c = λ _.
    (c.in-Some.old, bag c.remove2.new.self, c.in-Some.ensures.taken, c.in-Some.ensures.loses.items, search rules)

pub returns-in-Err-clause-handed_back : goal.returns-in-Err-clause-handed_back
returns-in-Err-clause-handed_back c = (c.in-Some.old, c.in-Some.ensures.taken, search rules, search rules)
