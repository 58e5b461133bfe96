use Rattle.iddqd_ord.specs.Heads.{headed_side}
use Rattle.iddqd_ord.proofs.headed.compare_headed.Goals as goal

pub returns-in_default : goal.returns-in_default
returns-in_default c = headed_side c.args.text.now c.args.other.now _ (λ i. (c.type_inv.text i).fits) (λ i. (c.type_inv.other i).fits) (rw (← c.requires.head, ← c.requires.other) c.cmp.ensures) c.in_default.not-Equal
