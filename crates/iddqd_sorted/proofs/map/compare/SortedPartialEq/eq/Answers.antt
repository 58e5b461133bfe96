use Rattle.std.proofs.Common.{sym, ◌∙◌}
use Rattle.std.specs.Cmp.Lexicographic.{unequal}
use Rattle.iddqd_sorted.specs.Items.{items}
use Rattle.iddqd_sorted.proofs.map.compare.SortedPartialEq.eq.Goals as goal

pub returns-then-len : goal.returns-then-len
returns-then-len g c = sym (unequal g.M.Item.PartialEq.eq (items c.args.self.now) (items c.args.other.now) (λ e. c.if-len.true (c.len.ensures.value ∙ e ∙ sym c.len-2.ensures.value)))
