use Rattle.std.proofs.Common.{rules}
use Rattle.std.specs.Prelude.{codes, map, string_bytes}
use Rattle.iddqd_text.specs.Printed.{items_text}
use Rattle.iddqd_text.proofs.Printing.{items_end}
use Rattle.iddqd_text.proofs.print.duplicates_line.Goals as goal

pub returns-in-None : goal.returns-in-None
returns-in-None g c =
    items_end g.T.Numbers.numbers (λ item. item.now) (g.L.ShortList.list c.loop-item.left) c.pop_front.result (string_bytes c.loop-item.line)
    (codes "dup") (items_text g.T.Numbers.numbers (map (λ item. item.now) (g.L.ShortList.list c.args.duplicates))) (codes "\n")
    (string_bytes c.push_str-in-None.new.self) c.pop_front.ensures.front c.in-None.is (search rules) c.loop-item.invariant
