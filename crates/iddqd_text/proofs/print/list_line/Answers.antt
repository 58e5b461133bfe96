use Rattle.std.proofs.Common.{rules}
use Rattle.std.specs.Prelude.{codes, string_bytes}
use Rattle.iddqd_text.specs.Printed.{items_text}
use Rattle.iddqd_text.specs.Sorted.{by_first_key}
use Rattle.iddqd_text.proofs.Printing.{items_more, items_past}
use Rattle.iddqd_text.proofs.print.list_line.Goals as goal

pub loop-item-init : goal.loop-item-init
loop-item-init g c = search rules

pub loop-item-preserved : goal.loop-item-preserved
loop-item-preserved g c =
    items_more g.T.Numbers.numbers c.deref-item-items.result.now c.loop-item.item-index c.item-item.result (string_bytes c.loop-item.line) (string_bytes c.push_item.new.line) _
    c.loop-item-test.true (search rules) c.in_ok-push_item.ensures c.loop-item.invariant

pub returns : goal.returns
returns g c =
    items_past g.T.Numbers.numbers c.deref-item-items.result.now c.loop-item.item-index (string_bytes c.loop-item.line)
    (codes "list") (items_text g.T.Numbers.numbers (by_first_key g.T.Numbers.numbers c.args.items)) (codes "\n")
    (string_bytes c.push_str-2.new.self) c.loop-item-test.false (search rules) c.loop-item.invariant
