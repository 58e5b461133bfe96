use Rattle.std.proofs.Common.{rules, ◌≡◌, List, [], ◌∷◌, refl, ap}
use Rattle.std.specs.Prelude.{codes, map, string_bytes}
use Rattle.iddqd_text.specs.Printed.{items_text}
use Rattle.iddqd_text.proofs.Printing.{items_end}
use Rattle.iddqd_text.proofs.print.displaced_line.Goals as goal

map-same : {T : Type 0} (items : List T) → map (λ item. item) items ≡ items
map-same [] = refl
map-same (item ∷ items) = ap (λ rest. item ∷ rest) (map-same items)

pub returns-in-None : goal.returns-in-None
returns-in-None g c =
    items_end g.T.Numbers.numbers (λ item. item) (g.G.ShortList.list c.loop-item.left) c.pop_front.result
    (string_bytes c.loop-item.line) (codes "out") (items_text g.T.Numbers.numbers (g.G.ShortList.list c.args.displaced)) (codes "\n")
    (string_bytes c.push_str-in-None.new.self) c.pop_front.ensures.front c.in-None.is (search rules) (rw (map-same (g.G.ShortList.list c.loop-item.left)) c.loop-item.invariant)
