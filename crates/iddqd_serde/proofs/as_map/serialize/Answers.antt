use Rattle.std.proofs.Common.{◌∙◌, Some, subst, sym}
use Rattle.std.proofs.lemmas.List.{length-map}
use Rattle.std.proofs.lemmas.Result.{on_ok_weaker}
use Rattle.serde.specs.Event.{Logs, map_begins, WritesEntry}
use Rattle.iddqd_serde.proofs.Counting.{WritesEach-map, WritesEach-visits}
use Rattle.iddqd_serde.proofs.as_map.serialize.Goals as goal

pub returns : goal.returns
returns g c =
    let written = g.Out.Serializer.written in
    let items = g.M.Collection.listed c.args.map.now in
    let entry = WritesEntry g.M.FirstKey.Described.writes g.M.Item.Described.writes in
    let with_key : g.row.M-Item.Denot → g.row.M-FirstKey.Denot × g.row.M-Item.Denot = λ x. (g.M.Collection.first_key x, x) in
    let count = c.item_count.ensures ∙ sym (length-map items with_key) in
    let begun = subst (λ n. Logs (written c.args.out.now) (written c.begin_map.new.self) (map_begins (Some n))) count c.in_ok-begin_map.ensures in
    let each = WritesEach-map entry with_key _ _ _ (WritesEach-visits (λ x. entry (g.M.Collection.first_key x, x)) written _ _ _ c.in_ok-visit_each.ensures) in
    on_ok_weaker c.end_map.result (λ ended. (_, _, begun, each, ended)) c.end_map.ensures
