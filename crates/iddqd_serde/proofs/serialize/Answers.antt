use Rattle.std.proofs.Common.{Some, subst}
use Rattle.std.proofs.lemmas.Result.{on_ok_weaker}
use Rattle.serde.specs.Event.{Logs, seq_begins}
use Rattle.iddqd_serde.proofs.Counting.{WritesEach-visits}
use Rattle.iddqd_serde.proofs.serialize.Goals as goal

pub returns : goal.returns
returns g c =
    let written = g.Out.Serializer.written in
    let begun = subst (λ n. Logs (written c.args.out.now) (written c.begin_seq.new.self) (seq_begins (Some n))) c.item_count.ensures c.in_ok-begin_seq.ensures in
    let each = WritesEach-visits g.M.Item.Described.writes written _ _ _ c.in_ok-visit_each.ensures in
    on_ok_weaker c.end_seq.result (λ ended. (_, _, begun, each, ended)) c.end_seq.ensures
