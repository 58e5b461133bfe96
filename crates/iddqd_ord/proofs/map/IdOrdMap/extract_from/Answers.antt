use Rattle.std.proofs.Common.{None, length, arith}
use Rattle.std.specs.Fn.{CalledAt}
use Rattle.iddqd_ord.specs.Items.{items}
use Rattle.iddqd_ord.proofs.ExtractLemmas.{extracted, extracted_by, none_extracted}
use Rattle.iddqd_ord.proofs.map.IdOrdMap.extract_from.Goals as goal

pub returns-in_default-clause-extracts_by : goal.returns-in_default-clause-extracts_by
returns-in_default-clause-extracts_by g c =
    let m = c.args.self.now in
    let step = CalledAt g.F.FnMut in
    let end = c.end_place-cursor-inside in
    extracted_by step c.args.f m m c.args.cursor.now end.result None
    (none_extracted step c.args.f m c.args.cursor.now end.result c.entry_from-from.result (length (items m)) (rw (← c.self.view_is, ← c.cursor.view_is) c.entry_from-from.ensures.index)
    (rw c.in_default.is at c.find_from.ensures.finds) (omega arith) end.ensures.last)

pub returns-clause-extracts : goal.returns-clause-extracts
returns-clause-extracts g c =
    let gone = c.remove_in-item.ensures in
    extracted (CalledAt g.F.FnMut) c.args.f c.args.self.now c.remove_in-item.new.self c.args.cursor.now c.remove_in-item.result.1 c.entry_from-from.result c.in-Some.place c.remove_in-item.result.0
    (rw (← c.self.view_is, ← c.cursor.view_is) c.entry_from-from.ensures.index) c.in-Some.ensures.finds gone.within gone.item gone.rest gone.index

pub returns-clause-extracts_by : goal.returns-clause-extracts_by
returns-clause-extracts_by g c =
    let gone = c.remove_in-item.ensures in
    extracted_by (CalledAt g.F.FnMut) c.args.f c.args.self.now c.remove_in-item.new.self c.args.cursor.now c.remove_in-item.result.1 _
    (extracted (CalledAt g.F.FnMut) c.args.f c.args.self.now c.remove_in-item.new.self c.args.cursor.now c.remove_in-item.result.1 c.entry_from-from.result c.in-Some.place c.remove_in-item.result.0
    (rw (← c.self.view_is, ← c.cursor.view_is) c.entry_from-from.ensures.index) c.in-Some.ensures.finds gone.within gone.item gone.rest gone.index)
