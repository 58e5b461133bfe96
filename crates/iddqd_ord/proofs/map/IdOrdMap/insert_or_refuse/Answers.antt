use Rattle.std.proofs.Common.{◌≤◌, ap, length, ◌∙◌, sym, arith}
use Rattle.std.specs.Prelude.{slice_get}
use Rattle.std.proofs.lemmas.List.Edits.{length-insert}
use Rattle.iddqd_order.specs.Row.{position}
use Rattle.iddqd_ord.specs.Items.{OrdMap, items}
use Rattle.iddqd_ord.proofs.GapLemmas.{inserted_there}
use Rattle.iddqd_order.proofs.FilterLemmas.{inserted-split, any-absent}
use Rattle.iddqd_ord.proofs.map.IdOrdMap.insert_or_refuse.Goals as goal

pub returns-in-Err-clause-free : goal.returns-in-Err-clause-free
returns-in-Err-clause-free g c = any-absent _ _ _ c.requires.gap

pub returns-in-Ok-clause-free : goal.returns-in-Ok-clause-free
returns-in-Ok-clause-free g c = any-absent _ _ _ c.requires.gap

pub returns-in-Ok-clause-gains : goal.returns-in-Ok-clause-gains
returns-in-Ok-clause-gains g c =
    let m = c.args.self.now in
    let gap = c.requires.gap in
    let inserted = rw c.make_room.ensures.blocks at c.insert_into.ensures.inserted in
    let more = ap length inserted ∙ length-insert (items m) (position m.blocks c.args.place) c.args.item (omega (arith, gap.in_range)) in
    record {
      lists = inserted ∙ inserted-split _ _ _ gap c.args.item;
      more = more;
      no_less_room = omega (arith, c.insert_into.ensures.capacity, c.make_room.ensures.no_less_room);
      same_room = λ room. c.insert_into.ensures.capacity ∙ ap (λ (m : OrdMap g.row.T.Denot). m.capacity) (c.make_room.ensures.same_room room);
      most = omega (arith, c.insert_into.ensures.capacity, c.make_room.ensures.most);
      fits = omega (arith, more, c.in-Ok.ensures.room, c.insert_into.ensures.capacity);
    }

pub returns-in-Ok-clause-item : goal.returns-in-Ok-clause-item
returns-in-Ok-clause-item g c =
    let xs = items c.make_room.new.self in
    let i = position c.make_room.new.self.blocks c.args.place in
    let gap = rw (sym c.make_room.ensures.blocks) at c.requires.gap in
    let le : i ≤ length xs = omega (arith, gap.in_range) in
    ap (slice_get (items c.insert_into.new.self)) c.insert_into.ensures.at
    ∙ inserted_there xs (items c.insert_into.new.self) i c.args.item le c.insert_into.ensures.inserted
