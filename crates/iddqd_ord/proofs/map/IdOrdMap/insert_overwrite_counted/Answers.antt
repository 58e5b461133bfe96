use Rattle.std.proofs.Common.{length, sym, ap, ◌∙◌, arith}
use Rattle.std.proofs.lemmas.Bool.{false≢true}
use Rattle.std.proofs.lemmas.List.{length-set}
use Rattle.iddqd_order.specs.Row.{position}
use Rattle.iddqd_ord.specs.Items.{items}
use Rattle.iddqd_order.proofs.FilterLemmas.{replaced-split, found-split, absent-split}
use Rattle.iddqd_ord.proofs.map.IdOrdMap.insert_overwrite_counted.Goals as goal

pub returns-in-Ok-clause-displaced : goal.returns-in-Ok-clause-displaced
returns-in-Ok-clause-displaced g c =
    let found = rw c.key.ensures at c.in-Ok.ensures.found in
    found-split _ _ _ found _ (c.replace_in.ensures.item _)

pub returns-in-Ok-clause-overwrites : goal.returns-in-Ok-clause-overwrites
returns-in-Ok-clause-overwrites g c =
    let found = rw c.key.ensures at c.in-Ok.ensures.found in
    let m = c.args.self.now in
    let as_many = ap length c.replace_in.ensures.replaced ∙ length-set (items m) (position m.blocks c.in-Ok.place) c.args.item in
    record {
      lists = c.replace_in.ensures.replaced ∙ replaced-split _ _ _ found c.args.item;
      fits = omega (arith, as_many, c.place_for.ensures.fits, c.replace_in.ensures.capacity);
      no_less_room = omega (arith, c.replace_in.ensures.capacity);
      same_room = λ room. c.replace_in.ensures.capacity;
      most = omega (arith, c.replace_in.ensures.capacity);
      no_growth = λ any. c.replace_in.ensures.capacity;
    }

pub returns-in-Ok-insert_or_refuse-clause-displaced : goal.returns-in-Ok-insert_or_refuse-clause-displaced
returns-in-Ok-insert_or_refuse-clause-displaced g c =
    let gap = rw c.key.ensures at c.in-Err.ensures.gap in
    sym (absent-split _ _ _ gap)

pub returns-in-Ok-insert_or_refuse-clause-overwrites : goal.returns-in-Ok-insert_or_refuse-clause-overwrites
returns-in-Ok-insert_or_refuse-clause-overwrites g c =
    let done = c.in-Ok-insert_or_refuse.ensures in
    record {
      lists = done.gains.lists;
      fits = done.gains.fits;
      no_less_room = done.gains.no_less_room;
      same_room = done.gains.same_room;
      most = done.gains.most;
      no_growth = λ any. absurd (false≢true (sym done.free ∙ any));
    }

pub returns-in-Err-insert_or_refuse-clause-reason : goal.returns-in-Err-insert_or_refuse-clause-reason
returns-in-Err-insert_or_refuse-clause-reason g c =
    record { free = c.in-Err-insert_or_refuse.ensures.free; full = c.in-Err-insert_or_refuse.ensures.full }
