use Rattle.std.proofs.Common.{◌≡◌, length, ap, arith, rules, sym, ◌∙◌}
use Rattle.std.specs.Ordering.{is_eq}
use Rattle.std.specs.declared.cmp.Ordering.TheVariants.{Equal}
use Rattle.std.proofs.lemmas.Bool.{false≢true}
use Rattle.std.proofs.lemmas.List.Edits.{length-remove}
use Rattle.iddqd_order.specs.Row.{position}
use Rattle.iddqd_ord.specs.Items.{items}
use Rattle.iddqd_order.proofs.FilterLemmas.{any-absent, any-found, found-split}
use Rattle.iddqd_ord.proofs.RekeyLemmas.{absent_then, is_eq-not, others_taken, PutsAmong-moved, PutsAmong-replaced}
use Rattle.iddqd_ord.proofs.map.IdOrdMap.rekey_counted.Goals as goal

pub returns-in_default-clause-reason : goal.returns-in_default-clause-reason
returns-in_default-clause-reason g c = any-absent _ _ _ c.in_default.ensures.gap

pub returns-in-Equal-clause-found : goal.returns-in-Equal-clause-found
returns-in-Equal-clause-found g c = found-split _ _ _ c.in-Ok.ensures.found _ (c.replace_in.ensures.item _)

pub returns-in-Equal-clause-puts : goal.returns-in-Equal-clause-puts
returns-in-Equal-clause-puts g c =
    let key = g.T.IdOrdItem.key in
    let same : g.T.Key.Ord.cmp (key c.item_in.result.now) (key c.args.item) ≡ Equal = search rules in
    rw c.replace_in.ensures.replaced (PutsAmong-replaced g.T.IdOrdItem g.met.T.Key.Ord.total _ _ _ c.args.item c.in-Ok.ensures.found c.place_of.ensures.ascending
    (λ d. ap (λ y. g.T.Key.Ord.cmp (key y) (key c.args.item)) (sym (c.item_in.ensures.item d)) ∙ same))

pub returns-in-Ok-place_for-clause-reason : goal.returns-in-Ok-place_for-clause-reason
returns-in-Ok-place_for-clause-reason g c =
    let key = g.T.IdOrdItem.key in
    let told : c.cmp.result ≡ g.T.Key.Ord.cmp (key c.item_in.result.now) (key c.args.item) = search rules in
    let fails = ap is_eq (sym told) ∙ is_eq-not c.cmp.result c.in_default-cmp.not-Equal in
    let split = c.in-Ok.ensures.found in
    let there = rw c.key-in_default-cmp.ensures at c.in-Ok-place_for.ensures.found in
    let others = others_taken g.T.IdOrdItem g.T.Key.Ord.cmp _ _ _ c.args.item split c.item_in.result.now (c.item_in.ensures.item _) fails in
    (any-found _ _ _ split, sym others ∙ any-found _ _ _ there)

pub returns-in-Ok-place_for-clause-asked : goal.returns-in-Ok-place_for-clause-asked
returns-in-Ok-place_for-clause-asked g c = λ r few. omega (arith, c.place_of.ensures.asked r few, c.tick.ensures, c.place_for.ensures.asked r few)

pub unreachable-requires : goal.unreachable-requires
unreachable-requires g c =
    let key = g.T.IdOrdItem.key in
    let told : c.cmp.result ≡ g.T.Key.Ord.cmp (key c.item_in.result.now) (key c.args.item) = search rules in
    let fails = ap is_eq (sym told) ∙ is_eq-not c.cmp.result c.in_default-cmp.not-Equal in
    let none = any-absent _ _ _ (rw c.key-in_default-cmp.ensures at c.in-Err.ensures.gap) in
    let gone = absent_then g.T.IdOrdItem g.T.Key.Ord.cmp _ _ _ c.args.item c.in-Ok.ensures.found c.item_in.result.now (c.item_in.ensures.item _) fails none in
    let there = rw (c.key-in-Err.ensures, c.remove_in-old.ensures.rest) at c.in_default-place_for.ensures.found in
    false≢true (sym gone ∙ any-found _ _ _ there)

-- without the item that was removed, the map has room
pub insert_within-requires-clause-room : goal.insert_within-requires-clause-room
insert_within-requires-clause-room g c =
    let m = c.args.self.now in
    let fewer = length-remove (items m) (position m.blocks c.in-Ok.place) c.remove_in-old.ensures.within in
    omega (arith, ap length c.remove_in-old.ensures.rest, fewer, c.place_of.ensures.fits, c.remove_in-old.ensures.capacity)

pub returns-in-Err-place_for-clause-found : goal.returns-in-Err-place_for-clause-found
returns-in-Err-place_for-clause-found g c = found-split _ _ _ c.in-Ok.ensures.found _ (c.remove_in-old.ensures.item _)

pub returns-in-Err-place_for-clause-puts : goal.returns-in-Err-place_for-clause-puts
returns-in-Err-place_for-clause-puts g c =
    let gap = rw (c.key-in-Err.ensures, c.remove_in-old.ensures.rest) at c.in-Err-place_for.ensures.gap in
    PutsAmong-moved g.T.IdOrdItem g.T.Key.Ord.cmp _ _ _ c.args.item c.in-Ok.ensures.found _ _ gap (rw c.remove_in-old.ensures.rest at c.insert_within.ensures.inserted)

pub returns-in-Err-place_for-clause-asked : goal.returns-in-Err-place_for-clause-asked
returns-in-Err-place_for-clause-asked g c = λ r few.
    (let m = c.args.self.now in
    let fewer = length-remove (items m) (position m.blocks c.in-Ok.place) c.remove_in-old.ensures.within in
    omega (
      arith,
      c.place_of.ensures.asked r few,
      c.tick.ensures,
      c.place_for.ensures.asked r few,
      c.place_for-in-Err.ensures.asked r (omega (arith, ap length c.remove_in-old.ensures.rest, fewer, few)),
    ))
