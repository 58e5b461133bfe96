use Rattle.std.proofs.Common.{◌≡◌, [], rules, sym, ap, length, arith}
use Rattle.std.specs.Prelude.{vec_len}
use Rattle.std.specs.Vec.Iter.{into_iter_items}
use Rattle.std.proofs.lemmas.List.{nil_from_length}
use Rattle.iddqd_store.proofs.MapLemmas.{at_err}
use Rattle.iddqd_ord.proofs.ExtendLemmas.{ExtendsTo-none, ExtendsTo-overwrites, Gathers-put, Gathers-all, Gathers-refuses, Gathers-not_full}
use Rattle.iddqd_ord.proofs.map.IdOrdMap.put_each.Goals as goal

pub loop-item-init : goal.loop-item-init
loop-item-init g c =
    let all : into_iter_items c.into_iter-item-iterator.result ≡ c.args.list.items = c.into_iter-item-iterator.ensures.into_iter_gives.0 in
    let len : vec_len c.args.list ≡ length c.args.list.items = search rules in
    record {
      callable = tt;
      ending = tt;
      gathers = record { put = []; is = sym all; extends = ExtendsTo-none g.T.IdOrdItem g.T.Key.Ord.cmp c.args.self.now c.requires };
      counted = omega (arith, ap length all, c.into_iter-item-iterator.ensures.into_iter_gives.1, len);
    }

pub loop-item-preserved : goal.loop-item-preserved
loop-item-preserved g c =
    let of = g.T.IdOrdItem in
    let cmp = g.T.Key.Ord.cmp in
    let at = c.loop-item in
    let steps = c.in-Some.ensures.steps.0 in
    record {
      callable = tt;
      ending = tt;
      gathers = Gathers-put of cmp at.invariant.gathers c.in-Some.item _ steps (ExtendsTo-overwrites of cmp c.in_ok-insert_overwrite.ensures.overwrites);
      counted = omega (arith, ap length steps, c.in-Some.ensures.steps.1, at.invariant.counted);
    }

pub returns-clause-all : goal.returns-clause-all
returns-clause-all g c =
    let of = g.T.IdOrdItem in
    let cmp = g.T.Key.Ord.cmp in
    let at = c.loop-item in
    let none : into_iter_items at.item-iterator ≡ [] = nil_from_length _ (omega (arith, at.invariant.counted, c.in-None.ensures.steps.0)) in
    Gathers-all of cmp at.invariant.gathers (rw none (ExtendsTo-none of cmp at.self at.invariant.gathers.extends.fits))

-- an insert that failed left the map as it was
pub returns-in_err-insert_overwrite : goal.returns-in_err-insert_overwrite
returns-in_err-insert_overwrite g c =
    let of = g.T.IdOrdItem in
    let cmp = g.T.Key.Ord.cmp in
    let gathers = c.loop-item.invariant.gathers in
    let steps = c.in-Some.ensures.steps.0 in
    let failed = c.in_err-insert_overwrite.ensures in
    let error = c.in_err-insert_overwrite.field-0.0 in
    let stops = Gathers-refuses of cmp gathers c.in-Some.item _ steps in
    record {
      all = search rules;
      stops = at_err c.from_residual.result error _ (search rules) (rw (failed.unchanged, failed.handed_back) stops);
      full = at_err c.from_residual.result error _ (search rules) (rw (failed.unchanged, failed.handed_back) failed.reason);
      granted = λ room. absurd (Gathers-not_full of cmp gathers c.in-Some.item _ steps room failed.reason.full);
    }
