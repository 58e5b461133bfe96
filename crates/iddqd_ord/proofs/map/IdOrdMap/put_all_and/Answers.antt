use Rattle.std.proofs.Common.{[], ◌∷◌, rules}
use Rattle.iddqd_store.proofs.MapLemmas.{at_err}
use Rattle.iddqd_ord.proofs.ExtendLemmas.{ExtendsTo-append, ExtendsTo-overwrites, StopsAt-first, StopsAt-append, StopsAt-more, not_full}
use Rattle.iddqd_ord.proofs.map.IdOrdMap.put_all_and.Goals as goal

pub returns-clause-all : goal.returns-clause-all
returns-clause-all g c =
    let of = g.T.IdOrdItem in
    let cmp = g.T.Key.Ord.cmp in
    ExtendsTo-append of cmp c.in_ok-put_all.ensures.all (ExtendsTo-overwrites of cmp c.in_ok-insert_overwrite.ensures.overwrites)

pub returns-in_err-put_all-clause-stops : goal.returns-in_err-put_all-clause-stops
returns-in_err-put_all-clause-stops g c =
    at_err c.from_residual.result c.in_err-put_all.field-0.0 _ (search rules)
    (StopsAt-more g.T.IdOrdItem g.T.Key.Ord.cmp (c.args.item ∷ []) c.in_err-put_all.ensures.stops)

pub returns-in_err-insert_overwrite : goal.returns-in_err-insert_overwrite
returns-in_err-insert_overwrite g c =
    let of = g.T.IdOrdItem in
    let cmp = g.T.Key.Ord.cmp in
    let all = c.in_ok-put_all.ensures.all in
    let failed = c.in_err-insert_overwrite.ensures in
    let error = c.in_err-insert_overwrite.field-0.0 in
    record {
      all = search rules;
      stops = at_err c.from_residual-in_err-insert_overwrite.result error _ (search rules)
          (rw (failed.unchanged, failed.handed_back) (StopsAt-append of cmp all (StopsAt-first of cmp c.put_all.new.self c.args.item [] all.fits)));
      full = at_err c.from_residual-in_err-insert_overwrite.result error _ (search rules) (rw (failed.unchanged, failed.handed_back) failed.reason);
      granted = λ room. absurd (not_full of cmp all room failed.reason.full);
    }
