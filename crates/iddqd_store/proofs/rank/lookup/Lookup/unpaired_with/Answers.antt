use Rattle.std.proofs.Common.{◌∷◌, ◌++◌, [], rules}
use Rattle.std.proofs.lemmas.List.{append_assoc, map-append}
use Rattle.std.proofs.lemmas.List.Elements.{filter-append}
use Rattle.iddqd_store.specs.Map.{bag}
use Rattle.iddqd_store.proofs.BagLemmas.Differing.{SearchesEach-more}
use Rattle.iddqd_store.proofs.BagLemmas.Unique.{is_some-found}
use Rattle.iddqd_store.proofs.rank.lookup.Lookup.unpaired_with.Goals as goal

pub loop-item-preserved-in-Continue-1 : goal.loop-item-preserved-in-Continue-1
loop-item-preserved-in-Continue-1 g c =
    let done = c.loop-item.invariant.0 in
    let x = c.in-Some.item.now in
    let test = λ (y : g.row.T.Denot). g.R.Key.PartialEq.eq (g.R.KeyOf.key x) (g.R.KeyOf.key y) in
    let given = is_some-found test (bag c.args.other.now) c.partner_of.result c.partner_of.ensures.found in (
      done ++ x ∷ [],
      search (rules, append_assoc done (x ∷ []) c.next.new.self),
      rw (c.in_ok-push.ensures.items, map-append, filter-append) (search (rules, given, c.loop-item.invariant.2)),
      SearchesEach-more _ _ done x _ _ _ _ _ c.loop-item.invariant.3 c.partner_of.ensures.costs,
    )

pub loop-item-preserved : goal.loop-item-preserved
loop-item-preserved g c =
    let done = c.loop-item.invariant.0 in
    let x = c.in-Some.item.now in
    let test = λ (y : g.row.T.Denot). g.R.Key.PartialEq.eq (g.R.KeyOf.key x) (g.R.KeyOf.key y) in
    let given = is_some-found test (bag c.args.other.now) c.partner_of.result c.partner_of.ensures.found in (
      done ++ x ∷ [],
      search (rules, append_assoc done (x ∷ []) c.next.new.self),
      rw filter-append (search (rules, given, c.loop-item.invariant.2)),
      SearchesEach-more _ _ done x _ _ _ _ _ c.loop-item.invariant.3 c.partner_of.ensures.costs,
    )
