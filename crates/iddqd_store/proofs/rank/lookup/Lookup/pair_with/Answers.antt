use Rattle.std.proofs.Common.{◌≡◌, ◌∷◌, ◌++◌, [], map, refl, rules, subst, sym}
use Rattle.std.specs.List.{IsDistinct}
use Rattle.std.proofs.lemmas.List.{append_assoc, append-nil, map-append}
use Rattle.iddqd_store.specs.Map.{bag}
use Rattle.iddqd_store.proofs.BagLemmas.Differing.{ArePaired, ArePaired-none, ArePaired-alone, ArePaired-pair, ArePaired-after, SearchesEach-none, SearchesEach-more}
use Rattle.iddqd_store.proofs.CallerLemmas.Laws.{given-has}
use Rattle.iddqd_store.proofs.MapLemmas.{IsEquivalence-key}
use Rattle.iddqd_store.proofs.rank.lookup.Lookup.pair_with.Goals as goal

pub loop-before-init : goal.loop-before-init
loop-before-init g c =
    let agree = λ (x y : g.row.T.Denot). g.R.Key.PartialEq.eq (g.R.KeyOf.key x) (g.R.KeyOf.key y) in
    ([], search rules, rw (c.new-alone.ensures.items, c.new-pairs.ensures.items) (ArePaired-none agree (bag c.args.other.now)), SearchesEach-none _ _ _)

pub loop-before-preserved-in-Continue-1 : goal.loop-before-preserved-in-Continue-1
loop-before-preserved-in-Continue-1 g c =
    let agree = λ (x y : g.row.T.Denot). g.R.Key.PartialEq.eq (g.R.KeyOf.key x) (g.R.KeyOf.key y) in
    let done = c.loop-before.invariant.0 in
    let x = c.in-Some.before.now in
    let one = c.in-Some-partner_of.ensures.found in (
      done ++ x ∷ [],
      search (rules, append_assoc done (x ∷ []) c.next.new.self),
      ArePaired-pair agree done (bag c.args.other.now) _ _ _ _ c.loop-before.invariant.2 one
          (given-has (agree x) (bag c.args.other.now) _ one) c.in_ok-push-in-Some-partner_of.ensures.items,
      SearchesEach-more _ _ done x _ _ _ _ _ c.loop-before.invariant.3 c.partner_of.ensures.costs,
    )

pub loop-before-preserved : goal.loop-before-preserved
loop-before-preserved g c =
    let agree = λ (x y : g.row.T.Denot). g.R.Key.PartialEq.eq (g.R.KeyOf.key x) (g.R.KeyOf.key y) in
    let done = c.loop-before.invariant.0 in
    let x = c.in-Some.before.now in
    let none = c.in-None-partner_of.ensures.found in (
      done ++ x ∷ [],
      search (rules, append_assoc done (x ∷ []) c.next.new.self),
      ArePaired-alone agree done (bag c.args.other.now) _ _ _ x c.loop-before.invariant.2 none
          (rw (c.in_ok-push-in-None-partner_of.ensures.items, map-append) refl),
      SearchesEach-more _ _ done x _ _ _ _ _ c.loop-before.invariant.3 c.partner_of.ensures.costs,
    )

pub returns-clause-after : goal.returns-clause-after
returns-clause-after g c =
    let agree = λ (x y : g.row.T.Denot). g.R.Key.PartialEq.eq (g.R.KeyOf.key x) (g.R.KeyOf.key y) in
    let done = c.loop-before.invariant.0 in
    let all : bag c.args.self.now ≡ done = search (rules, append-nil done, c.loop-before.invariant.1) in
    let apart : IsDistinct agree (bag c.args.self.now) = rw (← c.self.view_is) c.self.invariant.apart in
    ArePaired-after agree (IsEquivalence-key g.R.Key.PartialEq.eq g.R.KeyOf.key g.met.R.Key.Eq.laws) (bag c.args.self.now) (bag c.args.other.now) _ _ apart
    (subst (λ l. ArePaired agree l (bag c.args.other.now) (map (λ x. x.now) c.loop-before.alone.items) c.loop-before.pairs.items) (sym all) c.loop-before.invariant.2)
