use Rattle.std.proofs.Common.{◌∙◌, arith, refl, sym}
use Rattle.std.proofs.lemmas.List.{map-append}
use Rattle.iddqd_ord.specs.Items.{items}
use Rattle.iddqd_ord.proofs.DifferenceLemmas.{taken, ended, Merged-none, removed_lower, removed_last, added_lower, added_last, pair_next, differs}
use Rattle.iddqd_ord.proofs.map.IdOrdMap.merge_with.Goals as goal

pub loop-next_old-init : goal.loop-next_old-init
loop-next_old-init g c =
    let olds = taken _ _ _ c.next-next_old.ensures.steps in
    let news = taken _ _ _ c.next-next_new.ensures.steps in (
      rw (← olds, ← news, c.iter-olds.ensures.gives, c.iter-news.ensures.gives, c.new-removed.ensures.items, c.new-added.ensures.items, c.new-common.ensures.items)
          (Merged-none g.T.IdOrdItem g.T.Key.Ord.cmp (items c.args.self.now) (items c.args.new.now) c.iter-olds.ensures.ascending c.iter-news.ensures.ascending),
      ended _ _ _ c.next-next_old.ensures.steps,
      ended _ _ _ c.next-next_new.ensures.steps,
      rw (← olds, ← news, c.iter-olds.ensures.gives, c.iter-news.ensures.gives) (omega arith),
    )

-- an old item that is lower than the next new one
pub loop-next_old-preserved-in-Less : goal.loop-next_old-preserved-in-Less
loop-next_old-preserved-in-Less g c =
    let both = c.in-Some-Some in
    let held = rw (both.is-0, both.is-1) at c.loop-next_old.invariant.0 in
    let bound = rw both.is-0 at c.loop-next_old.invariant.3 in
    let olds = taken _ _ _ c.next-next_old-in-Less.ensures.steps in (
      rw (← olds, both.is-1)
          (removed_lower g.T.IdOrdItem g.T.Key.Ord.cmp g.met.T.Key.Ord.total both.before.now both.after.now held (sym c.compare_keys.ensures.value ∙ c.in-Less.is)
          (rw (c.in_ok-push-in-Less.ensures.items, map-append) refl)),
      ended _ _ _ c.next-next_old-in-Less.ensures.steps,
      c.loop-next_old.invariant.2,
      rw (← olds) (omega (arith, bound, c.compare_keys.ensures.asked)),
    )

-- items with equal keys
pub loop-next_old-preserved-in-Equal : goal.loop-next_old-preserved-in-Equal
loop-next_old-preserved-in-Equal g c =
    let both = c.in-Some-Some in
    let held = rw (both.is-0, both.is-1) at c.loop-next_old.invariant.0 in
    let bound = rw (both.is-0, both.is-1) at c.loop-next_old.invariant.3 in
    let olds = taken _ _ _ c.next-next_old-in-Equal.ensures.steps in
    let news = taken _ _ _ c.next-next_new-in-Equal.ensures.steps in (
      rw (← olds, ← news)
          (pair_next g.T.IdOrdItem g.T.Key.Ord.cmp g.met.T.Key.Ord.total record { before = both.before; after = both.after } held
          (sym c.compare_keys.ensures.value ∙ c.in-Equal.is) c.in_ok-push-in-Equal.ensures.items),
      ended _ _ _ c.next-next_old-in-Equal.ensures.steps,
      ended _ _ _ c.next-next_new-in-Equal.ensures.steps,
      rw (← olds, ← news) (omega (arith, bound, c.compare_keys.ensures.asked)),
    )

-- a new item that is lower than the next old one
pub loop-next_old-preserved-in-Greater : goal.loop-next_old-preserved-in-Greater
loop-next_old-preserved-in-Greater g c =
    let both = c.in-Some-Some in
    let held = rw (both.is-0, both.is-1) at c.loop-next_old.invariant.0 in
    let bound = rw both.is-1 at c.loop-next_old.invariant.3 in
    let news = taken _ _ _ c.next-next_new-in-Greater.ensures.steps in (
      rw (← news, both.is-0)
          (added_lower g.T.IdOrdItem g.T.Key.Ord.cmp g.met.T.Key.Ord.total both.before.now both.after.now held (sym c.compare_keys.ensures.value ∙ c.in-Greater.is)
          (rw (c.in_ok-push-in-Greater.ensures.items, map-append) refl)),
      c.loop-next_old.invariant.1,
      ended _ _ _ c.next-next_new-in-Greater.ensures.steps,
      rw (← news) (omega (arith, bound, c.compare_keys.ensures.asked)),
    )

-- an old item, and no new one is left
pub loop-next_old-preserved-in-Some-None : goal.loop-next_old-preserved-in-Some-None
loop-next_old-preserved-in-Some-None g c =
    let one = c.in-Some-None in
    let none = c.loop-next_old.invariant.2 one.is-1 in
    let held = rw (one.is-0, one.is-1, none) at c.loop-next_old.invariant.0 in
    let bound = rw one.is-0 at c.loop-next_old.invariant.3 in
    let olds = taken _ _ _ c.next-next_old-in-Some-None.ensures.steps in (
      rw (← olds, one.is-1, none)
          (removed_last g.T.IdOrdItem g.T.Key.Ord.cmp g.met.T.Key.Ord.total one.before.now held (rw (c.in_ok-push-in-Some-None.ensures.items, map-append) refl)),
      ended _ _ _ c.next-next_old-in-Some-None.ensures.steps,
      c.loop-next_old.invariant.2,
      rw (← olds) (omega (arith, bound)),
    )

-- a new item, and no old one is left
pub loop-next_old-preserved : goal.loop-next_old-preserved
loop-next_old-preserved g c =
    let one = c.in-None-Some in
    let none = c.loop-next_old.invariant.1 one.is-0 in
    let held = rw (one.is-0, one.is-1, none) at c.loop-next_old.invariant.0 in
    let bound = rw one.is-1 at c.loop-next_old.invariant.3 in
    let news = taken _ _ _ c.next-next_new-in-None-Some.ensures.steps in (
      rw (← news, one.is-0, none)
          (added_last g.T.IdOrdItem g.T.Key.Ord.cmp g.met.T.Key.Ord.total one.after.now held (rw (c.in_ok-push-in-None-Some.ensures.items, map-append) refl)),
      c.loop-next_old.invariant.1,
      ended _ _ _ c.next-next_new-in-None-Some.ensures.steps,
      rw (← news) (omega (arith, bound)),
    )

pub returns-clause-differs : goal.returns-clause-differs
returns-clause-differs g c =
    let ends = c.in-None-None in
    let held = rw (ends.is-0, ends.is-1, c.loop-next_old.invariant.1 ends.is-0, c.loop-next_old.invariant.2 ends.is-1) at c.loop-next_old.invariant.0 in
    (differs g.T.IdOrdItem g.T.Key.Ord.cmp (items c.args.self.now) (items c.args.new.now)
    record { added = c.loop-next_old.added; removed = c.loop-next_old.removed; common = c.loop-next_old.common } held).0

pub returns-clause-after : goal.returns-clause-after
returns-clause-after g c =
    let ends = c.in-None-None in
    let held = rw (ends.is-0, ends.is-1, c.loop-next_old.invariant.1 ends.is-0, c.loop-next_old.invariant.2 ends.is-1) at c.loop-next_old.invariant.0 in
    (differs g.T.IdOrdItem g.T.Key.Ord.cmp (items c.args.self.now) (items c.args.new.now)
    record { added = c.loop-next_old.added; removed = c.loop-next_old.removed; common = c.loop-next_old.common } held).1
