use Rattle.std.proofs.Common.{◌≡◌, Some, refl, sym, subst, inl, ◌∙◌, arith}
use Rattle.iddqd_ord.specs.Items.{items, key_comparison}
use Rattle.iddqd_order.specs.Row.{position, HasEntry}
use Rattle.iddqd_order.specs.declared.place.Place.{Place}
use Rattle.iddqd_ord.proofs.LentLemmas.{item_there, found_only}
use Rattle.iddqd_order.proofs.FilterLemmas.{absent-split, any-found}
use Rattle.iddqd_ord.proofs.map.IdOrdMap.insert_unique.Goals as goal

some_same : {X : Type 0} {x y : X} → Some x ≡ Some y → x ≡ y
some_same e = cc

pub invariant_of-self : goal.invariant_of-self
invariant_of-self g c =
    let m = c.args.self.now in
    let i = position m.blocks c.in-Ok.place in
    let split = rw c.key.ensures at c.in-Ok.ensures.found in
    let there = item_there (items m) i (omega (arith, split.in_range)) in
    record {
      there = λ x e. subst (λ (p : Place). HasEntry m.blocks p) (some_same e) c.in-Ok.ensures.entry;
      found_is = rw there.1 (found_only (key_comparison g.T.IdOrdItem g.T.Key.Ord.cmp c.args.item) (items m) i split there.0 there.1);
    }

pub invariant_of-self-in-Err-insert_or_refuse : goal.invariant_of-self-in-Err-insert_or_refuse
invariant_of-self-in-Err-insert_or_refuse g c =
    let arm = c.in-Err-insert_or_refuse in
    let gap = rw c.key.ensures at c.in-Err.ensures.gap in
    rw (arm.ensures.handed_back, arm.ensures.unchanged) record {
      there = λ x e. absurd (cc e);
      found_is = sym (absent-split _ _ _ gap);
    }

pub returns-in-Ok : goal.returns-in-Ok
returns-in-Ok g c =
    let m = c.args.self.now in
    let split = rw c.key.ensures at c.in-Ok.ensures.found in
    let taken = any-found (key_comparison g.T.IdOrdItem g.T.Key.Ord.cmp c.args.item) (items m) (position m.blocks c.in-Ok.place) split in (
      (refl, (λ w. refl), tt),
      record {
        ends = tt;
        free = tt;
        granted = λ free room. sym free ∙ taken;
        handed_back = record { handed_back = refl; same_map = refl; unchanged = refl };
        reason = inl taken;
      },
    )
