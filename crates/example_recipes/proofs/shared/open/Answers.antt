use Rattle.std.proofs.Common.{rules, ◌≡◌, Global}
use Rattle.std.proofs.lemmas.List.Sorted.{IsPermutation-map}
use Rattle.std.proofs.Common.{◌==◌, nat_eq, [], ◌∷◌}
use Rattle.std.proofs.lemmas.Cmp.{nat_eq_equiv}
use Rattle.std.specs.declared.rc.Rc.{Rc}
use Rattle.std.proofs.lemmas.Bool.{or_parts}
use Rattle.iddqd_store.proofs.BagLemmas.Sound.{each_weaker}
use Rattle.iddqd_store.proofs.BagLemmas.Steps.{none_passes}
use Rattle.iddqd_bi.specs.Bag.{Ranks, do_conflict}
use Rattle.iddqd_bi.specs.Map.{bag}
use Rattle.iddqd_bi.specs.Rank.{agree}
use Rattle.example_recipes.proofs.Undone.{undone_by}
use Rattle.example_recipes.specs.declared.orders.Order.{Order}
use Rattle.example_recipes.proofs.shared.open.Goals as goal

abbrev item_ranks : Ranks (Rc Order Global)
item_ranks = agree (λ (r : Rc Order Global). r.value.number) nat_eq ∷ agree (λ (r : Rc Order Global). r.value.place) nat_eq ∷ []

-- the first pointer is to the order, ..
pub returns-clause-among_all : goal.returns-clause-among_all
returns-clause-among_all c =
    let order : c.in_ok-clone.field-0.value ≡ c.args.order = search rules in
    rw order at (IsPermutation-map (λ (r : Rc Order Global). r.value) _ _ c.in_ok-try_insert.ensures.gains.items)

-- .. and the second one too
pub returns-clause-among_opened : goal.returns-clause-among_opened
returns-clause-among_opened c =
    let order : c.in_ok-order.order.value ≡ c.args.order = search rules in
    rw order at (IsPermutation-map (λ (r : Rc Order Global). r.value) _ _ c.in_default.ensures.gains.items)

-- nothing in the map had the number of the order that came, so the order that leaves is this one
pub returns-in-Err-clause-not_among_all : goal.returns-in-Err-clause-not_among_all
returns-in-Err-clause-not_among_all c =
    let x = c.in_ok-clone.field-0 in
    let number = c.deref.result.now.number in
    let own : x.value.number ≡ number = search rules in
    let free = none_passes (do_conflict item_ranks x) (bag c.args.all.now) c.in_ok-try_insert.ensures.free in
    undone_by (λ (r : Rc Order Global). number == r.value.number) (bag c.args.all.now) c.try_insert.new.self c.remove1.new.self x c.remove1.result
    (rw (← own) (each_weaker _ _ (λ y e. (or_parts _ _ e).0) (bag c.args.all.now) free))
    (rw (← own) (nat_eq_equiv.refl x.value.number))
    c.in_ok-try_insert.ensures.gains.items
    c.remove1.ensures.taken
    c.remove1.ensures.loses
