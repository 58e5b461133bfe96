use Rattle.std.proofs.Common.{arith, ◌≡◌, ◌<◌, ◌+◌, ◌++◌, Bool, true, false, List, ◌∷◌, ap, sym, refl, subst, ◌∙◌, nat_eq, length, drop, get_or, add-one, drop-cons, Bor}
use Rattle.std.specs.Prelude.{map as mapped, ◌||◌, Result, Ok, Err, IsOk, OnOk, OnErr, is_err}
use Rattle.std.specs.List.{list_any}
use Rattle.std.proofs.lemmas.List.{drop_all}
use Rattle.std.proofs.lemmas.List.Sorted.{length_permutation}
use Rattle.iddqd_bi.specs.Map.{bag}
use Rattle.example_recipes.specs.declared.orders.Order.{Order}
use Rattle.example_recipes.proofs.Loading.{HasLoaded, loaded-start, loaded-end}
use Rattle.example_recipes.proofs.Refusing.{none_found, some_found, refused-added, refused-taken, refused-again}
use Rattle.example_recipes.proofs.batches.refused.Goals.{then-contains_key1, else-contains_key1, then-is_taken+in_ok-push, then-is_taken-via-then-is_taken, then-is_taken-via-else-is_taken+then-is_err, else-is_taken+else-is_err}
use Rattle.example_recipes.proofs.batches.refused.Goals as goal
use Rattle.example_recipes.proofs.batches.refused.Invariants.{order_ranks}

by_first : (one two : Bool) {taken found : Bool} → taken ≡ found → found ≡ one → found ≡ true → taken ≡ (one || two)
by_first one two is finds hit = rw (is, ← finds, hit) refl

by_second : (one two : Bool) {taken found : Bool} → taken ≡ two → found ≡ one → found ≡ false → taken ≡ (one || two)
by_second one two is finds miss = rw (is, ← finds, miss) refl

module _ {A E : Type 0} where
  at_ok : {P : Type 0} (r : Result A E) → is_err r ≡ false → OnOk r P → P
  at_ok (Ok x) is holds = holds
  at_ok (Err e) is holds = absurd (cc is)

  at_err : {P : Type 0} (r : Result A E) → is_err r ≡ true → OnErr r P → P
  at_err (Ok x) is holds = absurd (cc is)
  at_err (Err e) is holds = holds

  no_err : (r : Result A E) → is_err r ≡ true → IsOk r → ⊥
  no_err (Ok x) is ok = absurd (cc is)
  no_err (Err e) is ok = absurd (cc ok)

pub loop-order-init : goal.loop-order-init
loop-order-init c = record {
  found = rw (c.new-refused.ensures.items, c.in_ok-added.ensures.empty) (loaded-start order_ranks _ _ _ _ _ refl refl refl);
  room = rw c.in_ok-added.ensures.empty (omega (arith, c.in_ok-added.ensures.capacity));
}

pub loop-order-preserved : goal.loop-order-preserved
loop-order-preserved c =
    let at = c.loop-order in
    let orders = bag c.args.orders.now in
    let batch = c.args.batch.now in
    let first : Order = record { number = 0; place = 0; price = 0 } in
    let x = get_or batch at.order-index first in
    let next : drop at.order-index batch ≡ x ∷ drop (at.order-index + 1) batch = rw add-one (drop-cons batch at.order-index first c.loop-order-test.true) in
    let before = subst (λ (l : List Order). HasLoaded order_ranks orders batch (mapped (λ (o : Bor Order). o.now) at.refused.items) (mapped (λ (o : Bor Order). o.now) (bag at.added) ++ orders) l)
    next at.invariant.found in
    let more = ap (λ (l : List Order). length l) next in
    let number = λ (o : Order). nat_eq x.number o.number in
    let place = λ (o : Order). nat_eq x.place o.place in
    let known : c.if-contains_key1.is_taken ≡ (list_any number orders || list_any place orders) = elim c.if-contains_key1.branch [
      | then-contains_key1 w ↦ by_first _ _ w.is_taken-is c.contains_key1.ensures w.if-contains_key1.true
      | else-contains_key1 w ↦ by_second _ _ (w.is_taken-is ∙ w.contains_key2-is_taken.ensures) c.contains_key1.ensures w.if-contains_key1.false
    ] in
    elim c.if-is_taken.branch [
      | then-is_taken+in_ok-push w ↦ elim w.then-is_taken.branch [
        | then-is_taken-via-then-is_taken v ↦ rw (w.refused-is, w.added-is, v.added-is, w.in_ok-push.ensures.items) (record {
          found = refused-taken (λ (o : Bor Order). o.now) order_ranks orders batch _ (bag at.added) _ _ (some_found number place orders (sym known ∙ v.if-is_taken.true)) before;
          room = omega (arith, at.invariant.room, more);
        })
        | then-is_taken-via-else-is_taken+then-is_err v ↦
            (let is : is_err v.try_insert.result ≡ true = sym v.is_err.ensures.value ∙ v.if-is_err.true in
            let room : length (bag at.added) < at.added.capacity = omega (arith, at.invariant.room, more) in
            rw (w.refused-is, w.added-is, v.added-is, at_err _ is v.try_insert.ensures.unchanged, w.in_ok-push.ensures.items) (record {
              found = refused-again (λ (o : Bor Order). o.now) order_ranks orders batch _ (bag at.added) _ _ (λ none. no_err _ is (v.try_insert.ensures.granted none room)) before;
              room = omega (arith, at.invariant.room, more);
            }))
      ]
      | else-is_taken+else-is_err w ↦
          (let is : is_err w.try_insert.result ≡ false = sym w.is_err.ensures.value ∙ w.if-is_err.false in
          let gains = at_ok _ is w.try_insert.ensures.gains in
          rw (w.refused-is, w.added-is) (record {
            found = refused-added (λ (o : Bor Order). o.now) order_ranks orders batch _ (bag at.added) _ _ _ (none_found number place orders (sym known ∙ w.if-is_taken.false))
                (at_ok _ is w.try_insert.ensures.free) gains.items before;
            room = omega (arith, at.invariant.room, more, gains.no_less_room, length_permutation _ _ gains.items);
          }))
    ]

pub returns : goal.returns
returns c = (loaded-end order_ranks _ _ _ _ _ (drop_all _ _ c.loop-order-test.false) c.loop-order.invariant.found).0
