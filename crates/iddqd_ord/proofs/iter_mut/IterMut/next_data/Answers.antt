use Rattle.std.proofs.Common.{ℕ, ◌+◌, ◌<◌, Some, refl, sym, ap, ◌∙◌, arith}
use Rattle.std.specs.Option.{option_map}
use Rattle.std.specs.Prelude.{List, slice_get, slice_set}
use Rattle.iddqd_ord.specs.Items.{items}
use Rattle.iddqd_ord.specs.Writing.{map_with, position-written}
use Rattle.iddqd_order.specs.Row.{position}
use Rattle.iddqd_ord.proofs.LentLemmas.{item_there}
use Rattle.iddqd_ord.proofs.RewriteLemmas.{written_before}
use Rattle.iddqd_ord.proofs.StepLemmas.{front_between, front_first, front_rest, front_behind}
use Rattle.iddqd_ord.proofs.iter_mut.IterMut.next_data.Goals as goal

pub returns-in-Some : goal.returns-in-Some
returns-in-Some g c =
    let it = c.args.self.now in
    let put = g.T.IdOrdItemMut.put in
    let m = it.map.now in
    let p = c.in-Some.place in
    let xs = items m in
    let i = position m.blocks it.front in
    let k = position m.blocks it.back in
    let at = c.in-Some.ensures.index in
    let there = item_there xs i (omega (arith, at, c.data_mut_in.ensures.within)) in
    let x = there.0 in
    let found = there.1 in
    let here = ap (slice_get xs) at ∙ found in
    let some : 0 < it.left = omega arith in
    let next = c.place_behind-self.ensures.index ∙ ap (λ (n : ℕ). n + 1) at in (
      (
        refl,
        (λ w.
            let f = λ (y : g.row.T.Denot). put y w in
            let new = items (map_with m p f) in
            let written = c.data_mut_in.ensures.written x w here ∙ ap (λ (n : ℕ). slice_set xs n (put x w)) at in
            let after = c.place_behind-self.result in
            let next_w = position-written m p f after ∙ next in
            record {
              item = x;
              same_map = refl;
              left = front_rest xs i k it.left x found some it.there.count new _ (put x w) written next_w;
              done = written_before xs new i _ x (put x w) found written next_w;
              behind = front_behind xs i k it.left x found some it.there.count new _ (put x w) written (position-written m p f it.back);
              capacity = refl;
            }),
        tt,
      ),
      record {
        lends = tt;
        value = ap Some (c.data_mut_in.ensures.value x here) ∙ ap (λ (q : List g.row.T.Denot). option_map g.T.IdOrdItemMut.data_of (slice_get q 0)) (sym (front_first xs i k it.left x found some it.there.count _ next));
        end = tt;
        whole = tt;
      },
    )

pub invariant_of-self-lent : goal.invariant_of-self-lent
invariant_of-self-lent g c = λ w.
    (let it = c.args.self.now in
    let after = c.place_behind-self in
    (front_between it.map.now c.in-Some.place (λ y. g.T.IdOrdItemMut.put y w) it.front after.result it.back it.left it.there (omega arith) c.in-Some.ensures.index after.ensures.place after.ensures.index, tt))
