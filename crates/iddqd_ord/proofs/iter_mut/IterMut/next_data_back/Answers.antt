use Rattle.std.proofs.Common.{◌<◌, Some, refl, sym, ap, ◌∙◌, arith}
use Rattle.std.specs.Option.{option_map}
use Rattle.iddqd_ord.specs.Items.{items}
use Rattle.iddqd_ord.specs.Writing.{map_with, position-written}
use Rattle.iddqd_order.specs.Row.{position}
use Rattle.iddqd_ord.proofs.LentLemmas.{item_there}
use Rattle.iddqd_ord.proofs.StepLemmas.{back_between, back_rest, back_done, back_behind, back_last}
use Rattle.iddqd_ord.proofs.iter_mut.IterMut.next_data_back.Goals as goal

pub returns-in-Some : goal.returns-in-Some
returns-in-Some g c =
    let it = c.args.self.now in
    let put = g.T.IdOrdItemMut.put in
    let m = it.map.now in
    let p = c.in-Some.place in
    let xs = items m in
    let i = position m.blocks it.front in
    let k = position m.blocks it.back in
    let j = position m.blocks p in
    let at = c.in-Some.ensures.index in
    let there = item_there xs j c.data_mut_in.ensures.within in
    let x = there.0 in
    let found = there.1 in
    let some : 0 < it.left = omega arith in (
      (
        refl,
        (λ w.
            let f = λ (y : g.row.T.Denot). put y w in
            let new = items (map_with m p f) in
            let written = c.data_mut_in.ensures.written x w found in
            record {
              item = x;
              same_map = refl;
              left = back_rest xs i k it.left j x found some it.there.count at new _ (put x w) written (position-written m p f it.front);
              done = back_done xs i k it.left j x found some it.there.count at new _ (put x w) written (position-written m p f it.front);
              behind = back_behind xs i k it.left j x found some it.there.count at new _ (put x w) written (position-written m p f p);
              capacity = refl;
            }),
        tt,
      ),
      record {
        lends = tt;
        value = ap Some (c.data_mut_in.ensures.value x found) ∙ ap (option_map g.T.IdOrdItemMut.data_of) (sym (back_last xs i k it.left j x found some it.there.count at));
        end = tt;
        whole = tt;
      },
    )

pub invariant_of-self-lent : goal.invariant_of-self-lent
invariant_of-self-lent g c = λ w.
    (let it = c.args.self.now in
    (back_between it.map.now c.in-Some.place (λ y. g.T.IdOrdItemMut.put y w) it.front it.back it.left it.there (omega arith) c.in-Some.ensures.index c.in-Some.ensures.entry, tt))
