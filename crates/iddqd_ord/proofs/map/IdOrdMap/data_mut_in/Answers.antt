use Rattle.std.proofs.Common.{refl, sym, ap, ◌∙◌}
use Rattle.std.specs.Cmp.{tied_itself}
use Rattle.iddqd_ord.proofs.LentLemmas.{IsAscending-written, map_with_is, place_same, place_written, place_kept}
use Rattle.iddqd_ord.proofs.map.IdOrdMap.data_mut_in.Goals as goal

pub invariant_of-self-lent : goal.invariant_of-self-lent
invariant_of-self-lent g c = λ w.
    let there = rw (← c.self.view_is) at c.requires in
    IsAscending-written g.met.T.Key.Ord.total g.T.IdOrdItem.key g.T.IdOrdItemMut.put (λ x d. g.met.T.IdOrdItemMut.keeps_key x d (tied_itself g.met.T.Key.Ord.total)) c.self.inside.items c.args.place there c.entry_mut.result.now c.entry_mut.ensures.value c.self.invariant w

pub returns : goal.returns
returns g c =
    let put = g.T.IdOrdItemMut.put in
    let m = c.self.inside.items in
    let p = c.args.place in
    let x = c.entry_mut.result.now in
    let there = rw (← c.self.view_is) at c.requires in
    let at = c.entry_mut.ensures.value in (
      (refl, λ w. rw (← c.self.view_is) (sym (map_with_is m p there x at (λ y. put y w)))),
      record {
        writes_back = tt;
        within = rw (← c.self.view_is) c.entry_mut.ensures.within;
        value = rw (← c.self.view_is) (λ y found. c.data_mut.ensures.value ∙ ap g.T.IdOrdItemMut.data_of (place_same m p there x at y found));
        written = rw (← c.self.view_is) (λ y d found. place_written m p there x at (λ z. put z d) y found);
        kept = rw (← c.self.view_is) (λ y d found same. place_kept m p there x at (λ z. put z d) y found same);
      },
    )
