use Rattle.std.proofs.Common.{Some, None, ◌∙◌}
use Rattle.std.proofs.lemmas.Fn.{called_at}
use Rattle.iddqd_ord.specs.Items.{items}
use Rattle.iddqd_ord.specs.Writing.{HasEntry-written}
use Rattle.iddqd_ord.proofs.RewriteLemmas.{item_at, next_index, removed_before, written_before, written_behind}
use Rattle.iddqd_ord.proofs.map.IdOrdMap.rewrite_in.Goals as goal

pub next_place-requires : goal.next_place-requires
next_place-requires g c = HasEntry-written c.args.self.now c.args.place (λ y. g.T.IdOrdItemMut.put y c.in-Some.data) c.args.place c.requires.there

pub returns-in-Some-clause-rewritten : goal.returns-in-Some-clause-rewritten
returns-in-Some-clause-rewritten g c =
    let m = c.args.self.now in
    let x = c.item_in.result.now in
    let d = c.in-Some.data in
    let found = item_at m c.args.place x c.item_in.ensures.within c.item_in.ensures.item in
    let next = next_index m c.args.place (λ y. g.T.IdOrdItemMut.put y d) _ c.next_place.ensures.index in
    (x, Some d, found, called_at g.F.FnMut c.f.ensures c.in-Some.is, written_before (items m) _ _ _ x (g.T.IdOrdItemMut.put x d) found (c.data_mut_in.ensures.written x d found) next)

pub returns-in-Some-clause-behind : goal.returns-in-Some-clause-behind
returns-in-Some-clause-behind g c =
    let m = c.args.self.now in
    let x = c.item_in.result.now in
    let d = c.in-Some.data in
    let found = item_at m c.args.place x c.item_in.ensures.within c.item_in.ensures.item in
    let next = next_index m c.args.place (λ y. g.T.IdOrdItemMut.put y d) _ c.next_place.ensures.index in
    written_behind (items m) _ _ _ (g.T.IdOrdItemMut.put x d) (c.data_mut_in.ensures.written x d found) next

pub returns-in-None-clause-rewritten : goal.returns-in-None-clause-rewritten
returns-in-None-clause-rewritten g c =
    let m = c.args.self.now in
    let x = c.item_in.result.now in
    let found = item_at m c.args.place x c.item_in.ensures.within c.item_in.ensures.item in
    (x, None, found, called_at g.F.FnMut c.f.ensures c.in-None.is, removed_before (items m) _ _ _ c.remove_in-item.ensures.rest (c.place_or_next.ensures.index ∙ c.remove_in-item.ensures.index))
