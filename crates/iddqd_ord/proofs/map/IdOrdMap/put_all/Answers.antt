use Rattle.std.proofs.Common.{rules}
use Rattle.std.specs.Ordering.{is_lt}
use Rattle.std.proofs.lemmas.List.Sorted.{ranks_by, answers_always, length_permutation}
use Rattle.iddqd_ord.proofs.ExtendLemmas.{ExtendsTo-grown, ExtendsTo-lowered}
use Rattle.iddqd_ord.proofs.StableLemmas.{stable_by, ExtendsTo-stable}
use Rattle.iddqd_ord.proofs.map.IdOrdMap.put_all.Goals as goal

pub returns-clause-all : goal.returns-clause-all
returns-clause-all g c =
    let of = g.T.IdOrdItem in
    let cmp = g.T.Key.Ord.cmp in
    let o = g.met.T.Key.Ord.total in
    let list = c.args.list.items in
    let sorted = c.sort_by.new.self.items in
    let stable = stable_by of cmp o list sorted (c.sort_by.ensures.stable (λ x y. is_lt (cmp (of.key x) (of.key y))) (ranks_by o of.key) (answers_always _ _ _ (λ f a r f' called. search rules))) in
    let put = ExtendsTo-stable of cmp o list sorted stable (length_permutation list sorted c.sort_by.ensures.permutation) c.in-Ok.ensures.all in
    let all = ExtendsTo-grown of cmp put c.has_room_for_all.ensures.items (rw c.deref.ensures.value at c.has_room_for_all.ensures.grows_unless)
    (rw c.deref.ensures.value at c.has_room_for_all.ensures.most) in
    ExtendsTo-lowered of cmp all c.give_back.new.self c.give_back.ensures.items c.give_back.ensures.fits (rw c.capacity-room.ensures.value at c.give_back.ensures.least) c.give_back.ensures.no_more
