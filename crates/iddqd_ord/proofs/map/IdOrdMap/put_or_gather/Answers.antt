use Rattle.std.proofs.Common.{◌≡◌, [], ◌∷◌, length, refl, rules}
use Rattle.std.proofs.lemmas.List.{nil_from_length}
use Rattle.iddqd_ord.proofs.ExtendLemmas.{ExtendsTo-gains}
use Rattle.iddqd_ord.proofs.map.IdOrdMap.put_or_gather.Goals as goal

pub returns-in-Ok-clause-gathers : goal.returns-in-Ok-clause-gathers
returns-in-Ok-clause-gathers g c =
    let zero : length c.args.list.now.items ≡ 0 = search (rules, c.if-is_empty.true, c.if-is_empty.ensures) in
    let none = nil_from_length c.args.list.now.items zero in
    rw none record { put = c.args.item ∷ []; is = refl; extends = ExtendsTo-gains g.T.IdOrdItem g.T.Key.Ord.cmp c.in-Ok.ensures.gains }
