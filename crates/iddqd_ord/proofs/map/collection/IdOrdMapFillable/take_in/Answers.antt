use Rattle.iddqd_ord.specs.Items.{items}
use Rattle.iddqd_ord.proofs.InsertLemmas.{IsPermutation-with_item}
use Rattle.iddqd_ord.proofs.map.collection.IdOrdMapFillable.take_in.Goals as goal

-- no item had the key, so the list has all of them and this one
pub returns-in-Ok-clause-gained : goal.returns-in-Ok-clause-gained
returns-in-Ok-clause-gained g c =
    rw c.in-Ok.ensures.gains.lists (IsPermutation-with_item g.T.IdOrdItem g.T.Key.Ord.cmp c.args.item (items c.args.self.now) c.in-Ok.ensures.free)
