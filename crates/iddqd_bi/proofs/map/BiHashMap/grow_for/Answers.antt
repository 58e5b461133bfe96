use Rattle.std.proofs.Common.{◌≡◌, arith, length}
use Rattle.iddqd_store.specs.Map.{bag}
use Rattle.iddqd_store.proofs.SlotLemmas.Contents.{length-contents}
use Rattle.iddqd_bi.proofs.map.BiHashMap.grow_for.Goals as goal

pub returns-then-is_ok-clause-most : goal.returns-then-is_ok-clause-most
returns-then-is_ok-clause-most g c =
    let asked = c.at_once-wanted.ensures in
    let same : length (bag c.args.self.now) ≡ c.len.result = rw (← c.self.view_is, c.len.ensures.value) (length-contents c.self.inside.items.slots) in
    omega (arith, c.grow.ensures.room.most, asked.within, asked.most)
