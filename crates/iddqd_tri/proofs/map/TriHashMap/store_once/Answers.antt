-- Made by tests/widths from crates/iddqd_bi/proofs/map/BiHashMap/store_once/Answers.antt: change that file.
use Rattle.std.proofs.Common.{refl}
use Rattle.iddqd_tri.proofs.map.TriHashMap.store_once.Goals as goal

pub returns : goal.returns
returns g c = record {
  stored = (c.item_at.result.now, c.f-d.result, c.item_at.ensures, (c.item_at.result, c.f-d.ensures, refl), refl, c.data_mut_at.ensures.swaps _ _ c.item_at.ensures);
}
