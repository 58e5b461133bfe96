-- Made by tests/widths from crates/iddqd_bi/proofs/map/BiHashMap/is_full/Answers.antt: change that file.
use Rattle.std.proofs.Common.{◌≡◌, ◌∙◌, sym, refl, length}
use Rattle.iddqd_store.specs.Map.{bag}
use Rattle.iddqd_store.proofs.SlotLemmas.Contents.{length-contents}
use Rattle.iddqd_id.proofs.map.IdHashMap.is_full.Goals as goal

pub returns-clause-value : goal.returns-clause-value
returns-clause-value g c =
    let items : c.len.result ≡ length (bag c.args.self.now) =
    rw (← c.self.view_is) (c.len.ensures.value ∙ sym (length-contents c.self.inside.items.slots)) in
    rw items (rw c.least_capacity.ensures.value refl)
