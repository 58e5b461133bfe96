-- Made by tests/widths from crates/iddqd_bi/proofs/map/BiHashMap/len/Answers.antt: change that file.
use Rattle.std.proofs.Common.{◌∙◌, sym}
use Rattle.iddqd_store.proofs.SlotLemmas.Contents.{length-contents}
use Rattle.iddqd_id.proofs.map.IdHashMap.len.Goals as goal

pub returns-clause-value : goal.returns-clause-value
returns-clause-value g c = rw (← c.self.view_is) (c.len.ensures.value ∙ sym (length-contents c.self.inside.items.slots))
