-- Made by tests/widths from crates/iddqd_bi/proofs/map/BiHashMap/slot_at/Answers.antt: change that file.
use Rattle.std.proofs.Common.{◌≡◌, sym, refl, ◌∙◌, None, Some, false, Option, Bor}
use Rattle.std.specs.Prelude.{is_some, option_copied}
use Rattle.iddqd_store.proofs.SlotLemmas.Next.{over_free}
use Rattle.iddqd_id.proofs.map.IdHashMap.slot_at.Goals as goal

none_of : {T : Type 0} (o : Option (Bor T)) → is_some o ≡ false → option_copied o ≡ None
none_of None is = refl
none_of (Some x) is = absurd (cc is)

pub returns-else-is_some-clause-passed : goal.returns-else-is_some-clause-passed
returns-else-is_some-clause-passed g c =
    let free = rw c.new-slot.ensures at (sym c.get.ensures ∙ none_of c.get.result (sym c.is_some.ensures ∙ c.if-is_some.false)) in
    rw (← c.self.view_is) (over_free c.self.inside.items.slots c.args.number free).1
