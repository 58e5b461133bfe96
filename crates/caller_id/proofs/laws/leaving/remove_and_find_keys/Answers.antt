-- Made by tests/widths from crates/caller_bi/proofs/laws/leaving/remove1_and_find_keys/Answers.antt: change that file.
use Rattle.std.proofs.Common.{◌∙◌}
use Rattle.std.specs.Prelude.{[]}
use Rattle.iddqd_id.specs.Map.{bag}
use Rattle.iddqd_id.proofs.CallerLemmas.Laws.{gone-key}
use Rattle.iddqd_id.proofs.MapLemmas.{AreLawful-ranks}
use Rattle.caller_id.proofs.laws.leaving.remove_and_find_keys.Goals as goal

-- no item that is left has a key of the one that is gone
pub returns-in-Some : goal.returns-in-Some
returns-in-Some g c =
    c.contains_key.ensures ∙ gone-key [] [] g.T.IdHashItem.key g.T.Key.PartialEq.eq (AreLawful-ranks g.T.IdHashItem g.met.T.Key.Eq.laws)
    (bag c.args.map.now) (bag c.remove.new.self) c.in-Some.item c.key.result.now c.len-len.ensures.sound c.in-Some.ensures.loses.items c.key.ensures
