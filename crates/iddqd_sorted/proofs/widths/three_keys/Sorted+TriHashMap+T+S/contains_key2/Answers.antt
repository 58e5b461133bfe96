-- Made by tests/widths from crates/iddqd_sorted/proofs/widths/two_keys/Sorted+BiHashMap+T+S/contains_key2/Answers.antt: change that file.
use Rattle.std.proofs.Common.{◌∙◌}
use Rattle.std.proofs.lemmas.List.Sorted.{list_any-IsPermutation}
use Rattle.iddqd_sorted.proofs.widths.three_keys.Sorted+TriHashMap+T+S.contains_key2.Goals as goal

pub returns : goal.returns
returns g c = c.contains_key2.ensures ∙ list_any-IsPermutation _ _ _ c.inside.ensures.items
