-- Made by tests/widths from crates/iddqd_sorted/proofs/widths/two_keys/Sorted+BiHashMap+T+S/contains_key1/Answers.antt: change that file.
use Rattle.std.proofs.Common.{◌∙◌}
use Rattle.std.proofs.lemmas.List.Sorted.{list_any-IsPermutation}
use Rattle.iddqd_sorted.proofs.widths.one_key.Sorted+IdHashMap+T+S.contains_key.Goals as goal

pub returns : goal.returns
returns g c = c.contains_key.ensures ∙ list_any-IsPermutation _ _ _ c.inside.ensures.items
