-- Made by tests/widths from crates/iddqd_sorted/proofs/widths/two_keys/Sorted+BiHashMap+T+S/get2/Answers.antt: change that file.
use Rattle.iddqd_sorted.proofs.Finding.{IsOnly-permutation}
use Rattle.iddqd_sorted.proofs.widths.three_keys.Sorted+TriHashMap+T+S.get2.Goals as goal

pub returns : goal.returns
returns g c = IsOnly-permutation _ _ _ c.inside.ensures.items _ c.get2.ensures
