use Rattle.std.proofs.Common.{◌≡◌, ◌-◌, drop, length}
use Rattle.iddqd_text.specs.Texts.{is_text}
use Rattle.iddqd_text.proofs.words.is_word.Given as goal

-- the bytes so far are those of the word
abbrev pub invariant-loop-at : goal.invariant-loop-at
invariant-loop-at l = record {
  same : is_text (drop l.at l.fn.bytes) (drop l.at l.fn.word) ≡ is_text l.fn.bytes l.fn.word;
  long : length l.fn.bytes ≡ length l.fn.word;
}

abbrev pub decreases-loop-at : goal.decreases-loop-at
decreases-loop-at l = length l.fn.word - l.at
