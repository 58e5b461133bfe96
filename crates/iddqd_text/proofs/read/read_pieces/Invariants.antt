use Rattle.std.proofs.Common.{◌≡◌, ◌-◌, ◌^◌, vec_len}
use Rattle.std.specs.Io.KnownBytes.{Consumes}
use Rattle.iddqd_text.proofs.read.read_pieces.Given as goal

-- what was read so far is a prefix
abbrev pub invariant-loop-text : goal.invariant-loop-text
invariant-loop-text g l = record {
  bytes : Consumes (g.R.Source.left l.fn.source) (g.R.Source.left l.source) l.text.items;
  failures : g.R.Source.failures l.source ≡ g.R.Source.failures l.fn.source;
}

-- each turn adds a byte to a text whose length `usize` bounds
abbrev pub decreases-loop-text : goal.decreases-loop-text
decreases-loop-text g l = 2 ^ 64 - vec_len l.text
