use Rattle.std.proofs.Common.{◌≡◌, ◌≤◌, ◌-◌, length, take}
use Rattle.std.specs.Io.KnownBytes.{Appends}
use Rattle.iddqd_text.proofs.write.write_all.Given as goal

-- the bytes up to here were written
abbrev pub invariant-loop-at : goal.invariant-loop-at
invariant-loop-at g l = record {
  in_range : l.at ≤ length l.bytes;
  held : Appends (g.W.Out.held l.fn.out) (g.W.Out.held l.out) (take l.at l.bytes);
  failures : g.W.Out.failures l.out ≡ g.W.Out.failures l.fn.out;
}

abbrev pub decreases-loop-at : goal.decreases-loop-at
decreases-loop-at g l = length l.initial.bytes - l.at
