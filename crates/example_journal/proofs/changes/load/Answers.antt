use Rattle.std.proofs.Common.{◌≡◌, ℕ, length, take, drop, ap, arith, rules, length-take, length-drop}
use Rattle.std.proofs.Math.Seq.{take-add}
use Rattle.std.proofs.lemmas.List.{take_all}
use Rattle.iddqd_bi.specs.Map.{bag}
use Rattle.example_journal.proofs.Lines.{tells-more}
use Rattle.example_journal.proofs.changes.load.Goals as goal

-- one line more
pub loop-rest-preserved : goal.loop-rest-preserved
loop-rest-preserved c =
    let at = c.loop-rest.at in
    let bytes = c.args.bytes.now in
    let line = c.split_at.result.0.now in
    let made = c.in_ok-make.ensures c.if-not-branch.false in
    let read : line ≡ take (length line) (drop at bytes) = search (rules, take_all {A = ℕ}, length-drop at bytes) in (
      omega (arith, length-drop at bytes, ap length read, length-take (length line) (drop at bytes)),
      rw (take-add, ← read, made.1) (tells-more (take at bytes) (bag c.loop-rest.devices) (bag c.make.new.devices) made.0 c.loop-rest.invariant.1 made.2 made.3),
    )
