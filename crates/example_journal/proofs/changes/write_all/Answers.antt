use Rattle.std.proofs.Common.{◌≡◌, [], ◌∷◌, ◌++◌, rules}
use Rattle.std.proofs.lemmas.List.{append_assoc}
use Rattle.std.proofs.lemmas.List.Sorted.{IsPermutation-append_comm}
use Rattle.example_journal.specs.Changes.{line_of}
use Rattle.example_journal.specs.declared.changes.Change.TheVariants.{Plug}
use Rattle.example_journal.proofs.Lines.{tells-more}
use Rattle.example_journal.proofs.changes.write_all.Goals as goal

-- the line of one device more
pub loop-device-preserved : goal.loop-device-preserved
loop-device-preserved c =
    let done = c.loop-device.invariant.0 in
    let device = c.in-Some.device.now in
    let line : c.as_bytes.result.now ≡ line_of (Plug device) = search rules in (
      done ++ device ∷ [],
      search (rules, append_assoc done (device ∷ []) c.next.new.self),
      rw (c.in_ok-extend_from_slice.ensures.items, line) (tells-more c.loop-device.lines.items done (done ++ device ∷ []) (Plug device)
          c.loop-device.invariant.2 c.write_line.ensures.in_range (IsPermutation-append_comm done (device ∷ []))),
    )
