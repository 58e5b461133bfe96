-- Made by tests/widths from crates/caller_bi/proofs/laws/rooming/insert_all_after_reserve/Answers.antt: change that file.
use Rattle.std.proofs.Common.{◌≡◌, length, ap, inl, inr, arith}
use Rattle.iddqd_id.specs.Map.{bag}
use Rattle.iddqd_id.proofs.CallerLemmas.{length-inserted}
use Rattle.caller_id.proofs.laws.rooming.insert_all_after_reserve.Goals as goal

-- one item less is left, and the map has at most one more
pub loop-item-preserved : goal.loop-item-preserved
loop-item-preserved g c =
    elim c.insert_or_lack.ensures.one_at_most [
      | inl went_in ↦ omega (
        arith,
        length-inserted (bag c.loop-item.map) (bag c.insert_or_lack.new.map) c.in-Some.item went_in,
        c.loop-item.invariant,
        c.in-Some.ensures.len,
        c.insert_or_lack.ensures.no_less_room,
      )
      | inr same ↦ let as_many : length (bag c.insert_or_lack.new.map) ≡ length (bag c.loop-item.map) = ap (λ m. length (bag m)) same in
          omega (arith, c.loop-item.invariant, c.in-Some.ensures.len, c.insert_or_lack.ensures.no_less_room)
    ]
