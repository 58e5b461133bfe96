use Rattle.std.proofs.Common.{ℕ, ◌+◌, ◌-◌, ◌*◌, ◌/◌, arith, inl, inr}
use Rattle.std.proofs.lemmas.Bool.{cases_lt}
use Rattle.iddqd_order.proofs.SearchLemmas.{quartered}
use Rattle.iddqd_order.proofs.search.partition_point.Goals as goal

pub loop-size-preserved : goal.loop-size-preserved
loop-size-preserved g c =
    let i = c.loop-size.invariant in
    let skip = c.passed_over-low.result in
    let part : ℕ = (c.loop-size.size - 3) / 4 + 1 in
    record {
      within = omega (arith, i.within, c.passed_over-low.ensures.most);
      below = λ k lt. elim (cases_lt 0 skip) [
        | inl any ↦ c.passed_over-low.ensures.below k any lt
        | inr none ↦ i.below k (omega (arith, none, lt))
      ];
      above = λ k le in_range. elim (cases_lt skip (3 * part)) [
        | inl some ↦ c.passed_over-low.ensures.above k some (omega (arith, le)) in_range
        | inr all ↦ i.above k (omega (arith, all, le)) in_range
      ];
      asks = λ r few.
          let had = i.asks r few in
          let less = quartered c.loop-size.size had.0 (omega arith) had.2 in
          (less.0, omega (arith, less.1, had.1, c.passed_over-low.ensures.asked), omega (arith, less.2));
    }
