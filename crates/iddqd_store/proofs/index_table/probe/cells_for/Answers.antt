use Rattle.std.proofs.Common.{rules, arith, ℕ, ◌≡◌, ◌+◌, ◌*◌, ◌/◌, ◌^◌, ◌<◌, ◌≤◌, subst, inr}
use Rattle.iddqd_store.proofs.Plain.{by_order}
use Rattle.iddqd_store.proofs.TableLemmas.Limits.{doubled, least_found, size_most}
use Rattle.iddqd_store.proofs.index_table.probe.cells_for.Goals as goal

step : (k m count twice : ℕ) → count ≡ 8 * 2 ^ k → twice ≡ count * 2 → count / 8 * 7 < m → ((j : ℕ) → j < k → 7 * 2 ^ j < m) → (x : ℕ) × (twice ≡ 8 * 2 ^ x) × ((j : ℕ) → j < x → 7 * 2 ^ j < m)
step k m count twice e t l before =
    let d : 2 ^ (k + 1) ≡ 2 * 2 ^ k = doubled k in (
      k + 1,
      omega arith,
      λ j lj. by_order j k (λ (h : j < k). before j h)
          (λ (h : k ≤ j). let same : k ≡ j = omega arith in subst (λ (i : ℕ). 7 * 2 ^ i < m) same (omega arith)),
    )

pub loop-count-preserved : goal.loop-count-preserved
loop-count-preserved c =
    let i = c.loop-count.invariant in
    step i.0 c.args.pairs c.loop-count.count c.in_ok-count.count i.1 (search (rules, c.checked_mul.ensures, c.in_ok-count.ensures)) c.loop-count-test.true i.2

pub returns-clause-least : goal.returns-clause-least
returns-clause-least c =
    let i = c.loop-count.invariant in
    let e : c.loop-count.count ≡ 8 * 2 ^ i.0 = i.1 in
    least_found c.args.pairs i.0 c.loop-count.count (omega (arith, c.if-pairs-eq0.false)) e (omega (arith, e, c.loop-count-test.false)) i.2

pub returns-clause-past : goal.returns-clause-past
returns-clause-past c =
    let i = c.loop-count.invariant in
    let most = size_most c.loop-count.count (inr (i.0, i.1)) (omega (arith, c.loop-count.auto.count-fits)) in
    (λ e. absurd (cc e), λ l. absurd (omega (arith, l, most, c.loop-count-test.false)))
