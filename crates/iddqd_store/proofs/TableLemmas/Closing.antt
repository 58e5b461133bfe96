-- The hole that a deletion leaves, and the walk behind it that closes it.
use Rattle.std.proofs.Common.{◌≡◌, ◌≢◌, ℕ, ◌+◌, ◌-◌, ◌%◌, ◌<◌, ◌≤◌, ◌∷◌, List, Option, None, Some, length, set, refl, sym, ap, ◌∙◌, subst, ⊎_elim, arith}
use Rattle.std.specs.Prelude.{nat_lt, if◌then◌else◌}
use Rattle.std.specs.List.Sorted.{IsPermutation}
use Rattle.std.proofs.lemmas.List.{get_or-set_other, set-set}
use Rattle.std.proofs.lemmas.List.Sorted.{IsPermutation-trans, IsPermutation-cons, length_permutation}
use Rattle.iddqd_store.specs.Slots.{contents}
use Rattle.iddqd_store.specs.Table.Ring.{cell, gap, stretch, IsReached}
use Rattle.iddqd_store.specs.Table.{hashes, IsTable, IsWayTo}
use Rattle.iddqd_store.proofs.SlotLemmas.Contents.{contents-take}
use Rattle.iddqd_store.proofs.TableLemmas.Line.{cases_option}
use Rattle.iddqd_store.proofs.TableLemmas.Remove.{Holed, reaches, falls_short, left_behind, holed_start, holed_pass, holed_move, holed_end}
use Rattle.iddqd_store.proofs.TableLemmas.Search.{Walk, walk_more, walk_to, walk_below, walk_gap, walk_end, beyond}
use Rattle.iddqd_store.proofs.TableLemmas.Write.{held_move}

-- from the home of the hash past the cell that was emptied, and on
abbrev walked : List (Option (ℕ × ℕ)) → ℕ → ℕ → ℕ → ℕ
walked row hash emptied on = gap (length row) (hash % length row) emptied + 1 + on

-- The pair of cell `emptied` has left. The hole is at `hole` now, and the walk, which began with the count `start` of
-- probes, is `far` cells behind it, at `at`.
pub record IsClosing (row cells : List (Option (ℕ × ℕ))) (hash emptied start probes hole far at : ℕ) : Type 0 where
  pub probed : start ≤ probes
  pub walk : Walk row (hash % length row) at (walked row hash emptied (probes - start))
  pub some : 0 < far
  pub apart : far + gap (length row) (hash % length row) hole ≡ walked row hash emptied (probes - start)
  pub holed : Holed (λ p. p.0 % length row) (length row) (hash % length row) hole (walked row hash emptied (probes - start)) row (set cells hole None)
  pub taken : (pair : ℕ × ℕ) → cell row emptied ≡ Some pair → IsPermutation (contents row) (pair ∷ contents (set cells hole None))

pub closing_first : {row : List (Option (ℕ × ℕ))} {hash emptied start next : ℕ} → IsTable row → cell row emptied ≢ None
    → IsWayTo row (hash % length row) emptied → next ≡ (if nat_lt (emptied + 1) (length row) then emptied + 1 else 0)
    → IsClosing row row hash emptied start start emptied 1 next
closing_first {row = row} {hash = hash} {emptied = emptied} {start = start} {next = next} table some way step =
    let home : ℕ = hash % length row in
    let below : home < length row = let b = way.below in omega arith in
    let walk : Walk row home next (walked row hash emptied (start - start)) = walk_more row home emptied _ table below
    (walk_to row home emptied below way) some next (walked row hash emptied (start - start)) step (omega arith) in
    let b = beyond row home next (walked row hash emptied (start - start)) table below walk in
    record {
      probed = omega arith;
      walk = walk;
      some = omega arith;
      apart = omega arith;
      holed = holed_start (λ p. p.0 % length row) (length row) home below (λ p. omega arith) row emptied b.0 _ refl table.reached way.below b.1 b.2 (omega (arith, b.3)) (omega arith);
      taken = λ pair is. contents-take row emptied pair is;
    }

module _ {row cells : List (Option (ℕ × ℕ))} {hash emptied start probes hole far at : ℕ} (table : IsTable row) (closing : IsClosing row cells hash emptied start probes hole far at) where
  home_below : hash % length row < length row
  home_below = let within = closing.walk.within in omega (arith, within)

  at_below : at < length row
  at_below = walk_below row _ at _ home_below closing.walk

  at_gap : gap (length row) (hash % length row) at ≡ walked row hash emptied (probes - start)
  at_gap = walk_gap row _ at _ home_below closing.walk

  away : at ≢ hole
  away same = let gaps = ap (gap (length row) (hash % length row)) same in omega (arith, gaps, at_gap, closing.holed.behind)

  kept : cell (set cells hole None) at ≡ cell cells at
  kept = get_or-set_other cells hole at None None away

  as_before : cell row at ≡ cell cells at
  as_before = sym (closing.holed.ahead at at_below (omega (arith, at_gap))) ∙ kept

  module _ {pair : ℕ × ℕ} {probes_then next way : ℕ} (is : cell cells at ≡ Some pair) (probe : probes_then ≡ probes + 1)
      (step : next ≡ (if nat_lt (at + 1) (length row) then at + 1 else 0)) (back : way ≡ gap (length row) (pair.0 % length row) at) where
    more : walked row hash emptied (probes_then - start) ≡ walked row hash emptied (probes - start) + 1
    more = omega (arith, probe, closing.probed)

    walk : Walk row (hash % length row) next (walked row hash emptied (probes_then - start))
    walk = walk_more row _ at _ table home_below closing.walk (λ none. cc (none, as_before, is)) next _ step more

    apart : far + gap (length row) (hash % length row) hole ≡ gap (length row) (hash % length row) at
    apart = omega (arith, closing.apart, at_gap)

    -- the hole is on the way of the pair in this cell, which moves into it
    pub closing_moves : far ≤ way → IsClosing row (set cells hole (Some pair)) hash emptied start probes_then at 1 next
    closing_moves on_way =
        let n : ℕ = length row in
        let h = closing.holed in
        let rest : List (Option (ℕ × ℕ)) = set cells hole None in
        let same : set (set cells hole (Some pair)) at None ≡ set (set rest at None) hole (Some pair) = left_behind cells hole at pair away in
        let goes = reaches n _ (pair.0 % n) hole at far home_below (omega (arith, home_below)) h.below at_below closing.some apart (omega (arith, back, on_way)) in
        let b = beyond row _ next _ table home_below walk in
        let moved = holed_move (λ (p : ℕ × ℕ). p.0 % n) n _ home_below
        (λ p. omega (arith, home_below)) row rest hole at b.0 _ _ pair h at_below at_gap (kept ∙ is) goes b.1 b.2 (omega (arith, b.3, more)) more in
        let members = held_move rest at hole pair (omega (arith, h.len, at_below)) (omega (arith, h.len, h.below)) (kept ∙ is) h.empty in
        record {
          probed = omega (arith, probe, closing.probed);
          walk = walk;
          some = omega arith;
          apart = omega (arith, at_gap, more);
          holed = rw same moved;
          taken = λ p was. rw same (IsPermutation-trans _ _ _ (closing.taken p was) (IsPermutation-cons p _ _ members));
        }

    -- it is not, and the pair stays
    pub closing_stays : way < far → IsClosing row (set cells hole (Some pair)) hash emptied start probes_then hole (far + 1) next
    closing_stays short =
        let n : ℕ = length row in
        let h = closing.holed in
        let same : set (set cells hole (Some pair)) hole None ≡ set cells hole None = set-set cells hole (Some pair) None in
        let stays = falls_short n _ (pair.0 % n) hole at far home_below (omega (arith, home_below)) h.below at_below closing.some apart (omega (arith, back, short)) in
        let passed = holed_pass (λ (p : ℕ × ℕ). p.0 % n) n _ home_below (λ p. omega (arith, home_below)) row (set cells hole None) hole at _ _ pair h at_below at_gap (kept ∙ is) stays more in
        record {
          probed = omega (arith, probe, closing.probed);
          walk = walk;
          some = omega arith;
          apart = omega (arith, closing.apart, more);
          holed = rw same passed;
          taken = λ p was. rw same (closing.taken p was);
        }

  module _ (none : cell cells at ≡ None) where
    pub closed_stretch : stretch (hashes (contents row)) (length row) hash ≡ walked row hash emptied (probes - start)
    closed_stretch = walk_end row hash at _ table closing.walk (as_before ∙ none)

    pub closed_table : cell row emptied ≢ None → IsTable (set cells hole None)
    closed_table some =
        let reached = holed_end (λ (p : ℕ × ℕ). p.0 % length row) (length row) _ home_below (λ p. omega (arith, home_below)) row
        (set cells hole None) hole at _ closing.holed at_below at_gap (kept ∙ none) in
        ⊎_elim (λ (empty : cell row emptied ≡ None). absurd (some empty))
        (λ (was : (x : ℕ × ℕ) × (cell row emptied ≡ Some x)).
        let fewer = length_permutation _ _ (closing.taken was.0 was.1) in
        record {
          size = rw closing.holed.len table.size;
          fits = rw closing.holed.len (omega (arith, fewer, table.fits));
          reached = subst (λ (m : ℕ). IsReached (λ p. p.0 % m) m (set cells hole None)) (sym closing.holed.len) reached;
        })
        (cases_option (cell row emptied))
