-- What a search may still ask about, where no two pairs have the same slot.
use Rattle.std.proofs.Common.{◌≡◌, ℕ, ◌+◌, ◌%◌, ◌<◌, ◌≤◌, List, Option, Some, length, sym, ap, arith, inl, inr}
use Rattle.std.specs.Prelude.{◌≢◌, ◌==◌, ◌⊎◌}
use Rattle.std.proofs.lemmas.Bool.{eq-eqb}
use Rattle.iddqd_store.specs.Slots.{contents}
use Rattle.iddqd_store.specs.Table.{HaveOwnSlots}
use Rattle.iddqd_store.specs.Table.Ring.{cell, gap}
use Rattle.iddqd_store.proofs.RankLemmas.Index.{same_slot, same_slot_symm}
use Rattle.iddqd_store.proofs.TableLemmas.Stretch.{place, gap_place}

-- the slots with the hash in the cells from the `s`-th from home on
abbrev pub StillToAsk : List (Option (ℕ × ℕ)) → ℕ → (ℕ → Type 0) → ℕ → Type 0
StillToAsk row hash MayAsk s = (k : ℕ) → s ≤ k → k < length row → (slot : ℕ) → cell row (place (length row) (hash % length row) k) ≡ Some (hash, slot) → MayAsk slot

-- a later cell has another slot
other_slot : (row : List (Option (ℕ × ℕ))) (home s k : ℕ) (x y : ℕ × ℕ) → HaveOwnSlots (contents row) → home < length row → s < k → k < length row
    → cell row (place (length row) home s) ≡ Some x → cell row (place (length row) home k) ≡ Some y → y.1 ≢ x.1
other_slot row home s k x y own l later below here there e =
    let n = length row in
    let same : place n home s ≡ place n home k = same_slot (λ (p q : ℕ × ℕ). p.1 == q.1) row _ _ x y own same_slot_symm here there (eq-eqb x.1 y.1 (sym e)) in
    let back : gap n home (place n home s) ≡ gap n home (place n home k) = ap (gap n home) same in
    let first : gap n home (place n home s) ≡ s = gap_place n home s l (omega arith) in
    let second : gap n home (place n home k) ≡ k = gap_place n home k l below in
    absurd (omega (arith, back, first, second))

-- what is true of each matcher is true of this one
pub or_may_always : {M : Type 0} (row : List (Option (ℕ × ℕ))) (MayAsk : M → ℕ → Type 0) (m : M)
    → HaveOwnSlots (contents row) ⊎ ((n : M) (slot : ℕ) → MayAsk n slot) → HaveOwnSlots (contents row) ⊎ ((slot : ℕ) → MayAsk m slot)
or_may_always row MayAsk m (inl own) = inl own
or_may_always row MayAsk m (inr always) = inr (always m)

-- after a question about the slot of one cell, the slots behind it may still be asked about
pub still_to_ask : (row : List (Option (ℕ × ℕ))) (hash s t : ℕ) (x : ℕ × ℕ) (Before After : ℕ → Type 0)
    → HaveOwnSlots (contents row) ⊎ ((slot : ℕ) → After slot) → hash % length row < length row → t ≡ s + 1
    → cell row (place (length row) (hash % length row) s) ≡ Some x → ((other : ℕ) → other ≢ x.1 → Before other → After other)
    → StillToAsk row hash Before s → StillToAsk row hash After t
still_to_ask row hash s t x Before After (inr always) l next here others may k far below slot there = always slot
still_to_ask row hash s t x Before After (inl own) l next here others may k far below slot there =
    others slot (other_slot row (hash % length row) s k x (hash, slot) own l (omega arith) below here there) (may k (omega arith) below slot there)
