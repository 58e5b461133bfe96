-- What an iteration ends as, if the next item was written.
use Rattle.std.specs.Prelude.{◌≡◌, ℕ, ◌+◌, ◌^◌, ◌<◌, Some, length}
use Rattle.std.specs.Borrow.{GName}
use Rattle.std.proofs.Common.{refl, ap, inl, arith, ◌⊎◌}
use mathlib.Core.Path.{fun_ext}
use native.Mathlib.Numerals.{unary_clauses}
use Rattle.iddqd_store.specs.Map.Written.{map_with}
use Rattle.iddqd_store.specs.Map.Walk.{first_from, one_fewer}
use Rattle.iddqd_bi.specs.IterMuts.{next_iteration, rest_of, IsCounted, IsNextOf}
use Rattle.iddqd_bi.specs.declared.iter_mut.IterMut.{IterMut}

module _ {T S K1 K2 H : Type 0} (it : IterMut T S K1 K2 H) where
  pub steps_to : {D : Type 0} (put : D → T → T) (name : GName) (slot n left : ℕ) → n ≡ slot → left ≡ one_fewer it.left
      → first_from it.map.now.slots it.next ≡ Some slot → ◌≡◌ {A = (GName × (D → IterMut T S K1 K2 H)) ⊎ IterMut T S K1 K2 H}
      (inl (name, λ w. record { map = record it.map { now = map_with it.map.now slot (put w) }; next = n + 1; left = left })) (inl (name, λ w. next_iteration it (put w)))
  steps_to {D} put name slot n left is fewer step =
      let ends : D → IterMut T S K1 K2 H = λ w. record { map = record it.map { now = map_with it.map.now slot (put w) }; next = n + 1; left = left } in
      let steps : D → IterMut T S K1 K2 H = λ w. next_iteration it (put w) in
      let same : (w : D) → ends w ≡ steps w = λ w. rw (is, fewer, step) refl in
      ap (λ (F : D → IterMut T S K1 K2 H). inl (name, F)) (fun_ext same)

-- an iteration that is counted right is still counted right after its next item is written
module _ {T S K1 K2 H : Type 0} (it : IterMut T S K1 K2 H) where
  pub counted_on : it.left < 2 ^ 64 → (f : T → T) → IsCounted it → IsNextOf it → IsCounted (next_iteration it f)
  counted_on fits f counted next =
      let more : it.left ≡ length (rest_of (next_iteration it f)) + 1 = rw (counted, next.1.comes, next.1.behind f) (simp unary_clauses refl) in
      omega arith
