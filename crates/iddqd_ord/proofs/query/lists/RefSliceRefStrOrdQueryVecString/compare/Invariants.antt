use Rattle.std.proofs.Common.{◌≡◌, ℕ, List, Bor, String, string_bytes, length}
use Rattle.std.specs.Cmp.Lexicographic.{slice_cmp}
use Rattle.std.specs.Ordering.{nat_cmp}
use Rattle.std.specs.Slice.Iter.{iter_rest}
use Rattle.std.specs.declared.cmp.Ordering.{Ordering}
use Rattle.iddqd_ord.proofs.query.lists.RefSliceRefStrOrdQueryVecString.compare.Given as goal

-- how the texts of a key compare with those that are sought
abbrev pub compared : {A : Type 0} → List (String A) → List (Bor (List ℕ)) → Ordering
compared = slice_cmp (λ s t. slice_cmp nat_cmp (string_bytes s) t.now)

-- what is left of the key compares with what is left of the texts as the whole key does with all of them
abbrev pub invariant-loop-part : goal.invariant-loop-part
invariant-loop-part g l = compared (iter_rest l.parts) (iter_rest l.texts) ≡ compared (iter_rest l.initial.parts) (iter_rest l.initial.texts)

abbrev pub decreases-loop-part : goal.decreases-loop-part
decreases-loop-part g l = length (iter_rest l.parts)
