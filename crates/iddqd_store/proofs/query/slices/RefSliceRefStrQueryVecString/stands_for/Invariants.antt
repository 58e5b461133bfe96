use Rattle.std.proofs.Common.{◌≡◌, ℕ, Bool, List, Bor, String, nat_eq, string_bytes, length}
use Rattle.std.specs.Cmp.Lexicographic.{pointwise}
use Rattle.std.specs.Slice.Iter.{iter_rest}
use Rattle.iddqd_store.proofs.query.slices.RefSliceRefStrQueryVecString.stands_for.Given as goal

-- whether texts are those of a key, one by one
abbrev pub alike : {A : Type 0} → List (Bor (List ℕ)) → List (String A) → Bool
alike = pointwise (λ t s. pointwise nat_eq t.now (string_bytes s))

-- what is left of the texts is alike what is left of the key if all of them are
abbrev pub invariant-loop-text : goal.invariant-loop-text
invariant-loop-text g l = alike (iter_rest l.texts) (iter_rest l.parts) ≡ alike (iter_rest l.initial.texts) (iter_rest l.initial.parts)

abbrev pub decreases-loop-text : goal.decreases-loop-text
decreases-loop-text g l = length (iter_rest l.texts)
