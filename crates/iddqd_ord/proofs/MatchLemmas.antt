-- The items between the two sides of what is sought are those that are sought.
use Rattle.std.proofs.Common.{◌≡◌, Bool, ◌&&◌, List, refl, sym, ap, ◌∙◌}
use Rattle.std.specs.Prelude.{filter}
use Rattle.std.proofs.Math.Path.{fun_ext}
use Rattle.std.specs.Ordering.{is_eq, is_le, is_ge}
use Rattle.std.specs.declared.cmp.Ordering.{Ordering}
use Rattle.std.specs.declared.cmp.Ordering.TheVariants.{Less, Equal, Greater}

between : (o : Ordering) → (is_ge o && is_le o) ≡ is_eq o
between Less = refl
between Equal = refl
between Greater = refl

pub filter-sides : {T : Type 0} {meets : T → Bool} (side : T → Ordering) → ((x : T) → meets x ≡ is_eq (side x)) → (xs : List T) → filter (λ x. is_ge (side x) && is_le (side x)) xs ≡ filter meets xs
filter-sides side equal xs = ap (λ test. filter test xs) (fun_ext (λ x. between (side x) ∙ sym (equal x)))
