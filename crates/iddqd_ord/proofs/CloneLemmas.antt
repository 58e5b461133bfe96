-- Clones of items in ascending order.
use Rattle.std.proofs.Common.{◌≡◌, ℕ, ◌<◌, List, length, get_or, ◌∙◌, arith}
use Rattle.std.proofs.lemmas.List.Elements.{AllZip-get_or, Contains-get_or, length_all_zip}
use Rattle.std.specs.List.{AllZip, Contains}
use Rattle.std.specs.Cmp.{IsTotalOrder, alike_right}
use Rattle.std.specs.declared.cmp.Ordering.{Ordering}
use Rattle.std.specs.declared.cmp.Ordering.TheVariants.{Equal}
use Rattle.iddqd_ord.specs.Ordered.{IsAscending}

-- clones whose keys are equal to those of their items ascend as the items do
pub IsAscending-cloned : {T K : Type 0} {cmp : K → K → Ordering} (o : IsTotalOrder cmp) (key : T → K) (is_clone : T → T → Type 0) (all copies : List T)
    → ((x c : T) → Contains all x → is_clone x c → cmp (key c) (key x) ≡ Equal) → IsAscending cmp key all → AllZip is_clone all copies → IsAscending cmp key copies
IsAscending-cloned {T} {cmp = cmp} o key is_clone all copies same_key up zip i j d lt within =
    let long = length_all_zip is_clone all copies zip in
    let same : (k : ℕ) → k < length all → cmp (key (get_or copies k d)) (key (get_or all k d)) ≡ Equal =
    λ k there. same_key (get_or all k d) (get_or copies k d) (Contains-get_or all k d there) (AllZip-get_or is_clone all copies k d d zip there) in
    let one = same i (omega (arith, long)) in
    let other = same j (omega (arith, long)) in
    o.congr _ _ _ one ∙ (alike_right o (key (get_or copies j d)) (key (get_or all j d)) (key (get_or all i d)) other ∙ up i j d lt (omega (arith, long)))
