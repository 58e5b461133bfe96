-- An item that a query seeks goes where the search for it ended, and a second search does not miss it.
use Rattle.std.proofs.Common.{◌≡◌, ℕ, ◌≤◌, true, List, Some, length, get_or, refl, sym, ap, ◌∙◌, arith}
use Rattle.std.specs.Prelude.{slice_get}
use Rattle.std.specs.List.{insert}
use Rattle.std.specs.Cmp.{IsTotalOrder}
use Rattle.std.specs.Ordering.{ordering_reverse, is_eq}
use Rattle.std.specs.declared.cmp.Ordering.{Ordering}
use Rattle.std.specs.declared.cmp.Ordering.TheVariants.{Less, Equal, Greater}
use Rattle.std.proofs.lemmas.Bool.{false≢true}
use Rattle.std.proofs.lemmas.List.Edits.{length-insert, get_or-insert_at}
use Rattle.std.proofs.lemmas.Option.{slice_get-get_or}
use Rattle.iddqd_order.specs.Search.{IsSplit}
use Rattle.iddqd_ord.specs.Ordered.{IsRising}

module _ {T K : Type 0} {cmp : K → K → Ordering} (o : IsTotalOrder cmp) (key : T → K) (compare : T → Ordering) (r : IsRising cmp key compare) (x : T) (here : compare x ≡ Equal) where
  lower : (y : T) (c : Ordering) → cmp (key y) (key x) ≡ c → compare y ≡ Less → cmp (key y) (key x) ≡ Less
  lower y Less is e = is
  lower y Equal is e = absurd (false≢true (ap is_eq (sym e ∙ r.same y x is ∙ here)))
  lower y Greater is e =
      let back : cmp (key x) (key y) ≡ Less = o.antisymm (key x) (key y) ∙ ap ordering_reverse is in
      absurd (false≢true (ap is_eq (sym (r.less x y back e) ∙ here)))

  higher : (y : T) (c : Ordering) → cmp (key y) (key x) ≡ c → compare y ≡ Greater → cmp (key y) (key x) ≡ Greater
  higher y Greater is e = is
  higher y Equal is e = absurd (false≢true (ap is_eq (sym e ∙ r.same y x is ∙ here)))
  higher y Less is e = absurd (false≢true (ap is_eq (sym (r.greater y x is e) ∙ here)))

  -- the gap for what the query seeks is the one for the item
  pub gap_for : (xs : List T) (i : ℕ) → IsSplit compare xs i 0 → IsSplit (λ y. cmp (key y) (key x)) xs i 0
  gap_for xs i s = record {
    in_range = s.in_range;
    below = λ j d lt. lower (get_or xs j d) _ refl (s.below j d lt);
    equal = λ j d le lt. absurd (omega (arith, le, lt));
    above = λ j d le lt. higher (get_or xs j d) _ refl (s.above j d le lt);
  }

-- the item that was inserted
pub inserted_there : {T : Type 0} (xs ys : List T) (i : ℕ) (x : T) → i ≤ length xs → ys ≡ insert xs i x → slice_get ys i ≡ Some x
inserted_there xs ys i x le is =
    ap (λ (q : List _). slice_get q i) is ∙ slice_get-get_or (insert xs i x) i x (omega (arith, le, length-insert xs i x le)) ∙ ap Some (get_or-insert_at xs i x x le)
