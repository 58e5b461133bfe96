-- Calling a closure at each item of a list in turn.
use Rattle.std.proofs.Common.{◌≡◌, ℕ, suc, ◌+◌, ◌-◌, ◌≤◌, List, [], ◌∷◌, ◌++◌, Option, Some, None, length, set, take, drop, refl, sym, ap, ◌∙◌, subst, arith, append_assoc, drop-cons}
use Rattle.std.specs.Prelude.{slice_get, MatchOption}
use Rattle.std.specs.Option.{option_and_then}
use Rattle.std.proofs.lemmas.List.{drop-set-lt, take_more_set, drop_all, take_all, append-nil}
use Rattle.std.proofs.lemmas.Option.{get_or_from_slice_get, slice_get_past, slice_get_within}
use Rattle.iddqd_store.specs.Bag.Storing.{Writes}
use Rattle.iddqd_ord.specs.Items.{OrdMap, items}
use Rattle.iddqd_order.specs.Row.{line, position, index_of}
use Rattle.iddqd_ord.specs.Updates.{MapsAll}
use Rattle.iddqd_order.specs.declared.place.Place.{Place}

pub drop-next : {T : Type 0} (xs : List T) (i : ℕ) (x : T) → slice_get xs i ≡ Some x → drop i xs ≡ x ∷ drop (suc i) xs
drop-next xs i x found = drop-cons xs i x (slice_get_within xs i x found) ∙ ap (λ (y : _). y ∷ drop (suc i) xs) (get_or_from_slice_get xs i x x found)

pub drop_left : {T : Type 0} (now new : List T) (i j : ℕ) (y : T) → new ≡ set now i y → j ≡ i + 1 → drop j new ≡ drop (suc i) now
drop_left now new i j y is next =
    let one : i + 1 ≡ suc i = omega arith in
    (λ t. drop (next t) (is t)) ∙ drop-set-lt (i + 1) now i y (omega arith) ∙ ap (λ (n : ℕ). drop n now) one

module _ {F T D : Type 0} (step : F → T → D → F → Type 0) (put : T → D → T) where
  -- The closure was called at the items before the index `i`, and what it returned was written. What it makes of the
  -- others completes the list.
  abbrev pub Completes : F → List T → F → List T → ℕ → Type 0
  Completes f old h now i = (rest : List T) → Writes step put h (drop i now) rest → Writes step put f old (take i now ++ rest)

  pub completes_next : (f : F) (old : List T) (h k : F) (now new : List T) (i j : ℕ) (x : T) (d : D) → slice_get now i ≡ Some x → step h x d k
      → new ≡ set now i (put x d) → j ≡ i + 1 → Completes f old h now i → Completes f old k new j
  completes_next f old h k now new i j x d found called is next done rest more =
      let within = slice_get_within now i x found in
      let left = drop_left now new i j (put x d) is next in
      let came : take j new ++ rest ≡ take i now ++ (put x d ∷ rest) =
      ap (λ (q : List T). q ++ rest) ((λ t. take (next t) (is t)) ∙ take_more_set now i (put x d) within) ∙ append_assoc (take i now) (put x d ∷ []) rest in
      subst (Writes step put f old) (sym came)
      (done (put x d ∷ rest) (subst (λ (q : List T). Writes step put h q (put x d ∷ rest)) (sym (drop-next now i x found))
      (d, k, rest, called, refl, subst (λ (q : List T). Writes step put k q rest) left more)))

  pub completes_all : (f : F) (old : List T) (h : F) (now : List T) (i : ℕ) → length now ≤ i → Completes f old h now i → Writes step put f old now
  completes_all f old h now i all done =
      subst (Writes step put f old) (append-nil (take i now) ∙ take_all i now all) (done [] (subst (λ (q : List T). Writes step put h q []) (sym (drop_all i now all)) refl))

  pub maps_written : (f : F) (old new : List T) → Writes step put f old new → MapsAll step put f old new
  maps_written f [] new is write says = is
  maps_written f (x ∷ old) new written write says =
      let at = says x written.0 written.1 written.3 in
      written.4 ∙ (λ t. sym at.1 t ∷ maps_written f old written.2 (subst (λ (h : F). Writes step put h old written.2) at.0 written.5) write says t)

-- the item at the first place, and at the last one
pub first_item : {T : Type 0} (m : OrdMap T) (r : Option Place) → index_of m.blocks r ≡ 0 → option_and_then (λ p. slice_get (items m) (position m.blocks p)) r ≡ slice_get (items m) 0
first_item m None is = sym (slice_get_past (items m) 0 (omega (arith, is)))
first_item m (Some p) is = ap (slice_get (items m)) is

pub last_item : {T : Type 0} (m : OrdMap T) (r : Option Place) → length (items m) ≡ length (line m.blocks) → MatchOption r (line m.blocks ≡ []) (λ p. position m.blocks p + 1 ≡ length (line m.blocks))
    → option_and_then (λ p. slice_get (items m) (position m.blocks p)) r ≡ slice_get (items m) (length (items m) - 1)
last_item m None long none =
    let empty : length (line m.blocks) ≡ 0 = ap length none in
    sym (slice_get_past (items m) (length (items m) - 1) (omega (arith, long, empty)))
last_item m (Some p) long is =
    let at : position m.blocks p ≡ length (items m) - 1 = omega (arith, long, is) in
    ap (slice_get (items m)) at

-- there is no next place, so all items were passed
pub all_passed : {T : Type 0} (m : OrdMap T) (r : Option Place) → ((p : Place) → r ≡ Some p → ⊥) → length (items m) ≤ index_of m.blocks r
all_passed m None none = omega arith
all_passed m (Some p) none = absurd (none p refl)
