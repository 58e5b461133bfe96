-- Going over a list in turn, where each step writes an element or removes it.
use Rattle.std.proofs.Common.{◌≡◌, ℕ, suc, ◌+◌, ◌<◌, ◌≤◌, List, [], ◌∷◌, ◌++◌, Option, Some, None, length, set, take, drop, refl, sym, ap, subst, ◌∙◌, arith, add-one, append_assoc}
use Rattle.std.specs.Prelude.{slice_get, slice_index_or}
use Rattle.std.specs.List.{cons_option, remove}
use Rattle.std.specs.Option.{option_map, option_to_list}
use Rattle.std.proofs.lemmas.List.{drop_all, take_all, append-nil, take_more_set}
use Rattle.std.proofs.lemmas.Option.{slice_get-get_or, slice_get_within}
use Rattle.iddqd_store.specs.Bag.Storing.{Rewrites}
use Rattle.iddqd_order.specs.declared.place.Place.{Place}
use Rattle.iddqd_order.specs.Row.{position}
use Rattle.iddqd_ord.specs.Calls.{FilterMaps}
use Rattle.iddqd_ord.specs.Items.{OrdMap, items}
use Rattle.iddqd_ord.specs.Writing.{map_with, position-written}
use Rattle.iddqd_order.proofs.RetainLemmas.{drop-removed, take-removed}
use Rattle.iddqd_ord.proofs.VisitLemmas.{drop-next, drop_left}

-- the items from an index on, the item there being known
pub from_index : {T : Type 0} (xs : List T) (i : ℕ) (x : T) → slice_get xs i ≡ Some x → drop i xs ≡ x ∷ drop (i + 1) xs
from_index xs i x found = rw add-one (drop-next xs i x found)

-- the item at a place
pub item_at : {T : Type 0} (m : OrdMap T) (p : Place) (x : T) → position m.blocks p < length (items m) → ((d : T) → x ≡ slice_index_or (items m) (position m.blocks p) d)
    → slice_get (items m) (position m.blocks p) ≡ Some x
item_at m p x within is = slice_get-get_or (items m) (position m.blocks p) x within ∙ ap Some (sym (is x))

-- the place behind one whose item was written
pub next_index : {T : Type 0} (m : OrdMap T) (p : Place) (f : T → T) (j : ℕ) → j ≡ position (map_with m p f).blocks p + 1 → j ≡ position m.blocks p + 1
next_index m p f j next = next ∙ ap (λ (n : ℕ). n + 1) (position-written m p f p)

-- an item was written
pub written_before : {T : Type 0} (now new : List T) (i j : ℕ) (x y : T) → slice_get now i ≡ Some x → new ≡ set now i y → j ≡ i + 1 → take j new ≡ take i now ++ y ∷ []
written_before now new i j x y found is next = (λ t. take (next t) (is t)) ∙ take_more_set now i y (slice_get_within now i x found)

pub written_behind : {T : Type 0} (now new : List T) (i j : ℕ) (y : T) → new ≡ set now i y → j ≡ i + 1 → drop j new ≡ drop (i + 1) now
written_behind {T} now new i j y is next =
    let left : drop j new ≡ drop (suc i) now = drop_left now new i j y is next in
    let one : i + 1 ≡ suc i = omega arith in
    left ∙ ap (λ (n : ℕ). drop n now) (sym one)

-- an item was removed
pub removed_before : {T : Type 0} (now new : List T) (i j : ℕ) → new ≡ remove now i → j ≡ i → take j new ≡ take i now ++ []
removed_before now new i j is same = (λ t. take (same t) (is t)) ∙ take-removed now i ∙ sym (append-nil (take i now))

pub removed_behind : {T : Type 0} (now new : List T) (i j : ℕ) → new ≡ remove now i → j ≡ i → drop j new ≡ drop (i + 1) now
removed_behind now new i j is same = (λ t. drop (same t) (is t)) ∙ drop-removed now i

module _ {F T D : Type 0} (step : F → T → Option D → F → Type 0) (put : T → D → T) where
  -- The closure was called at the items before the index `i`, and what it returned was written. What it makes of the others
  -- completes the list.
  abbrev pub Completes : F → List T → F → List T → ℕ → Type 0
  Completes f old h now i = (rest : List T) → Rewrites step put h (drop i now) rest → Rewrites step put f old (take i now ++ rest)

  pub completes_next : (f : F) (old : List T) (h k : F) (now new : List T) (i j : ℕ) (x : T) (o : Option D) → slice_get now i ≡ Some x → step h x o k
      → take j new ≡ take i now ++ option_to_list (option_map (put x) o) → drop j new ≡ drop (i + 1) now → Completes f old h now i → Completes f old k new j
  completes_next f old h k now new i j x o found called before behind done rest more =
      let made = option_to_list (option_map (put x) o) in
      subst (Rewrites step put f old) (sym (ap (λ (q : List T). q ++ rest) before ∙ append_assoc (take i now) made rest))
      (done (made ++ rest) (subst (λ (q : List T). Rewrites step put h q (made ++ rest)) (sym (from_index now i x found))
      (o, k, rest, called, refl, subst (λ (q : List T). Rewrites step put k q rest) behind more)))

  pub completes_all : (f : F) (old : List T) (h : F) (now : List T) (i : ℕ) → length now ≤ i → Completes f old h now i → Rewrites step put f old now
  completes_all f old h now i all done =
      subst (Rewrites step put f old) (append-nil (take i now) ∙ take_all i now all) (done [] (subst (λ (q : List T). Rewrites step put h q []) (sym (drop_all i now all)) refl))

  listed_onto : (o : Option T) (rest : List T) → option_to_list o ++ rest ≡ cons_option o rest
  listed_onto None rest = refl
  listed_onto (Some y) rest = refl

  pub filter_maps_rewritten : (f : F) (old new : List T) → Rewrites step put f old new → FilterMaps step put f old new
  filter_maps_rewritten f [] new is write says = is
  filter_maps_rewritten f (x ∷ old) new (o, g, rest, called, are, on) write says =
      let told = says x o g called in
      are ∙ listed_onto (option_map (put x) o) rest ∙ ap (λ (p : Option T). cons_option p rest) (sym told.1)
      ∙ ap (λ (q : List T). cons_option (write x) q) (filter_maps_rewritten f old rest (subst (λ (h : F). Rewrites step put h old rest) told.0 on) write says)

  one_more : (x : T) (o : Option D) (rest : List T) (n : ℕ) → length rest ≤ n → length (option_to_list (option_map (put x) o) ++ rest) ≤ n + 1
  one_more x None rest n h = omega (arith, h)
  one_more x (Some d) rest n h = omega (arith, h)

  pub length_rewritten : (f : F) (old new : List T) → Rewrites step put f old new → length new ≤ length old
  length_rewritten f [] new is = rw is (omega arith)
  length_rewritten f (x ∷ old) new h = omega (arith, ap length h.4, one_more x h.0 h.2 (length old) (length_rewritten h.1 old h.2 h.5))
