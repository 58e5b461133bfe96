-- Going over a list from an index on up to the first element that a closure accepts, which leaves the list.
use Rattle.std.proofs.Common.{◌≡◌, ℕ, ◌+◌, ◌<◌, ◌≤◌, Bool, true, false, List, [], ◌∷◌, ◌++◌, Option, Some, None, length, take, drop, refl, sym, ap, subst, ◌∙◌, arith, append_assoc}
use Rattle.std.specs.Prelude.{filter, not, slice_get, slice_index_or, IfSome, MatchOption}
use Rattle.std.specs.List.{remove}
use Rattle.std.specs.Option.{option_to_list}
use Rattle.std.proofs.lemmas.List.{append-nil, drop_all, take_all, take_more, take-append-drop}
use Rattle.std.proofs.lemmas.List.Elements.{filter-append}
use Rattle.std.proofs.lemmas.Option.{get_or_from_slice_get, slice_get_within}
use Rattle.iddqd_store.specs.Map.Extracting.{Rejects}
use Rattle.iddqd_order.specs.declared.place.Place.{Place}
use Rattle.iddqd_order.specs.Row.{line, position, index_of, HasEntry}
use Rattle.iddqd_ord.specs.Items.{OrdMap, items}
use Rattle.iddqd_ord.specs.Extracting.{Extracts, ExtractsBy, FindsFrom, IsExtracted, Passes, PopsFrom, passed_items, to_come}
use Rattle.iddqd_ord.specs.Writing.{map_with, position-written}
use Rattle.iddqd_ord.proofs.LentLemmas.{place_written}
use Rattle.iddqd_ord.proofs.RefLemmas.{if_some}
use Rattle.iddqd_ord.proofs.RewriteLemmas.{from_index, item_at, removed_before, removed_behind, written_before, written_behind}

Some-injective : {X : Type 0} {x y : X} → Some x ≡ Some y → x ≡ y
Some-injective e = cc

-- a cursor passes the item at a place
pub passes : {T : Type 0} (m : OrdMap T) (p from to : Place) → HasEntry m.blocks p → position m.blocks p ≡ position m.blocks from → position m.blocks to ≡ position m.blocks p + 1
    → IfSome (slice_get (items m) (position m.blocks p)) (λ x. Passes m from x (λ f. map_with m p f) to)
passes {T} m p from to there same next = if_some (slice_get (items m) (position m.blocks p)) (λ x found.
    (let i = position m.blocks p in
    let at = λ (d : T). sym (get_or_from_slice_get (items m) i x d found) in
    record {
      comes = ap (λ (k : ℕ). drop k (items m)) (sym same) ∙ from_index (items m) i x found ∙ ap (λ (k : ℕ). x ∷ drop k (items m)) (sym next);
      before = λ f.
          written_before (items m) (items (map_with m p f)) i (position (map_with m p f).blocks to) x (f x) found (place_written m p there x at f x found) (position-written m p f to ∙ next)
          ∙ ap (λ (k : ℕ). take k (items m) ++ f x ∷ []) same;
      behind = λ f.
          written_behind (items m) (items (map_with m p f)) i (position (map_with m p f).blocks to) (f x) (place_written m p there x at f x found) (position-written m p f to ∙ next)
          ∙ ap (λ (k : ℕ). drop k (items m)) (sym next);
    }))

-- the place of the next item stands for the cursor
module _ {T : Type 0} (m : OrdMap T) (at : Place) where
  abbrev pub IsResumed : Option Place → Type 0
  IsResumed o = MatchOption o (length (line m.blocks) ≤ position m.blocks at) (λ p. position m.blocks p ≡ position m.blocks at)

  pub resumed_behind : (o : Option Place) → IsResumed o → drop (index_of m.blocks o) (items m) ≡ to_come m at
  resumed_behind None past = drop_all (length (items m)) (items m) (omega arith) ∙ sym (drop_all (position m.blocks at) (items m) past)
  resumed_behind (Some p) same = ap (λ (n : ℕ). drop n (items m)) same

  pub resumed_before : (o : Option Place) → IsResumed o → take (index_of m.blocks o) (items m) ≡ passed_items m at
  resumed_before None past = take_all (length (items m)) (items m) (omega arith) ∙ sym (take_all (position m.blocks at) (items m) past)
  resumed_before (Some p) same = ap (λ (n : ℕ). take n (items m)) same

-- an item left, and the cursor is where it was
module _ {T : Type 0} (m n : OrdMap T) (p to : Place) (x : T) (within : position m.blocks p < length (items m)) (is : (d : T) → x ≡ slice_index_or (items m) (position m.blocks p) d)
    (rest : items n ≡ remove (items m) (position m.blocks p)) (at : position n.blocks to ≡ position m.blocks p) where
  left_behind : drop (position m.blocks p) (items m) ≡ x ∷ to_come n to
  left_behind =
      from_index (items m) (position m.blocks p) x (item_at m p x within is)
      ∙ ap (λ (q : List T). x ∷ q) (sym (removed_behind (items m) (items n) (position m.blocks p) (position n.blocks to) rest at))

  left_before : passed_items n to ≡ take (position m.blocks p) (items m)
  left_before = removed_before (items m) (items n) (position m.blocks p) (position n.blocks to) rest at ∙ append-nil (take (position m.blocks p) (items m))

  pub popped : (from : Place) → position m.blocks p ≡ position m.blocks from → PopsFrom m from (Some x) n to
  popped from same = record {
    comes = ap (λ (k : ℕ). drop k (items m)) (sym same) ∙ left_behind;
    before = left_before ∙ ap (λ (k : ℕ). take k (items m)) same;
    none_left = tt;
    lists = sym (take-append-drop (position n.blocks to) (items n));
  }

module _ {F T : Type 0} (step : F → T → Bool → F → Type 0) where
  Rejects-on : (f : F) (xs : List T) (h : F) (x : T) (k : F) → Rejects step f xs h → step h x false k → Rejects step f (xs ++ x ∷ []) k
  Rejects-on f [] h x k is called = (k, subst (λ (q : F). step q x false k) (sym is) called, refl)
  Rejects-on f (y ∷ xs) h x k (g, first, on) called = (g, first, Rejects-on g xs h x k on called)

  -- The closure `f` was called with each item from the index `from` up to `at`, and rejected it.
  abbrev pub HasRejected : F → F → List T → ℕ → ℕ → Type 0
  HasRejected f h xs from at = (rejected : List T) × Rejects step f rejected h × (drop from xs ≡ rejected ++ drop at xs) × (take at xs ≡ take from xs ++ rejected)

  pub rejected_none : (f : F) (xs : List T) (from : ℕ) → HasRejected f f xs from from
  rejected_none f xs from = ([], refl, refl, sym (append-nil (take from xs)))

  pub rejected_on : (f h k : F) (xs : List T) (from at : ℕ) (x : T) → slice_get xs at ≡ Some x → step h x false k → HasRejected f h xs from at → HasRejected f k xs from (at + 1)
  rejected_on f h k xs from at x found called (r, rejects, comes, before) = (
    r ++ x ∷ [],
    Rejects-on f r h x k rejects called,
    comes ∙ ap (λ (q : List T). r ++ q) (from_index xs at x found) ∙ sym (append_assoc r (x ∷ []) (drop (at + 1) xs)),
    take_more xs at x (slice_get_within xs at x found) ∙ ap (λ (y : T). take at xs ++ y ∷ []) (get_or_from_slice_get xs at x x found)
        ∙ ap (λ (q : List T). q ++ x ∷ []) before ∙ append_assoc (take from xs) r (x ∷ []),
  )

  pub finds : (f h g : F) (xs : List T) (from at : ℕ) (x : T) → slice_get xs at ≡ Some x → step h x true g → HasRejected f h xs from at → FindsFrom step f xs from at
  finds f h g xs from at x found called (r, rejects, comes, before) = record {
    rejected = r;
    state = h;
    rejects = rejects;
    accepts = λ y is. (g, subst (λ (z : T). step h z true g) (Some-injective (sym found ∙ is)) called);
    comes = comes;
    before = before;
  }

  none_there : (xs : List T) (at : ℕ) (x : T) → length xs ≤ at → slice_get xs at ≡ Some x → ⊥
  none_there xs at x past is = omega (arith, past, slice_get_within xs at x is)

  pub finds_none : (f h : F) (xs : List T) (from at : ℕ) → length xs ≤ at → HasRejected f h xs from at → FindsFrom step f xs from at
  finds_none f h xs from at past (r, rejects, comes, before) =
      record { rejected = r; state = h; rejects = rejects; accepts = λ x is. absurd (none_there xs at x past is); comes = comes; before = before }

  -- the item that was found left
  pub extracted : (f : F) (m n : OrdMap T) (from to : Place) (o : Option Place) (p : Place) (x : T) → IsResumed m from o → FindsFrom step f (items m) (index_of m.blocks o) (position m.blocks p)
      → position m.blocks p < length (items m) → ((d : T) → x ≡ slice_index_or (items m) (position m.blocks p) d) → items n ≡ remove (items m) (position m.blocks p)
      → position n.blocks to ≡ position m.blocks p → Extracts step f m from (Some x) n to
  extracted f m n from to o p x resumed r within is rest at = record {
    rejected = r.rejected;
    state = r.state;
    rejects = r.rejects;
    accepts = r.accepts x (item_at m p x within is);
    comes = sym (resumed_behind m from o resumed) ∙ r.comes ∙ ap (λ (q : List T). r.rejected ++ q) (left_behind m n p to x within is rest at);
    before = left_before m n p to x within is rest at ∙ r.before ∙ ap (λ (q : List T). q ++ r.rejected) (resumed_before m from o resumed);
    none_left = tt;
    lists = sym (take-append-drop (position n.blocks to) (items n));
  }

  -- none was found, and the cursor is at the end
  pub none_extracted : (f : F) (m : OrdMap T) (from to : Place) (o : Option Place) (i : ℕ) → IsResumed m from o → FindsFrom step f (items m) (index_of m.blocks o) i
      → length (items m) ≤ i → position m.blocks to ≡ length (items m) → Extracts step f m from None m to
  none_extracted f m from to o i resumed r past end =
      let last : length (items m) ≤ position m.blocks to = omega (arith, end) in
      let all : passed_items m to ≡ take i (items m) = take_all (position m.blocks to) (items m) last ∙ sym (take_all i (items m) past) in
      let none : drop i (items m) ≡ to_come m to = drop_all i (items m) past ∙ sym (drop_all (position m.blocks to) (items m) last) in
      record {
        rejected = r.rejected;
        state = r.state;
        rejects = r.rejects;
        accepts = tt;
        comes = sym (resumed_behind m from o resumed) ∙ r.comes ∙ ap (λ (q : List T). r.rejected ++ q) none;
        before = all ∙ r.before ∙ ap (λ (q : List T). q ++ r.rejected) (resumed_before m from o resumed);
        none_left = drop_all (position m.blocks to) (items m) last;
        lists = sym (take-append-drop (position m.blocks to) (items m));
      }

  -- a closure that only reads
  module _ (f : F) (test : T → Bool) (law : (x : T) (b : Bool) (g : F) → step f x b g → (g ≡ f) × (b ≡ test x)) where
    filter-out : (p : T → Bool) (x : T) (xs : List T) → p x ≡ false → filter p (x ∷ xs) ≡ filter p xs
    filter-out p x xs fails = rw fails refl

    filter-in : (p : T → Bool) (x : T) (xs : List T) → p x ≡ true → filter p (x ∷ xs) ≡ x ∷ filter p xs
    filter-in p x xs passes = rw passes refl

    none_pass : (xs : List T) (h : F) → Rejects step f xs h → (filter test xs ≡ []) × (filter (λ x. not (test x)) xs ≡ xs) × (f ≡ h)
    none_pass [] h is = (refl, refl, is)
    none_pass (x ∷ xs) h (g, called, on) =
        let told = law x false g called in
        let fails : test x ≡ false = sym told.1 in
        let others = none_pass xs h (subst (λ (q : F). Rejects step q xs h) told.0 on) in (
          filter-out test x xs fails ∙ others.0,
          filter-in (λ y. not (test y)) x xs (ap not fails) ∙ ap (λ (q : List T). x ∷ q) others.1,
          others.2,
        )

    one_passes : (h : F) (o : Option T) → f ≡ h → IfSome o (λ x. (g : F) × step h x true g) → IfSome o (λ x. test x ≡ true)
    one_passes h None same accepts = tt
    one_passes h (Some x) same accepts = sym (law x true accepts.0 (subst (λ (q : F). step q x true accepts.0) (sym same) accepts.1)).1

    one_taken : (o : Option T) (rest : List T) → IfSome o (λ x. test x ≡ true) → filter test (option_to_list o ++ rest) ≡ option_to_list o ++ filter test rest
    one_taken None rest passes = refl
    one_taken (Some x) rest passes = filter-in test x rest passes

    one_gone : (o : Option T) (rest : List T) → IfSome o (λ x. test x ≡ true) → filter (λ x. not (test x)) (option_to_list o ++ rest) ≡ filter (λ x. not (test x)) rest
    one_gone None rest passes = refl
    one_gone (Some x) rest passes = filter-out (λ y. not (test y)) x rest (ap not passes)

    pub tested : (m n : OrdMap T) (from to : Place) (o : Option T) → Extracts step f m from o n to → IsExtracted test m from o n to
    tested m n from to o e =
        let none = none_pass e.rejected e.state e.rejects in
        let passes = one_passes e.state o none.2 e.accepts in
        let rest = to_come n to in
        let left : T → Bool = λ x. not (test x) in
        record {
          passes = passes;
          taken = ap (filter test) e.comes ∙ filter-append test e.rejected (option_to_list o ++ rest) ∙ ap (λ (q : List T). q ++ filter test (option_to_list o ++ rest)) none.0 ∙ one_taken o rest passes;
          left =
              ap (λ (q : List T). passed_items m from ++ filter left q) e.comes ∙ ap (λ (q : List T). passed_items m from ++ q) (filter-append left e.rejected (option_to_list o ++ rest))
              ∙ (λ t. passed_items m from ++ (none.1 t ++ one_gone o rest passes t)) ∙ sym (append_assoc (passed_items m from) e.rejected (filter left rest))
              ∙ ap (λ (q : List T). q ++ filter left rest) (sym e.before);
        }

  pub extracted_by : (f : F) (m n : OrdMap T) (from to : Place) (o : Option T) → Extracts step f m from o n to → ExtractsBy step f m from o n to
  extracted_by f m n from to o e test law = tested f test law m n from to o e
