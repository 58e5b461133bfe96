-- The items of entries.
use Rattle.std.proofs.Common.{◌≡◌, ◌≢◌, ℕ, zero, suc, ◌+◌, ◌-◌, ◌<◌, ◌≤◌, All, List, [], ◌∷◌, ◌++◌, Option, Some, None, IsSome, length, get_or, take, drop, refl, sym, ap, ◌∙◌, subst, arith}
use Rattle.std.specs.Prelude.{slice_range}
use Rattle.std.proofs.lemmas.List.{length-take, length-drop, get_or-take, get_or-drop}
use Rattle.std.specs.List.{cons_option, filter_map, insert, remove}
use Rattle.std.proofs.lemmas.Bool.{false≢true}

module _ {E T : Type 0} where
  -- each of these entries has an item
  abbrev pub AllLive : (E → Option T) → List E → Type 0
  AllLive item es = All (λ e. IsSome (item e)) es

  live-tail : (item : E → Option T) (e : E) (es : List E) → AllLive item (e ∷ es) → AllLive item es
  live-tail item e es live i d lt = live (suc i) d (omega arith)

  pub item_here : (item : E → Option T) (es : List E) → AllLive item es → (i : ℕ) (d : E) (x : T) → i < length es → item (get_or es i d) ≡ Some (get_or (filter_map item es) i x)
  item_here item [] live i d x lt = absurd (omega arith)
  item_here item (e ∷ es) live i d x lt = by_slot (item e) refl i lt (live 0 d (omega arith)) (λ j below. item_here item es (live-tail item e es live) j d x below)
    where
      by_slot : (o : Option T) → item e ≡ o → (i : ℕ) → i < length (e ∷ es) → IsSome (item e) → ((j : ℕ) → j < length es → item (get_or es j d) ≡ Some (get_or (filter_map item es) j x)) → item (get_or (e ∷ es) i d) ≡ Some (get_or (filter_map item (e ∷ es)) i x)
      by_slot None is i lt here more = absurd (false≢true (rw is at here))
      by_slot (Some y) is zero lt here more = rw is refl
      by_slot (Some y) is (suc i) lt here more = rw is (more i (omega arith))

  pub length-items : (item : E → Option T) (es : List E) → AllLive item es → length (filter_map item es) ≡ length es
  length-items item [] live = refl
  length-items item (e ∷ es) live = by_slot (item e) refl (live 0 e (omega arith)) (length-items item es (live-tail item e es live))
    where
      by_slot : (o : Option T) → item e ≡ o → IsSome (item e) → length (filter_map item es) ≡ length es → length (filter_map item (e ∷ es)) ≡ length (e ∷ es)
      by_slot None is here more = absurd (false≢true (rw is at here))
      by_slot (Some y) is here more = rw is (ap suc more)

  pub items-insert : (item : E → Option T) (es : List E) (i : ℕ) (new : E) (y : T) → AllLive item es → i ≤ length es → item new ≡ Some y → filter_map item (insert es i new) ≡ insert (filter_map item es) i y
  items-insert item es zero new y live le is = rw is refl
  items-insert item [] (suc i) new y live le is = absurd (omega arith)
  items-insert item (e ∷ es) (suc i) new y live le is = by_slot (item e) refl (live 0 e (omega arith)) (items-insert item es i new y (live-tail item e es live) (omega arith) is)
    where
      by_slot : (o : Option T) → item e ≡ o → IsSome (item e) → filter_map item (insert es i new) ≡ insert (filter_map item es) i y → filter_map item (insert (e ∷ es) (suc i) new) ≡ insert (filter_map item (e ∷ es)) (suc i) y
      by_slot None at_e here more = absurd (false≢true (rw at_e at here))
      by_slot (Some z) at_e here more = rw at_e (ap (λ (q : List T). z ∷ q) more)

  pub items-remove : (item : E → Option T) (es : List E) (i : ℕ) → AllLive item es → i < length es → filter_map item (remove es i) ≡ remove (filter_map item es) i
  items-remove item [] i live lt = absurd (omega arith)
  items-remove item (e ∷ es) zero live lt = by_slot (item e) refl (live 0 e (omega arith))
    where
      by_slot : (o : Option T) → item e ≡ o → IsSome (item e) → filter_map item (remove (e ∷ es) zero) ≡ remove (filter_map item (e ∷ es)) zero
      by_slot None is here = absurd (false≢true (rw is at here))
      by_slot (Some z) is here = rw is refl
  items-remove item (e ∷ es) (suc i) live lt = by_slot (item e) refl (live 0 e (omega arith)) (items-remove item es i (live-tail item e es live) (omega arith))
    where
      by_slot : (o : Option T) → item e ≡ o → IsSome (item e) → filter_map item (remove es i) ≡ remove (filter_map item es) i → filter_map item (remove (e ∷ es) (suc i)) ≡ remove (filter_map item (e ∷ es)) (suc i)
      by_slot None is here more = absurd (false≢true (rw is at here))
      by_slot (Some z) is here more = rw is (ap (λ (q : List T). z ∷ q) more)

  -- entries that have the same items in two maps
  pub items-same : (old new : E → Option T) (es : List E) → ((i : ℕ) (d : E) → i < length es → new (get_or es i d) ≡ old (get_or es i d)) → filter_map new es ≡ filter_map old es
  items-same old new [] same = refl
  items-same old new (e ∷ es) same = rw (same 0 e (omega arith), items-same old new es (λ i d lt. same (suc i) d (omega arith))) refl

  -- one more entry at the end
  pub items-last : (item : E → Option T) (es : List E) (e : E) (y : T) → item e ≡ Some y → filter_map item (es ++ e ∷ []) ≡ filter_map item es ++ y ∷ []
  items-last item [] e y is = rw is refl
  items-last item (f ∷ es) e y is = by_slot (item f) (items-last item es e y is)
    where
      by_slot : (o : Option T) → filter_map item (es ++ e ∷ []) ≡ filter_map item es ++ y ∷ [] → cons_option o (filter_map item (es ++ e ∷ [])) ≡ cons_option o (filter_map item es) ++ y ∷ []
      by_slot None more = more
      by_slot (Some z) more = ap (λ (q : List T). z ∷ q) more

  -- the entries from an index on
  items-drop : (item : E → Option T) (es : List E) (i : ℕ) → AllLive item es → filter_map item (drop i es) ≡ drop i (filter_map item es)
  items-drop item es zero live = refl
  items-drop item [] (suc i) live = refl
  items-drop item (e ∷ es) (suc i) live = by_slot (item e) refl (live 0 e (omega arith)) (items-drop item es i (live-tail item e es live))
    where
      by_slot : (o : Option T) → item e ≡ o → IsSome (item e) → filter_map item (drop i es) ≡ drop i (filter_map item es) → filter_map item (drop i es) ≡ drop (suc i) (filter_map item (e ∷ es))
      by_slot None is here more = absurd (false≢true (rw is at here))
      by_slot (Some y) is here more = rw is more

  -- the first entries
  items-take : (item : E → Option T) (es : List E) (i : ℕ) → AllLive item es → filter_map item (take i es) ≡ take i (filter_map item es)
  items-take item es zero live = refl
  items-take item [] (suc i) live = refl
  items-take item (e ∷ es) (suc i) live = by_slot (item e) refl (live 0 e (omega arith)) (items-take item es i (live-tail item e es live))
    where
      by_slot : (o : Option T) → item e ≡ o → IsSome (item e) → filter_map item (take i es) ≡ take i (filter_map item es) → filter_map item (take (suc i) (e ∷ es)) ≡ take (suc i) (filter_map item (e ∷ es))
      by_slot None is here more = absurd (false≢true (rw is at here))
      by_slot (Some y) is here more = rw is (ap (λ (q : List T). y ∷ q) more)

  live-drop : (item : E → Option T) (es : List E) (i : ℕ) → AllLive item es → AllLive item (drop i es)
  live-drop item es i live j d lt = rw (get_or-drop i es j d) (live (i + j) d (omega (arith, lt, length-drop i es)))

  -- a part of the entries
  pub items-range : (item : E → Option T) (es : List E) (i j : ℕ) → AllLive item es → filter_map item (slice_range es i j) ≡ slice_range (filter_map item es) i j
  items-range item es i j live = items-take item (drop i es) (j - i) (live-drop item es i live) ∙ ap (take (j - i)) (items-drop item es i live)

-- a test of each entry of a part
pub All-range : {E : Type 0} (P : E → Type 0) (es : List E) (i j : ℕ) → All P es → All P (slice_range es i j)
All-range P es i j all k d lt =
    let len = length-take (j - i) (drop i es) in
    let rest = length-drop i es in
    subst P (sym (get_or-take (j - i) (drop i es) k d (omega (arith, lt, len)) ∙ get_or-drop i es k d)) (all (i + k) d (omega (arith, lt, len, rest)))
