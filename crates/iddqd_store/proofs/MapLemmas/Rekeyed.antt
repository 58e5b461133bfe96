-- What is left if another item replaces the item of one slot, and which items conflict with that.
use Rattle.std.specs.Prelude.{◌≡◌, ◌≢◌, ℕ, nat_eq, Bool, true, false, cond, List, [], ◌∷◌, filter, Option, Some, None, IsSome, IsPermutation, Contains, All, slice_set}
use Rattle.std.proofs.Common.{refl, sym, subst, ◌∙◌, arith}
use Rattle.std.proofs.lemmas.List.{get_or-set_other}
use Rattle.std.proofs.lemmas.List.Elements.{All-head, All-tail}
use Rattle.std.proofs.lemmas.List.Sorted.{IsPermutation-refl, IsPermutation-sym, IsPermutation-trans, IsPermutation-append, IsPermutation-middle}
use Rattle.std.proofs.lemmas.Map.Keys.{IsDistinct-head}
use Rattle.std.proofs.lemmas.Bool.{eqb-false, eq-eqb}
use Rattle.iddqd_store.specs.Bag.{IsOnly, Ranks, conflicts_of, do_conflict, tests_of, conflicting}
use Rattle.iddqd_store.specs.Slots.{IsLive, contents, get}
use Rattle.iddqd_store.specs.Slots.Found.{FoundAt, StandAt, contains}
use Rattle.iddqd_store.proofs.Plain.{number_turned}
use Rattle.iddqd_store.proofs.BagLemmas.Exchanges.{IsPermutation-filter}
use Rattle.iddqd_store.proofs.BagLemmas.Sound.{Contains-filter, same_from_short}
use Rattle.iddqd_store.proofs.SlotLemmas.Contents.{content_at, contents-take}
use Rattle.iddqd_store.proofs.SlotLemmas.Found.{item_listed, some_passes}

listed_first : (at : ℕ) (more : List ℕ) → contains (at ∷ more) at ≡ true
listed_first at more = rw (eq-eqb at at refl) refl

listed_second : (slot at : ℕ) (more : List ℕ) → nat_eq at slot ≡ false → contains (slot ∷ at ∷ more) at ≡ true
listed_second slot at more apart = rw (apart, eq-eqb at at refl) refl

module _ {T : Type 0} (ranks : Ranks T) (slots : List (Option T)) (x : T) (slot : ℕ) (found : List ℕ) (stand : StandAt slots found (conflicting ranks (contents slots) x)) where
  elsewhere : (at : ℕ) → contains found at ≡ true → IsLive slots at → at ≢ slot → conflicts_of ranks (contents (slice_set slots slot None)) x ≢ []
  elsewhere at listed live apart none = by_slot (get slots at) refl live
    where
      by_slot : (o : Option T) → get slots at ≡ o → IsSome o → ⊥
      by_slot None is some = absurd (cc)
      by_slot (Some y) is some =
          let less : List (Option T) = slice_set slots slot None in
          let in_order : Contains (conflicting ranks (contents slots) x) y = subst (λ l. Contains l y) stand.items (item_listed slots found at y listed is) in
          let passes : do_conflict ranks x y ≡ true = some_passes (tests_of ranks x) (contents slots) y in_order in
          let here : get less at ≡ Some y = get_or-set_other slots slot at None None apart ∙ is in
          let left : Contains (conflicts_of ranks (contents less) x) y = Contains-filter (do_conflict ranks x) (contents less) y passes (content_at less at y here) in
          let gone = subst (λ l. Contains l y) none left in
          absurd (omega (arith, gone.1))

  -- if the first slot found is another one, its item conflicts
  pub another_found : (at : ℕ) (more : List ℕ) → found ≡ at ∷ more → at ≢ slot → conflicts_of ranks (contents (slice_set slots slot None)) x ≢ []
  another_found at more is apart =
      elsewhere at (subst (λ l. contains l at ≡ true) (sym is) (listed_first at more)) (All-head (IsLive slots) at more (subst (λ l. All (IsLive slots) l) is stand.live)) apart

  -- the same if a second slot was found
  pub more_found : (at : ℕ) (more : List ℕ) → found ≡ slot ∷ at ∷ more → conflicts_of ranks (contents (slice_set slots slot None)) x ≢ []
  more_found at more is =
      let alive : All (IsLive slots) (slot ∷ at ∷ more) = subst (λ l. All (IsLive slots) l) is stand.live in
      let apart = IsDistinct-head nat_eq slot (at ∷ more) (rw is at stand.apart) in
      let other : nat_eq at slot ≡ false = number_turned slot at apart.0 in
      elsewhere at (subst (λ l. contains l at ≡ true) (sym is) (listed_second slot at more other))
      (All-head (IsLive slots) at more (All-tail (IsLive slots) slot (at ∷ more) alive)) (eqb-false at slot other)

module _ {T : Type 0} where
  behind : (test : T → Bool) (x : T) (rest : List T) → filter test (x ∷ rest) ≡ [] → filter test rest ≡ []
  behind test x rest none = by_test (test x) none
    where
      by_test : (b : Bool) → cond b (x ∷ filter test rest) (filter test rest) ≡ [] → filter test rest ≡ []
      by_test true h = absurd (cc h)
      by_test false h = h

  -- an item that conflicts with nothing does not conflict with what is left
  pub free_left : (ranks : Ranks T) (old rest : List T) (x y : T) → IsPermutation old (x ∷ rest) → conflicts_of ranks old y ≡ [] → conflicts_of ranks rest y ≡ []
  free_left ranks old rest x y out free =
      behind (do_conflict ranks y) x rest (sym (same_from_short [] _
      (subst (λ l. IsPermutation l (conflicts_of ranks (x ∷ rest) y)) free (IsPermutation-filter (do_conflict ranks y) old (x ∷ rest) out)) (omega arith)))

  -- the same for what is left if the item of a slot is removed
  pub free_slot : (ranks : Ranks T) (slots : List (Option T)) (slot : ℕ) (y : T) → IsLive slots slot → conflicts_of ranks (contents slots) y ≡ [] → conflicts_of ranks (contents (slice_set slots slot None)) y ≡ []
  free_slot ranks slots slot y live free = by_slot (get slots slot) refl live
    where
      by_slot : (o : Option T) → get slots slot ≡ o → IsSome o → conflicts_of ranks (contents (slice_set slots slot None)) y ≡ []
      by_slot None is some = absurd (cc)
      by_slot (Some x) is some = free_left ranks (contents slots) (contents (slice_set slots slot None)) x y (contents-take slots slot x is) free

  -- what was searched for, what is left without it, and that something there conflicts
  pub other_blocks : (ranks : Ranks T) (test : T → Bool) (slots : List (Option T)) (slot : ℕ) (y : T) → FoundAt test slots (Some slot)
      → conflicts_of ranks (contents (slice_set slots slot None)) y ≢ []
      → (x : T) × (rest : List T) × IsOnly test (contents slots) (Some x) × IsPermutation (contents slots) (x ∷ rest) × (conflicts_of ranks rest y ≢ [])
  other_blocks ranks test slots slot y found conflict = by_slot (get slots slot) refl found.live found.only
    where
      by_slot : (o : Option T) → get slots slot ≡ o → IsSome o → IsOnly test (contents slots) o
          → (x : T) × (rest : List T) × IsOnly test (contents slots) (Some x) × IsPermutation (contents slots) (x ∷ rest) × (conflicts_of ranks rest y ≢ [])
      by_slot None is some only = absurd (cc)
      by_slot (Some x) is some only = (x, contents (slice_set slots slot None), only, contents-take slots slot x is, conflict)

  -- one item has replaced the other
  pub exchanged : (x y : T) (old new rest : List T) → IsPermutation old (x ∷ rest) → IsPermutation new (y ∷ rest) → IsPermutation (x ∷ new) (y ∷ old)
  exchanged x y old new rest out into =
      let one : IsPermutation (x ∷ new) (x ∷ y ∷ rest) = IsPermutation-append (x ∷ []) (x ∷ []) new (y ∷ rest) (IsPermutation-refl _) into in
      let two : IsPermutation (x ∷ y ∷ rest) (y ∷ x ∷ rest) = IsPermutation-middle (x ∷ []) y rest in
      let three : IsPermutation (y ∷ x ∷ rest) (y ∷ old) = IsPermutation-append (y ∷ []) (y ∷ []) (x ∷ rest) old (IsPermutation-refl _) (IsPermutation-sym _ _ out) in
      IsPermutation-trans _ _ _ one (IsPermutation-trans _ _ _ two three)
