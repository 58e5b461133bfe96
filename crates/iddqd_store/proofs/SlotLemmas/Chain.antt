-- How each change of the entries keeps the count and the list of vacant entries.
use Rattle.std.proofs.Common.{◌≡◌, ◌≢◌, ◌⊎◌, ℕ, zero, suc, ◌+◌, ◌-◌, ◌<◌, List, [], ◌∷◌, ◌++◌, map, length, get_or, set, Some, None, is_some, IsSome, count_by, slice_get, refl}
use Rattle.std.proofs.Common.{sym, ap, subst, ◌∙◌, inl, inr, arith, length-set, true≢false, Option, zero-add, add-zero, cond}
use Rattle.std.specs.Prelude.{IsPermutation}
use Rattle.std.proofs.lemmas.List.Sorted.{IsPermutation-refl, IsPermutation-cons, IsPermutation-trans, IsPermutation-middle, IsPermutation-to_front}
use Rattle.std.proofs.lemmas.List.{set-set, map-set, map_push, length-map, length_push, get_or-map, get_or-set_same, get_or-set_other, get_or_past}
use Rattle.std.proofs.lemmas.List.Sums.{sum_by-set, sum_by_push, sum_by-cons}
use Rattle.std.proofs.lemmas.Option.{slice_get_within, slice_get-get_or, slice_get_read, get_or_from_slice_get}
use Rattle.iddqd_store.specs.declared.item_set.Slot.{Slot}
use Rattle.iddqd_store.specs.declared.item_set.Slot.TheVariants.{Free, Live}
use Rattle.iddqd_store.specs.Slots.Chain.{item_of, live_slots, IsChain, IsChained}
use Rattle.iddqd_store.specs.Slots.{Updates, Exchanges, members_from, contents}

module _ {T : Type 0} where
  -- a key starts at most one list of vacant entries
  pub IsChain-count_unique : (es : List (Slot T)) (m n key : ℕ) → IsChain es m key → IsChain es n key → m ≡ n
  IsChain-count_unique es zero zero key p q = refl
  IsChain-count_unique es zero (suc n) key p q = absurd (omega (arith, slice_get_within es key _ q.1))
  IsChain-count_unique es (suc m) zero key p q = absurd (omega (arith, slice_get_within es key _ p.1))
  IsChain-count_unique es (suc m) (suc n) key p q =
      let first = p.1 in
      let second = q.1 in
      let same : q.0 ≡ p.0 = cc in
      ap suc (IsChain-count_unique es m n p.0 p.2 (subst (IsChain es n) same q.2))

  -- a write at a key that is not on the list keeps the list
  pub IsChain-set : (es : List (Slot T)) (key : ℕ) (e : Slot T) (n from : ℕ) → ((m : ℕ) → m < n → IsChain es (suc m) key → ⊥) → IsChain es n from → IsChain (set es key e) n from
  IsChain-set es key e zero from off p = p ∙ sym (length-set es key e)
  IsChain-set es key e (suc n) from off p =
      let other : from ≢ key = λ same. off n (omega arith) (subst (IsChain es (suc n)) same p) in
      let within = slice_get_within es from _ p.1 in
      let kept : slice_get (set es key e) from ≡ Some (Free p.0) =
      slice_get-get_or (set es key e) from e (omega (arith, length-set es key e))
      ∙ ap Some (get_or-set_other es key from e e other ∙ get_or_from_slice_get es from _ e p.1) in
      (p.0, kept, IsChain-set es key e n p.0 (λ m below. off m (omega arith)) p.2)

  -- an occupied entry is on no list of vacant entries
  pub occupied_is_off_list : (es : List (Slot T)) (key : ℕ) (value : T) → slice_get es key ≡ Some (Live value) → (m : ℕ) → IsChain es (suc m) key → ⊥
  occupied_is_off_list es key value found m p = let listed = p.1 in cc

  -- the count of values after a write
  pub count-set : (es : List (Slot T)) (key : ℕ) (old new : Slot T) → slice_get es key ≡ Some old → count_by is_some (map item_of
      (set es key new)) + cond (is_some (item_of old)) 1 0 ≡ count_by is_some (map item_of es) + cond (is_some (item_of new)) 1 0
  count-set es key old new found =
      let within = slice_get_within es key old found in
      let read : get_or (map item_of es) key None ≡ item_of old =
      get_or-map item_of es key old None within ∙ ap item_of (get_or_from_slice_get es key old old found) in
      let counted = sum_by-set (λ o. cond (is_some o) 1 0) (map item_of es) key (item_of new) None (omega (arith, length-map es item_of)) in
      rw (map-set item_of es key new, ← read) counted

  -- a key that finds a value is an occupied entry
  pub occupied_at : (es : List (Slot T)) (key : ℕ) → IsSome (get_or (map item_of es) key None) → (value : T) × (slice_get es key ≡ Some (Live value))
  occupied_at es key present =
      let inside : key < length (map item_of es) = grind (arith, get_or_past) in
      let within : key < length es = omega (arith, length-map es item_of) in
      by_entry (get_or es key (Free 0)) (slice_get-get_or es key (Free 0) within) (subst IsSome (get_or-map item_of es key (Free 0) None within) present)
    where
      by_entry : (e : Slot T) → slice_get es key ≡ Some e → IsSome (item_of e) → (value : T) × (slice_get es key ≡ Some (Live value))
      by_entry (Free _) found some = absurd (true≢false (sym some))
      by_entry (Live value) found some = (value, found)

  -- the next key is the end of full entries, or a vacant entry
  pub next_cases : (es : List (Slot T)) (len next : ℕ) → IsChained es len next → ((next ≡ length es) × (len ≡ length es)) ⊎ ((after : ℕ) × (slice_get es next ≡ Some (Free after)))
  next_cases es len next sound = by_count sound.free sound.total sound.linked
    where
      by_count : (n : ℕ) → len + n ≡ length es → IsChain es n next → ((next ≡ length es) × (len ≡ length es)) ⊎ ((after : ℕ) × (slice_get es next ≡ Some (Free after)))
      by_count zero total linked = inl (linked, omega arith)
      by_count (suc n) total linked = inr (linked.0, linked.1)

  -- the next key has no value
  pub next_is_vacant : (es : List (Slot T)) (len next : ℕ) → IsChained es len next → get_or (map item_of es) next None ≡ None
  next_is_vacant es len next sound =
      elim (next_cases es len next sound) [
        | inl full ↦ get_or_past (map item_of es) next None (omega (arith, length-map es item_of))
        | inr found ↦ get_or-map item_of es next (Free 0) None (slice_get_within es next _ found.1) ∙ ap item_of (get_or_from_slice_get es next _ (Free 0) found.1)
      ]

  -- at the end of the entries the list is empty
  pub full_at_end : (es : List (Slot T)) (len next : ℕ) → IsChained es len next → next ≡ length es → len ≡ length es
  full_at_end es len next sound at_end =
      elim (next_cases es len next sound) [
        | inl full ↦ full.1
        | inr found ↦ omega (arith, slice_get_within es next _ found.1)
      ]

  -- before the end of the entries the next key is a vacant entry
  pub vacant_before_end : (es : List (Slot T)) (len next : ℕ) → IsChained es len next → next ≢ length es → (after : ℕ) × (slice_get es next ≡ Some (Free after))
  vacant_before_end es len next sound before = elim (next_cases es len next sound) [ inl full ↦ absurd (before full.0) | inr found ↦ found ]

  pub next_within : (es : List (Slot T)) (len next : ℕ) → IsChained es len next → next ≢ length es → next < length es
  next_within es len next sound before = slice_get_within es next _ (vacant_before_end es len next sound before).1

  -- a read at the next key gives the entry there
  pub read_at_next : {es : List (Slot T)} {len next : ℕ} {e : Slot T} → IsChained es len next → next ≢ length es → e ≡ get_or es next e → slice_get es next ≡ Some e
  read_at_next {es = es} {len = len} {next = next} {e = e} sound before read = slice_get_read es (length es) next e refl (next_within es len next sound before) read

  pub next_is_not_occupied : {es : List (Slot T)} {len next : ℕ} {value : T} → IsChained es len next → slice_get es next ≡ Some (Live value) → ⊥
  next_is_not_occupied {es = es} {len = len} {next = next} {value = value} sound found =
      let vacant = (vacant_before_end es len next sound (λ e. omega (arith, slice_get_within es next _ found))).1 in
      cc

  pub IsChained-push : (es : List (Slot T)) (len next : ℕ) (value : T) → IsChained es len next → next ≡ length es → IsChained (es ++ Live value ∷ []) (len + 1) (next + 1)
  IsChained-push es len next value sound at_end =
      let full = full_at_end es len next sound at_end in
      let longer = length_push es (Live value) in
      record {
        counted = rw (map_push item_of es (Live value), sum_by_push (λ o. cond (is_some o) 1 0) (map item_of es) (Some value)) (ap (λ n. n + 1) sound.counted);
        free = 0;
        total = omega arith;
        linked = omega arith;
      }

  -- the first vacant entry leaves the list: the rest of the list is shorter, so it does not come back to that key
  pub IsChained-fill : {es : List (Slot T)} {len next after : ℕ} (value : T) → IsChained es len next → slice_get es next ≡ Some (Free after) → IsChained (set es next (Live value)) (len + 1) after
  IsChained-fill {es = es} {len = len} {next = next} {after = after} value sound found = by_count sound.free sound.total sound.linked
    where
      by_count : (n : ℕ) → len + n ≡ length es → IsChain es n next → IsChained (set es next (Live value)) (len + 1) after
      by_count zero total linked = absurd (omega (arith, slice_get_within es next _ found))
      by_count (suc n) total linked =
          let listed = linked.1 in
          let same : linked.0 ≡ after = cc in
          let off : (m : ℕ) → m < n → IsChain es (suc m) next → ⊥ =
          λ m below p. omega (arith, IsChain-count_unique es (suc m) (suc n) next p linked) in
          record {
            counted = omega (arith, sound.counted, count-set es next (Free after) (Live value) found);
            free = n;
            total = omega (arith, length-set es next (Live value));
            linked = IsChain-set es next (Live value) n after off (subst (IsChain es n) same linked.2);
          }

  pub IsChained-vacate : (es : List (Slot T)) (len next key : ℕ) (value : T) → IsChained es len next → slice_get es key ≡ Some (Live value) → IsChained (set es key (Free next)) (len - 1) key
  IsChained-vacate es len next key value sound found =
      let within = slice_get_within es key _ found in
      let count = count-set es key (Live value) (Free next) found in
      let written : slice_get (set es key (Free next)) key ≡ Some (Free next) =
      slice_get-get_or _ key (Free next) (omega (arith, length-set es key (Free next)))
      ∙ ap Some (get_or-set_same es key (Free next) (Free next) within) in
      record {
        counted = omega arith;
        free = suc sound.free;
        total = omega (arith, length-set es key (Free next));
        linked = (next, written, IsChain-set es key (Free next) sound.free next (λ m _. occupied_is_off_list es key value found m) sound.linked);
      }

  pub IsChained-rewrite : (es : List (Slot T)) (len next key : ℕ) (old new : T) → IsChained es len next → slice_get es key ≡ Some (Live old) → IsChained (set es key (Live new)) len next
  IsChained-rewrite es len next key old new sound found =
      record {
        counted = omega (arith, count-set es key (Live old) (Live new) found);
        free = sound.free;
        total = omega (arith, length-set es key (Live new));
        linked = IsChain-set es key (Live new) sound.free next (λ m _. occupied_is_off_list es key old found m) sound.linked;
      }

module _ {T : Type 0} where
  -- one more item in a new slot is one more member
  pub members_from-push : (at : ℕ) (slots : List (Option T)) (x : T) → members_from at (slots ++ Some x ∷ []) ≡ members_from at slots ++ (at + length slots, x) ∷ []
  members_from-push at [] x = let e : at ≡ at + 0 = omega arith in ap (λ n. (n, x) ∷ []) e
  members_from-push at (None ∷ rest) x =
      let e : at + 1 + length rest ≡ at + suc (length rest) = omega arith in
      members_from-push (at + 1) rest x ∙ ap (λ n. members_from (at + 1) rest ++ (n, x) ∷ []) e
  members_from-push at (Some y ∷ rest) x =
      let e : at + 1 + length rest ≡ at + suc (length rest) = omega arith in
      ap (λ l. (at, y) ∷ l) (members_from-push (at + 1) rest x ∙ ap (λ n. members_from (at + 1) rest ++ (n, x) ∷ []) e)

  -- an item put into a free slot
  members_from-put : (first : ℕ) (slots : List (Option T)) (at : ℕ) (x : T) → at < length slots → get_or slots at None ≡ None
      → IsPermutation (members_from first (set slots at (Some x))) ((first + at, x) ∷ members_from first slots)
  members_from-put first [] at x h e = absurd (omega arith)
  members_from-put first (None ∷ rest) zero x h e =
      subst (λ n. IsPermutation ((first, x) ∷ members_from (first + 1) rest) ((n, x) ∷ members_from (first + 1) rest))
      (sym (add-zero first)) (IsPermutation-refl _)
  members_from-put first (Some y ∷ rest) zero x h e = absurd (cc)
  members_from-put first (None ∷ rest) (suc at) x h e =
      let shift : first + 1 + at ≡ first + suc at = omega arith in
      subst (λ n. IsPermutation (members_from (first + 1) (set rest at (Some x))) ((n, x) ∷ members_from (first + 1) rest)) shift (members_from-put (first + 1) rest at x (omega arith) e)
  members_from-put first (Some y ∷ rest) (suc at) x h e =
      let shift : first + 1 + at ≡ first + suc at = omega arith in
      let rest_of : List (ℕ × T) = members_from (first + 1) rest in
      let later = subst (λ n. IsPermutation (members_from (first + 1) (set rest at (Some x))) ((n, x) ∷ members_from (first + 1) rest)) shift
      (members_from-put (first + 1) rest at x (omega arith) e) in
      IsPermutation-trans _ _ _ (IsPermutation-cons (first, y) _ _ later) (IsPermutation-middle ((first, y) ∷ []) (first + suc at, x) rest_of)

  -- an item removed from its slot
  members_from-take : (first : ℕ) (slots : List (Option T)) (at : ℕ) (x : T) → get_or slots at None ≡ Some x
      → IsPermutation (members_from first slots) ((first + at, x) ∷ members_from first (set slots at None))
  members_from-take first [] at x e = absurd (cc)
  members_from-take first (None ∷ rest) zero x e = absurd (cc)
  members_from-take first (Some y ∷ rest) zero x e =
      let same : y ≡ x = cc in
      rw (same, add-zero) (IsPermutation-refl _)
  members_from-take first (None ∷ rest) (suc at) x e =
      let shift : first + 1 + at ≡ first + suc at = omega arith in
      subst (λ n. IsPermutation (members_from (first + 1) rest) ((n, x) ∷ members_from (first + 1) (set rest at None))) shift (members_from-take (first + 1) rest at x e)
  members_from-take first (Some y ∷ rest) (suc at) x e =
      let shift : first + 1 + at ≡ first + suc at = omega arith in
      let rest_of : List (ℕ × T) = members_from (first + 1) (set rest at None) in
      let later = subst (λ n. IsPermutation (members_from (first + 1) rest) ((n, x) ∷ members_from (first + 1) (set rest at None))) shift (members_from-take (first + 1) rest at x e) in
      IsPermutation-trans _ _ _ (IsPermutation-cons (first, y) _ _ later) (IsPermutation-middle ((first, y) ∷ []) (first + suc at, x) rest_of)

  pub members-push : (slots : List (Option T)) (x : T) → IsPermutation (members_from 0 (slots ++ Some x ∷ [])) ((length slots, x) ∷ members_from 0 slots)
  members-push slots x = rw (members_from-push 0 slots x, zero-add) (IsPermutation-to_front (members_from 0 slots) (length slots, x))

  pub members-put : (slots : List (Option T)) (at : ℕ) (x : T) → at < length slots → get_or slots at None ≡ None
      → IsPermutation (members_from 0 (set slots at (Some x))) ((at, x) ∷ members_from 0 slots)
  members-put slots at x h e = rw zero-add at (members_from-put 0 slots at x h e)

  pub members-take : (slots : List (Option T)) (at : ℕ) (x : T) → get_or slots at None ≡ Some x → IsPermutation (members_from 0 slots) ((at, x) ∷ members_from 0 (set slots at None))
  members-take slots at x e = rw zero-add at (members_from-take 0 slots at x e)

module _ {T : Type 0} where
  -- a write of one slot changes only what that number finds
  pub Updates-set : {old new : List (Option T)} {key : ℕ} {slot : Option T} → key < length old → new ≡ set old key slot → Updates old new key slot
  Updates-set {old = old} {new = new} {key = key} {slot = slot} within written =
      record {
        changed = rw written (get_or-set_same old key slot None within);
        others = λ other differs. rw written (get_or-set_other old key other slot None differs);
      }

  -- what a write in a live slot leaves
  pub members-set : (slots : List (Option T)) (at : ℕ) (x y : T) → get_or slots at None ≡ Some x → IsPermutation (members_from 0 (set slots at (Some y))) ((at, y) ∷ members_from 0 (set slots at None))
  members-set slots at x y found =
      let within : at < length slots = grind (arith, get_or_past) in
      let emptied : get_or (set slots at None) at None ≡ None = get_or-set_same slots at None None within in
      let put = members-put (set slots at None) at y (omega (arith, length-set slots at None)) emptied in
      subst (λ l. IsPermutation (members_from 0 l) ((at, y) ∷ members_from 0 (set slots at None))) (set-set slots at None (Some y)) put

  -- a write in a live slot exchanges its member
  pub Exchanges-set : (slots : List (Option T)) (at : ℕ) (x y : T) → get_or slots at None ≡ Some x → Exchanges slots (set slots at (Some y)) at x y
  Exchanges-set slots at x y found =
      record {
        others = members_from 0 (set slots at None);
        had = members-take slots at x found;
        has = members-set slots at x y found;
      }

-- sets without free slots
module _ {T : Type 0} where
  pub length-live_slots : (slots : List (Slot T)) → length (live_slots slots) ≡ count_by is_some (map item_of slots)
  length-live_slots [] = refl
  length-live_slots (Free next ∷ slots) = omega (arith, length-live_slots slots, sum_by-cons (λ o. cond (is_some o) 1 0) (item_of (Free next)) (map item_of slots))
  length-live_slots (Live x ∷ slots) = omega (arith, length-live_slots slots, sum_by-cons (λ o. cond (is_some o) 1 0) (Some x) (map item_of slots))

  -- the slots that are left have the items, in order
  pub view-live_slots : (slots : List (Slot T)) → map item_of (live_slots slots) ≡ map Some (contents (map item_of slots))
  view-live_slots [] = refl
  view-live_slots (Free next ∷ slots) = view-live_slots slots
  view-live_slots (Live x ∷ slots) = ap (λ l. Some x ∷ l) (view-live_slots slots)

  live_slots-twice : (slots : List (Slot T)) → live_slots (live_slots slots) ≡ live_slots slots
  live_slots-twice [] = refl
  live_slots-twice (Free next ∷ slots) = live_slots-twice slots
  live_slots-twice (Live x ∷ slots) = ap (λ l. Live x ∷ l) (live_slots-twice slots)

  IsChained-live_slots : (slots : List (Slot T)) (live next_free : ℕ) → IsChained slots live next_free → IsChained (live_slots slots) live (length (live_slots slots))
  IsChained-live_slots slots live next_free sound =
      let all : count_by is_some (map item_of (live_slots slots)) ≡ length (live_slots slots) =
      sym (length-live_slots (live_slots slots)) ∙ ap length (live_slots-twice slots) in
      record {
        counted = omega (arith, sound.counted, length-live_slots slots, all);
        free = 0;
        total = omega (arith, sound.counted, length-live_slots slots);
        linked = refl;
      }

  pub IsChained-compact : {slots kept : List (Slot T)} {live next_free end : ℕ} → IsChained slots live next_free → kept ≡ live_slots slots → end ≡ length kept → IsChained kept live end
  IsChained-compact {slots = slots} {live = live} {next_free = next_free} sound is at_end = rw (at_end, is) (IsChained-live_slots slots live next_free sound)
