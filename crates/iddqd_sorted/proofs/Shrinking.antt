-- The numbers of the slots that items have after a shrink.
use Rattle.std.proofs.Common.{◌≡◌, ℕ, zero, suc, ◌+◌, ◌^◌, ◌<◌, ◌≤◌, true, false, cond, All, List, [], ◌∷◌, ◌++◌, Option, Some, None, IsSome, length, get_or, set, take, drop, refl, sym, ap, ◌∙◌, subst, arith, inl, inr, add-one}
use Rattle.std.specs.Prelude.{◌==◌, map}
use Rattle.std.specs.Cmp.{IsTotalOrder}
use Rattle.std.specs.declared.cmp.Ordering.{Ordering}
use Rattle.std.proofs.lemmas.Bool.{false≢true, cases_lt, eq-eqb}
use Rattle.std.proofs.lemmas.Bool.Decides.{eqb_tells}
use Rattle.std.proofs.lemmas.List.{get_or-map, get_or-set_other, get_or-set_same, length-append, length-map, take-map, take-take}
use Rattle.std.proofs.lemmas.List.Sums.{count_by_more_yes, count_by_more_no, sum_by-cons, sum_by-take-le}
use Rattle.iddqd_store.specs.Slots.{get, contents, live_count, IsLive, NextLive}
use Rattle.iddqd_store.proofs.SlotLemmas.Contents.{length-contents}
use Rattle.iddqd_store.proofs.SlotLemmas.Next.{nothing_left, comes_next, taken_before, before_and_behind}
use Rattle.iddqd_sorted.specs.declared.entry.Entry.{Entry}
use Rattle.iddqd_sorted.specs.Entries.{IsListed, item_in, items_in}
use Rattle.iddqd_sorted.specs.Renumbered.{mark_of, AreMarks, marked, IsNumber, AreNumbers, renumbered}

module _ {T : Type 0} where
  -- what is in a slot that has an item
  value_in : (o : Option T) → IsSome o → (x : T) × (o ≡ Some x)
  value_in None live = absurd (false≢true live)
  value_in (Some x) live = (x, refl)

  -- the item of a slot comes behind those of the slots before it
  behind_others : (slots : List (Option T)) (slot : ℕ) (x d : T) → get slots slot ≡ Some x → get_or (contents slots) (length (contents (take slot slots))) d ≡ x
  behind_others [] zero x d is = absurd (cc is)
  behind_others [] (suc slot) x d is = absurd (cc is)
  behind_others (None ∷ slots) zero x d is = absurd (cc is)
  behind_others (Some y ∷ slots) zero x d is = cc is
  behind_others (None ∷ slots) (suc slot) x d is = behind_others slots slot x d is
  behind_others (Some y ∷ slots) (suc slot) x d is = behind_others slots slot x d is

  -- one item more up to a slot that has one
  one_more : (slots : List (Option T)) (from slot : ℕ) (x : T) → from ≤ slot → get slots slot ≡ Some x → ((k : ℕ) → from ≤ k → k < slot → get slots k ≡ None)
      → length (contents (take (slot + 1) slots)) ≡ length (contents (take from slots)) + 1
  one_more slots from slot x ahead is free =
      ap length (taken_before slots from slot x (comes_next slots from slot x ahead is free)) ∙ length-append (contents (take from slots)) (x ∷ [])

  fewer : (slots : List (Option T)) (from : ℕ) → length (contents (take from slots)) ≤ length (contents slots)
  fewer slots from = omega (arith, ap length (before_and_behind slots from), length-append (contents (take from slots)) (contents (drop from slots)))

  -- as many marks of 1 as items
  marked-items : (slots : List (Option T)) → marked (map mark_of slots) ≡ length (contents slots)
  marked-items [] = refl
  marked-items (None ∷ slots) = omega (arith, marked-items slots, sum_by-cons (λ (mark : ℕ). cond (mark == 1) 1 0) 0 (map mark_of slots))
  marked-items (Some x ∷ slots) = omega (arith, marked-items slots, sum_by-cons (λ (mark : ℕ). cond (mark == 1) 1 0) 1 (map mark_of slots))

  mark-live : (slots : List (Option T)) (n slot : ℕ) (x : T) → get slots slot ≡ Some x → slot < n → get_or (map mark_of (take n slots)) slot 0 ≡ 1
  mark-live slots zero slot x is lt = absurd (omega (arith, lt))
  mark-live [] (suc n) zero x is lt = absurd (cc is)
  mark-live [] (suc n) (suc slot) x is lt = absurd (cc is)
  mark-live (None ∷ slots) (suc n) zero x is lt = absurd (cc is)
  mark-live (Some y ∷ slots) (suc n) zero x is lt = refl
  mark-live (o ∷ slots) (suc n) (suc slot) x is lt = mark-live slots n slot x is (omega (arith, lt))

  -- the marks of 1 before a slot
  marked-before : (slots : List (Option T)) (marks : List ℕ) → AreMarks slots marks → (slot : ℕ) → slot ≤ length marks → marked (take slot marks) ≡ length (contents (take slot slots))
  marked-before slots marks are slot le =
      let n = length marks in
      ap (λ (ms : List ℕ). marked (take slot ms)) are.each ∙ ap marked (take-map mark_of slot (take n slots) ∙ ap (λ (os : List (Option T)). map mark_of os) (take-take slot n slots le))
      ∙ marked-items (take slot slots)

  -- no more marks of 1 than items
  pub marked-all : (slots : List (Option T)) (marks : List ℕ) → AreMarks slots marks → marked marks ≤ length (contents slots)
  marked-all slots marks are =
      let n = length marks in
      let all : marked marks ≡ length (contents (take n slots)) = ap marked are.each ∙ marked-items (take n slots) in
      omega (arith, all, fewer slots n)

-- the numbers of the slots, one mark after another
pub record IsNumbering {T : Type 0} (slots : List (Option T)) (marks now : List ℕ) (at from : ℕ) : Type 0 where
  pub each : (j : ℕ) → j < at → get_or marks j 0 ≡ 1 → IsNumber slots (marked (take j marks)) (get_or now j 0)
  pub rest : (j : ℕ) → at ≤ j → get_or now j 0 ≡ get_or marks j 0
  pub reached : length (contents (take from slots)) ≡ marked (take at marks)

module _ {T : Type 0} (slots : List (Option T)) (marks : List ℕ) where
  pub IsNumbering-start : IsNumbering slots marks marks 0 0
  IsNumbering-start = record { each = λ j lt. absurd (omega (arith, lt)); rest = λ j le. refl; reached = refl }

  module _ (now : List ℕ) (at from : ℕ) (r : IsNumbering slots marks now at from) (within : at < length marks) where
    pub IsNumbering-skip : (get_or now at 0 ≡ 1 → ⊥) → IsNumbering slots marks now (at + 1) from
    IsNumbering-skip free =
        record {
          each = λ j lt one. elim (cases_lt j at) [
            | inl below ↦ r.each j below one
            | inr le ↦
                let here : j ≡ at = omega (arith, lt, le) in
                absurd (free (r.rest at (omega arith) ∙ (rw here at one)))
          ];
          rest = λ j le. r.rest j (omega (arith, le));
          reached = r.reached ∙ sym (count_by_more_no (λ mark. mark == 1) marks at 0 within no);
        }
      where
        no : (get_or marks at 0 == 1) ≡ false
        no = elim (eqb_tells (get_or marks at 0) 1) [
          | inl here ↦ absurd (free (r.rest at (omega arith) ∙ here.1))
          | inr other ↦ other.0
        ]

    module _ (one : get_or now at 0 ≡ 1) where
      counted : marked (take (at + 1) marks) ≡ marked (take at marks) + 1
      counted = count_by_more_yes (λ mark. mark == 1) marks at 0 within (eq-eqb (get_or marks at 0) 1 (sym (r.rest at (omega arith)) ∙ one))

      pub IsNumbering-none : marked marks ≤ length (contents slots) → NextLive slots from None → ⊥
      IsNumbering-none few next =
          let left : length (contents (drop from slots)) ≡ 0 = ap length (nothing_left slots from next) in
          let all = ap length (before_and_behind slots from) in
          absurd (omega (arith, few, left, all, length-append (contents (take from slots)) (contents (drop from slots)), counted, r.reached, sum_by-take-le (λ (mark : ℕ). cond (mark == 1) 1 0) marks (at + 1)))

      pub IsNumbering-more : (slot : ℕ) → length now ≡ length marks → NextLive slots from (Some slot) → slot + 1 < 2 ^ 64 → IsNumbering slots marks (set now at slot) (at + 1) (slot + 1)
      IsNumbering-more slot long next small =
          let here = value_in (get slots slot) next.1 in
          let up_to = one_more slots from slot here.0 next.0 here.1 next.2 in
          let alone = one_more slots slot slot here.0 (omega arith) here.1 (λ k le lt. absurd (omega (arith, le, lt))) in
          let number : IsNumber slots (marked (take at marks)) slot = record { live = next.1; before = omega (arith, up_to, alone, r.reached); small = small } in
          record {
            each = λ j lt is_one. elim (cases_lt j at) [
              | inl below ↦ rw (get_or-set_other now at j slot 0 (λ same. absurd (omega (arith, below, same)))) (r.each j below is_one)
              | inr le ↦
                  let same : j ≡ at = omega (arith, lt, le) in
                  rw (same, get_or-set_same now at slot 0 (omega (arith, within, long))) number
            ];
            rest = λ j le. get_or-set_other now at j slot 0 (λ same. absurd (omega (arith, le, same))) ∙ r.rest j (omega (arith, le));
            reached = omega (arith, up_to, counted, r.reached);
          }

-- where the item of each slot has gone
pub record HasGone {T : Type 0} (new : List (Option T)) (numbers : List ℕ) (slot : ℕ) (x : T) : Type 0 where
  pub within : slot < length numbers
  pub small : get_or numbers slot 0 + 1 < 2 ^ 64
  pub item : get new (get_or numbers slot 0) ≡ Some x

module _ {T : Type 0} (old new : List (Option T)) (marks numbers : List ℕ) (are : AreMarks old marks) (named : AreNumbers new marks numbers) (same : contents new ≡ contents old) where
  pub has_gone : (slot : ℕ) (x : T) → get old slot ≡ Some x → HasGone new numbers slot x
  has_gone slot x is =
      let within : slot < length marks = are.all slot (rw is refl) in
      let one : get_or marks slot 0 ≡ 1 = subst (λ (ms : List ℕ). get_or ms slot 0 ≡ 1) (sym are.each) (mark-live old (length marks) slot x is within) in
      let there = named.each slot within one in
      let here = value_in (get new (get_or numbers slot 0)) there.live in
      let rank : length (contents (take (get_or numbers slot 0) new)) ≡ length (contents (take slot old)) = there.before ∙ marked-before old marks are slot (omega (arith, within)) in
      let found = behind_others new (get_or numbers slot 0) here.0 x here.1 in
      let was = behind_others old slot x x is in
      let alike : here.0 ≡ x = sym found ∙ (ap (λ (n : ℕ). get_or (contents new) n x) rank ∙ (ap (λ (xs : List T). get_or xs (length (contents (take slot old))) x) same ∙ was)) in
      record { within = omega (arith, within, named.length); small = there.small; item = here.1 ∙ ap Some alike }

  module _ {K : Type 0} {by : T → T → Ordering} (sort : T → K) {cmp : K → K → Ordering} (es : List (Entry K)) (r : IsListed by sort cmp old es) where
    pub are_small : All (λ e. (e.slot < length numbers) × (get_or numbers e.slot 0 + 1 < 2 ^ 64)) es
    are_small i d lt =
        let here = value_in (item_in old (get_or es i d)) (r.live i d lt) in
        let gone = has_gone (get_or es i d).slot here.0 here.1 in
        (gone.within, gone.small)

    same_item : (i : ℕ) (d : Entry K) → i < length es → item_in new (renumbered numbers (get_or es i d)) ≡ item_in old (get_or es i d)
    same_item i d lt =
        let here = value_in (item_in old (get_or es i d)) (r.live i d lt) in
        (has_gone (get_or es i d).slot here.0 here.1).item ∙ sym here.1

    pub items-renumbered : items_in new (map (renumbered numbers) es) ≡ items_in old es
    items-renumbered = over es same_item
      where
        over : (fs : List (Entry K)) → ((i : ℕ) (d : Entry K) → i < length fs → item_in new (renumbered numbers (get_or fs i d)) ≡ item_in old (get_or fs i d))
            → items_in new (map (renumbered numbers) fs) ≡ items_in old fs
        over [] alike = refl
        over (f ∷ fs) alike = rw (alike 0 f (omega arith), over fs (λ i d lt. alike (suc i) d (omega (arith, lt)))) refl

    pub IsListed-renumbered : IsListed by sort cmp new (map (renumbered numbers) es)
    IsListed-renumbered =
        let len = length-map es (renumbered numbers) in
        record {
          live = λ i d lt.
              let less : i < length es = omega (arith, lt, len) in
              rw (get_or-map (renumbered numbers) es i d d less, same_item i d less) (r.live i d less);
          keyed = λ i d lt x found.
              let less : i < length es = omega (arith, lt, len) in
              rw (get_or-map (renumbered numbers) es i d d less) (r.keyed i d less x (sym (same_item i d less) ∙ (rw (get_or-map (renumbered numbers) es i d d less) at found)));
          counted = omega (arith, len, r.counted, length-contents new, length-contents old, ap length same);
          ascending = rw items-renumbered r.ascending;
        }

-- the first entries are changed
module _ {E : Type 0} (f : E → E) where
  abbrev pub changed_to : List E → ℕ → List E
  changed_to es i = map f (take i es) ++ drop i es

  pub changed-here : (es : List E) (i : ℕ) (d : E) → i < length es → get_or (changed_to es i) i d ≡ get_or es i d
  changed-here [] i d lt = absurd (omega (arith, lt))
  changed-here (e ∷ es) zero d lt = refl
  changed-here (e ∷ es) (suc i) d lt = changed-here es i d (omega (arith, lt))

  pub changed-more : (es : List E) (i : ℕ) (d : E) → i < length es → set (changed_to es i) i (f (get_or es i d)) ≡ changed_to es (i + 1)
  changed-more es i d lt = subst (λ (n : ℕ). set (changed_to es i) i (f (get_or es i d)) ≡ changed_to es n) (sym (add-one i)) (more es i d lt)
    where
      more : (es : List E) (i : ℕ) (d : E) → i < length es → set (changed_to es i) i (f (get_or es i d)) ≡ changed_to es (suc i)
      more [] i d lt = absurd (omega (arith, lt))
      more (e ∷ es) zero d lt = refl
      more (e ∷ es) (suc i) d lt = ap (λ (xs : List E). f e ∷ xs) (more es i d (omega (arith, lt)))

  pub length-changed : (es : List E) (i : ℕ) → length (changed_to es i) ≡ length es
  length-changed es zero = refl
  length-changed [] (suc i) = refl
  length-changed (e ∷ es) (suc i) = ap suc (length-changed es i)

  pub changed-all : (es : List E) (i : ℕ) → length es ≤ i → changed_to es i ≡ map f es
  changed-all [] zero le = refl
  changed-all (e ∷ es) zero le = absurd (omega (arith, le))
  changed-all [] (suc i) le = refl
  changed-all (e ∷ es) (suc i) le = ap (λ (xs : List E). f e ∷ xs) (changed-all es i (omega (arith, le)))

-- the entry that is changed next
module _ {K : Type 0} (numbers : List ℕ) (es now : List (Entry K)) (i : ℕ) (is : now ≡ changed_to (renumbered numbers) es i) (within : i < length now) (e : Entry K) (here : e ≡ get_or now i e) where
  less : i < length es
  less = omega (arith, within, ap length is, length-changed (renumbered numbers) es i)

  same : e ≡ get_or es i e
  same = here ∙ (ap (λ (xs : List (Entry K)). get_or xs i e) is ∙ changed-here (renumbered numbers) es i e less)

  pub small_here : All (λ f. (f.slot < length numbers) × (get_or numbers f.slot 0 + 1 < 2 ^ 64)) es → (e.slot < length numbers) × (get_or numbers e.slot 0 + 1 < 2 ^ 64)
  small_here small = subst (λ (f : Entry K). (f.slot < length numbers) × (get_or numbers f.slot 0 + 1 < 2 ^ 64)) (sym same) (small i e less)

  pub changed_next : set now i (renumbered numbers e) ≡ changed_to (renumbered numbers) es (i + 1)
  changed_next =
      ap (λ (xs : List (Entry K)). set xs i (renumbered numbers e)) is ∙ (ap (λ (f : Entry K). set (changed_to (renumbered numbers) es i) i (renumbered numbers f)) same ∙ changed-more (renumbered numbers) es i e less)
