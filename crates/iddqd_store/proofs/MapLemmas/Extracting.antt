-- An iteration in which items leave: how a call steps on past an item that stays, and past one that leaves.
use Rattle.std.specs.Prelude.{◌≡◌, ◌≤◌, ℕ, ◌+◌, Bool, true, false, List, [], ◌∷◌, ◌++◌, Some, None}
use Rattle.std.proofs.Common.{arith, refl, sym, ap, ◌∙◌, subst, set, append_assoc, append-nil}
use Rattle.iddqd_store.specs.Map.{Map}
use Rattle.iddqd_store.specs.Map.Extracting.{Extracts, PopsFrom, Rejects}
use Rattle.iddqd_store.specs.Map.Walk.{passed_items, to_come}
use Rattle.iddqd_store.specs.Slots.Next.{ComesNext}
use Rattle.iddqd_store.proofs.SlotLemmas.Next.{emptied_before, same_behind, taken_before}

module _ {F T : Type 0} (step : F → T → Bool → F → Type 0) where
  rejects_on : (f q g : F) (xs : List T) (x : T) → Rejects step f xs q → step q x false g → Rejects step f (xs ++ x ∷ []) g
  rejects_on f q g [] x is called = (g, subst (λ p. step p x false g) (sym is) called, refl)
  rejects_on f q g (y ∷ ys) x (h, first, rest) called = (h, first, rejects_on h q g ys x rest called)

module _ {F T S : Type 0} (step : F → T → Bool → F → Type 0) where
  -- what the loop keeps: the closure rejected each item between the place `from` and the place `at`
  pub record HasRejected (f : F) (m : Map T S) (from : ℕ) (q : F) (at : ℕ) : Type 0 where
    pub rejected : List T
    pub rejects : Rejects step f rejected q
    pub comes : to_come m from ≡ rejected ++ to_come m at
    pub before : passed_items m at ≡ passed_items m from ++ rejected
    pub onward : from ≤ at

  pub rejected-start : (f : F) (m : Map T S) (from : ℕ) → HasRejected f m from f from
  rejected-start f m from = record { rejected = []; rejects = refl; comes = refl; before = sym (append-nil (passed_items m from)); onward = omega arith }

  pub rejected-on : (f q g : F) (m : Map T S) (from at slot : ℕ) (x : T) → ComesNext m.slots at slot x → step q x false g → HasRejected f m from q at → HasRejected f m from g (slot + 1)
  rejected-on f q g m from at slot x next called was =
      record {
        rejected = was.rejected ++ x ∷ [];
        rejects = rejects_on step f q g was.rejected x was.rejects called;
        comes = was.comes ∙ ap (λ l. was.rejected ++ l) next.rest ∙ sym (append_assoc was.rejected (x ∷ []) (to_come m (slot + 1)));
        before = taken_before m.slots at slot x next ∙ ap (λ l. l ++ x ∷ []) was.before ∙ append_assoc (passed_items m from) was.rejected (x ∷ []);
        onward = omega (arith, was.onward, next.ahead);
      }

  pub extracts-some : (f q g : F) (m n : Map T S) (from at slot : ℕ) (x : T) → ComesNext m.slots at slot x → n.slots ≡ set m.slots slot None
      → step q x true g → HasRejected f m from q at → Extracts step f m from (Some x) n (slot + 1)
  extracts-some f q g m n from at slot x next emptied called was =
      record {
        rejected = was.rejected;
        state = q;
        rejects = was.rejects;
        accepts = (g, called);
        comes = was.comes ∙ ap (λ l. was.rejected ++ l) (next.rest ∙ ap (λ l. x ∷ l) (rw emptied (sym (same_behind m.slots slot))));
        before = rw emptied (emptied_before m.slots at slot x next ∙ was.before);
        none_left = tt;
        onward = omega (arith, was.onward, next.ahead);
      }

module _ {T S : Type 0} where
  pub pops-some : (m n : Map T S) (from slot : ℕ) (x : T) → ComesNext m.slots from slot x → n.slots ≡ set m.slots slot None → PopsFrom m from (Some x) n (slot + 1)
  pops-some m n from slot x next emptied =
      record {
        comes = next.rest ∙ ap (λ l. x ∷ l) (rw emptied (sym (same_behind m.slots slot)));
        before = rw emptied (emptied_before m.slots from slot x next);
        none_left = tt;
        onward = omega (arith, next.ahead);
      }
