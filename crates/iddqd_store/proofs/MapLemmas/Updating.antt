-- An iteration in which each item gets the data that a closure returns, or is removed.
use Rattle.std.specs.Prelude.{◌≡◌, ℕ, Bool, true, false, is_some, List, [], ◌∷◌, ◌++◌, map, Option, Some, None, IsSome}
use Rattle.std.specs.List.{list_any}
use Rattle.std.specs.Borrow.{MutBor}
use Rattle.std.specs.Option.{IfSome, option_and_then, option_copied_mut, option_to_list}
use Rattle.std.proofs.Common.{refl, sym, ap, subst, ◌∙◌, append_assoc, set, ◌+◌}
use Rattle.std.proofs.lemmas.Bool.{false≢true}
use Rattle.std.proofs.lemmas.List.Sorted.{IsPermutation-refl}
use Rattle.iddqd_store.specs.Bag.{IsOnly}
use Rattle.iddqd_store.specs.Bag.Storing.{Writes, StoresInAll, Rewrites, RewritesAll}
use Rattle.iddqd_store.specs.Map.{Map, bag}
use Rattle.iddqd_store.specs.Map.Walk.{Passes, passed_items, to_come}
use Rattle.iddqd_store.specs.Map.Written.{map_with_if}
use Rattle.iddqd_store.specs.Slots.{IsLive, contents, get}
use Rattle.iddqd_store.specs.Slots.Found.{FoundAt}
use Rattle.iddqd_store.specs.Slots.Next.{ComesNext}
use Rattle.iddqd_store.proofs.BagLemmas.Unique.{any_listed, some_item}
use Rattle.iddqd_store.proofs.MapLemmas.Storing.{stays_live}
use Rattle.iddqd_store.proofs.SlotLemmas.Next.{before_and_behind, emptied_before, same_behind}

module _ {F T S : Type 0} (Makes : F → List T → List T → Type 0) where
  -- what is made of the items so far and what is made of the rest are what is made of all
  abbrev pub Completes : F → List T → F → Map T S → ℕ → Type 0
  Completes start all f m from = (rest : List T) → Makes f (to_come m from) rest → Makes start all (passed_items m from ++ rest)

  -- an item has been passed, and `made` is what was made of it
  completes_on : (start f g : F) (all : List T) (m new : Map T S) (from to : ℕ) (x : T) (made behind : List T) → to_come m from ≡ x ∷ behind
      → to_come new to ≡ behind → passed_items new to ≡ passed_items m from ++ made
      → ((rest : List T) → Makes g behind rest → Makes f (x ∷ behind) (made ++ rest)) → Completes start all f m from → Completes start all g new to
  completes_on start f g all m new from to x made behind comes stays before one completes rest h =
      let on = one rest (subst (λ l. Makes g l rest) stays h) in
      let whole = completes (made ++ rest) (subst (λ l. Makes f l (made ++ rest)) (sym comes) on) in
      subst (λ l. Makes start all l) (sym (ap (λ l. l ++ rest) before ∙ append_assoc (passed_items m from) made rest)) whole

  all_made : (start f : F) (all : List T) (m : Map T S) (from : ℕ) → to_come m from ≡ [] → Makes f [] [] → Completes start all f m from → Makes start all (bag m)
  all_made start f all m from none nothing completes =
      subst (λ l. Makes start all l) (ap (λ l. passed_items m from ++ l) (sym none) ∙ before_and_behind m.slots from) (completes [] (subst (λ l. Makes f l []) (sym none) nothing))

module _ {F T D S : Type 0} (step : F → T → D → F → Type 0) (put : T → D → T) where
  pub written_one : (start f g : F) (all : List T) (m : Map T S) (from to : ℕ) (x : T) (d : D) (written : (T → T) → Map T S) (new : Map T S)
      → new ≡ written (λ y. put y d) → Passes m from x written to → step f x d g → Completes (Writes step put) start all f m from
      → Completes (Writes step put) start all g new to
  written_one start f g all m from to x d written new is next called =
      let w = λ (y : T). put y d in
      completes_on (Writes step put) start f g all m new from to x (put x d ∷ []) (to_come m to) next.comes
      (ap (λ n. to_come n to) is ∙ next.behind w) (ap (λ n. passed_items n to) is ∙ next.before w) (λ rest h. (d, g, rest, called, refl, h))

  pub all_written : (start f : F) (old m : Map T S) (from : ℕ) → to_come m from ≡ [] → Completes (Writes step put) start (contents old.slots) f m from → StoresInAll step put start (bag old) (bag m)
  all_written start f old m from none completes = record {
    listed = bag old;
    same = IsPermutation-refl (bag old);
    written = bag m;
    writes = all_made (Writes step put) start f (bag old) m from none refl completes;
    are = IsPermutation-refl (bag m);
  }

append_none : {T : Type 0} (xs : List T) → xs ≡ xs ++ []
append_none [] = refl
append_none (x ∷ xs) = ap (λ l. x ∷ l) (append_none xs)

module _ {F T D S : Type 0} (step : F → T → Option D → F → Type 0) (put : T → D → T) where
  -- the closure returned data for the next item, which was stored
  pub rewritten_kept : (start f g : F) (all : List T) (m : Map T S) (from to : ℕ) (x : T) (d : D) (written : (T → T) → Map T S) (new : Map T S)
      → new ≡ written (λ y. put y d) → Passes m from x written to → step f x (Some d) g → Completes (Rewrites step put) start all f m from
      → Completes (Rewrites step put) start all g new to
  rewritten_kept start f g all m from to x d written new is next called =
      let w = λ (y : T). put y d in
      completes_on (Rewrites step put) start f g all m new from to x (put x d ∷ []) (to_come m to) next.comes
      (ap (λ n. to_come n to) is ∙ next.behind w) (ap (λ n. passed_items n to) is ∙ next.before w) (λ rest h. (Some d, g, rest, called, refl, h))

  -- the closure returned nothing for the next item, which was taken out
  pub rewritten_taken : (start f g : F) (all : List T) (m new : Map T S) (from at : ℕ) (x : T) → ComesNext m.slots from at x
      → new.slots ≡ set m.slots at None → step f x None g → Completes (Rewrites step put) start all f m from
      → Completes (Rewrites step put) start all g new (at + 1)
  rewritten_taken start f g all m new from at x next is called =
      let before : passed_items new (at + 1) ≡ passed_items m from ++ [] = rw is (emptied_before m.slots from at x next) ∙ append_none (passed_items m from) in
      completes_on (Rewrites step put) start f g all m new from (at + 1) x [] (to_come m (at + 1)) next.rest
      (rw is (same_behind m.slots at)) before (λ rest h. (None, g, rest, called, refl, h))

  pub all_rewritten : (start f : F) (old m : Map T S) (from : ℕ) → to_come m from ≡ []
      → Completes (Rewrites step put) start (contents old.slots) f m from → RewritesAll step put start (bag old) (bag m)
  all_rewritten start f old m from none completes = record {
    listed = bag old;
    same = IsPermutation-refl (bag old);
    left = bag m;
    rewrites = all_made (Rewrites step put) start f (bag old) m from none refl completes;
    are = IsPermutation-refl (bag m);
  }

any_one : {T : Type 0} (test : T → Bool) (xs : List T) (o : Option T) → IsOnly test xs o → is_some o ≡ true → true ≡ list_any test xs
any_one test xs None only live = absurd (cc live)
any_one test xs (Some x) only live = ap some_item only ∙ sym (any_listed test xs)

-- a search that found a slot, or none, tells whether there is a member
module _ {T : Type 0} (test : T → Bool) (slots : List (Option T)) where
  pub any_found : (slot : ℕ) → FoundAt test slots (Some slot) → true ≡ list_any test (contents slots)
  any_found slot found = any_one test (contents slots) (get slots slot) found.only found.live

  -- the member that it found is the only one
  pub found_one : (slot : ℕ) (x : T) → FoundAt test slots (Some slot) → get slots slot ≡ Some x → IsOnly test (contents slots) (Some x)
  found_one slot x found here = ap option_to_list (sym here) ∙ found.only

  pub any_absent : FoundAt test slots None → false ≡ list_any test (contents slots)
  any_absent found = ap some_item found.only ∙ sym (any_listed test (contents slots))

-- what is borrowed from the slot, if there is one, is a part of its item
pub held_data : {T D : Type 0} (part : T → D) (slots : List (Option T)) (at : Option ℕ) (r : Option (MutBor D)) → IfSome at (IsLive slots) → is_some r ≡ is_some at →
    ((x : T) → option_and_then (get slots) at ≡ Some x → IfSome r (λ m. m.now ≡ part x)) → option_to_list (option_copied_mut r) ≡ map part (option_to_list (option_and_then (get slots) at))
held_data part slots None None live some value = refl
held_data part slots None (Some m) live some value = absurd (false≢true (sym some))
held_data part slots (Some slot) None live some value = absurd (false≢true some)
held_data {T} part slots (Some slot) (Some m) live some value = by_slot (get slots slot) refl live
  where
    by_slot : (o : Option T) → get slots slot ≡ o → IsSome o → m.now ∷ [] ≡ map part (option_to_list o)
    by_slot None there some = absurd (cc)
    by_slot (Some x) there some = ap (λ d. d ∷ []) (value x there)

-- an item that is held for writing is in the map after a write
pub held_live : {T S : Type 0} (f : T → T) (m : Map T S) (slot at : Option ℕ) → IfSome at (IsLive m.slots) → IfSome at (IsLive (map_with_if m slot f).slots)
held_live f m None at h = h
held_live f m (Some i) None h = h
held_live f m (Some i) (Some k) h = stays_live f m i k h
