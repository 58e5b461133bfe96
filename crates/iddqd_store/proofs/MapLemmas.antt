-- Lemmas for the invariants of the maps, with any number of ranks.
pub mod Blocking
pub mod Calls
pub mod Extending
pub mod Extracting
pub mod Fitting
pub mod Growing
pub mod Mapped
pub mod Overwriting
pub mod Places
pub mod Rekeyed
pub mod Removing
pub mod Storing
pub mod Updating
pub mod Walking
pub mod Where
pub mod Written
use Rattle.std.specs.Prelude.{◌≡◌, ◌+◌, ◌<◌, ℕ, Bool, List, [], ◌∷◌, ◌++◌, length, IsPermutation, Option, Result, Ok, Err, IfErr, OnErr}
use Rattle.std.specs.Cmp.{IsEquivalence}
use Rattle.std.proofs.Common.{refl, sym, subst, ap, ◌∙◌, arith}
use Rattle.std.proofs.lemmas.Map.Keys.{IsDistinct-cons, IsDistinct-tail}
use Rattle.std.proofs.lemmas.List.Sorted.{IsPermutation-sym}
use Rattle.iddqd_store.specs.Slots.{members, contents}
use Rattle.iddqd_store.specs.Bag.{Ranks, AreLawful, IsSound, do_conflict, conflicts_of}
use Rattle.iddqd_store.specs.Rank.Keys.{IsKeyTest}
use Rattle.iddqd_store.specs.Map.{Map, bag, MakesRoom}
use Rattle.iddqd_store.proofs.BagLemmas.Sound.{IsSound-IsPermutation}
use Rattle.iddqd_store.proofs.BagLemmas.Steps.{none_passes}
use Rattle.iddqd_store.proofs.SlotLemmas.Contents.{contents-moves}

-- keys tell items apart by an equivalence
pub IsEquivalence-key : {T K : Type 0} (eq : K → K → Bool) (key : T → K) → IsEquivalence eq → IsEquivalence (λ (x y : T). eq (key x) (key y))
IsEquivalence-key eq key laws = record {
  refl = λ x. laws.refl (key x);
  symm = λ x y. laws.symm (key x) (key y);
  congr = λ x y z. laws.congr (key x) (key y) (key z);
}

-- a key is a test: an item that has the key agrees with exactly the items that have it
pub IsKeyTest-key : {T K : Type 0} (eq : K → K → Bool) (key : T → K) → IsEquivalence eq → (k : K) → IsKeyTest (λ x y. eq (key x) (key y)) (λ x. eq k (key x))
IsKeyTest-key eq key laws k = λ x y has. laws.congr (key x) k (key y) (laws.symm (key x) k ∙ has)

module _ {T : Type 0} where
  -- a sound bag with an item that nothing conflicts with is sound
  pub free_sound : (ranks : Ranks T) → AreLawful ranks → (old new : List (Option T)) (at : ℕ) (x : T) → IsSound ranks (contents old)
      → conflicts_of ranks (contents old) x ≡ [] → IsPermutation (members new) ((at, x) ∷ members old) → IsSound ranks (contents new)
  free_sound ranks laws old new at x sound free moved =
      IsSound-IsPermutation ranks laws _ _ (IsPermutation-sym _ _ (contents-moves new old at x moved))
      (IsDistinct-cons (do_conflict ranks) x (contents old) (none_passes (do_conflict ranks x) (contents old) free) sound)

  -- a sound bag without one of its items is sound
  pub sound_without : (ranks : Ranks T) → AreLawful ranks → (old new : List (Option T)) (at : ℕ) (x : T) → IsSound ranks (contents old)
      → IsPermutation (members old) ((at, x) ∷ members new) → IsSound ranks (contents new)
  sound_without ranks laws old new at x sound moved =
      IsDistinct-tail (do_conflict ranks) x (contents new) (IsSound-IsPermutation ranks laws _ _ (contents-moves old new at x moved) sound)

  -- a sound bag without some of its items is sound
  pub sound_left : (ranks : Ranks T) → AreLawful ranks → (old taken new : List T) → IsSound ranks old → IsPermutation old (taken ++ new) → IsSound ranks new
  sound_left ranks laws old taken new sound left = behind taken (IsSound-IsPermutation ranks laws _ _ left sound)
    where
      behind : (front : List T) → IsSound ranks (front ++ new) → IsSound ranks new
      behind [] whole = whole
      behind (x ∷ front) whole = behind front (IsDistinct-tail (do_conflict ranks) x (front ++ new) whole)

pub on_err : {A E P : Type 0} (r : Result A E) → P → OnErr r P
on_err (Ok _) p = tt
on_err (Err _) p = p

pub at_err : {A E : Type 0} (r : Result A E) (e : E) (P : E → Type 0) → r ≡ Err e → P e → IfErr r P
at_err {A} {E} r e P is p = subst (λ (r : Result A E). IfErr r P) (sym is) p

module _ {T S : Type 0} where
  -- a request for room fails if that many items don't fit, and nothing changes then
  pub MakesRoom-err : {A E : Type 0} {old new : Map T S} {more : ℕ} (r : Result A E) (e : E) → r ≡ Err e → old.capacity < length (bag old) + more → new ≡ old → MakesRoom old more r new
  MakesRoom-err {A = A} {E = E} {old = old} {new = new} {more = more} r e is short same = subst (λ (x : Result A E). MakesRoom old more x new) (sym is) record {
    room = tt;
    reason = short;
    past = λ _. refl;
    no_less_room = let room = ap (λ (m : Map T S). m.capacity) same in omega (arith, room);
    same_room = λ _. ap (λ (m : Map T S). m.capacity) same;
    most = let room = ap (λ (m : Map T S). m.capacity) same in omega (arith, room);
    same_builder = ap (λ (m : Map T S). m.builder) same;
  }
