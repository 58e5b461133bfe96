-- Data stored at the slots that searches found, one after the other.
use Rattle.std.specs.Prelude.{◌≡◌, ℕ, zero, suc, slice_set, false, List, [], ◌∷◌, ◌++◌, All, IsPermutation, Option, Some, None, fold, if◌then◌else◌, nat_eq}
use Rattle.std.specs.List.{AllByRecursion, IsDistinct}
use Rattle.std.specs.Borrow.{Bor}
use Rattle.std.specs.Fn.{Mut, CalledAt}
use Rattle.std.specs.Option.{IfSome}
use Rattle.std.proofs.Common.{refl, subst}
use Rattle.std.proofs.lemmas.List.{get_or-set_other}
use Rattle.std.proofs.lemmas.List.Elements.{All-nil, All-cons, All-head, All-tail, All-append}
use Rattle.std.proofs.lemmas.List.Sorted.{IsPermutation-trans}
use Rattle.std.proofs.lemmas.Map.Keys.{IsDistinct-head}
use Rattle.iddqd_store.specs.Bag.{Ranks, swap}
use Rattle.iddqd_store.specs.Bag.Storing.{Stores}
use Rattle.iddqd_store.specs.Map.{Map, bag}
use Rattle.iddqd_store.specs.Map.Written.{map_with, of_item}
use Rattle.iddqd_store.specs.Slots.{get, IsLive}
use Rattle.iddqd_store.specs.Slots.Found.{each_once, items_at, contains, with_found}
use Rattle.iddqd_store.proofs.Plain.{number_apart}
use Rattle.iddqd_store.proofs.BagLemmas.Calling.{TakesEach}
use Rattle.iddqd_store.proofs.BagLemmas.Exchanges.{split}
use Rattle.iddqd_store.proofs.BagLemmas.Theory.{swap-IsPermutation}

module _ {T : Type 0} (slots : List (Option T)) where
  live_with : (numbers : List ℕ) (at : Option ℕ) → All (IsLive slots) numbers → IfSome at (IsLive slots) → All (IsLive slots) (with_found numbers at)
  live_with numbers None live there = live
  live_with numbers (Some slot) live there =
      split (λ b. All (IsLive slots) (if b then numbers else numbers ++ slot ∷ [])) (contains numbers slot) (λ _. live)
      (λ _. All-append (IsLive slots) numbers (slot ∷ []) live (All-cons (IsLive slots) slot [] there (All-nil (IsLive slots))))

  -- each slot that was found is live
  pub live_found : (found : List (Option ℕ)) → AllByRecursion (λ at. IfSome at (IsLive slots)) found → All (IsLive slots) (each_once found)
  live_found found live = on [] found (All-nil (IsLive slots)) live
    where
      on : (numbers : List ℕ) (found : List (Option ℕ)) → All (IsLive slots) numbers → AllByRecursion (λ at. IfSome at (IsLive slots)) found → All (IsLive slots) (fold with_found numbers found)
      on numbers [] live rest = live
      on numbers (at ∷ found) live rest = on (with_found numbers at) found (live_with numbers at live rest.0) rest.1

module _ {T S : Type 0} (m : Map T S) (slot : ℕ) (f : T → T) where
  written_elsewhere : (other : ℕ) → nat_eq slot other ≡ false → get (map_with m slot f).slots other ≡ get m.slots other
  written_elsewhere other differs = get_or-set_other m.slots slot other _ None (number_apart slot other differs)

  items_elsewhere : (rest : List ℕ) → AllByRecursion (λ other. nat_eq slot other ≡ false) rest → items_at (map_with m slot f).slots rest ≡ items_at m.slots rest
  items_elsewhere [] apart = refl
  items_elsewhere (other ∷ rest) apart = rw (written_elsewhere other apart.0, items_elsewhere rest apart.1) refl

  -- an item that is written leaves the other slots live
  pub live_elsewhere : (rest : List ℕ) → IsDistinct nat_eq (slot ∷ rest) → All (IsLive m.slots) rest → All (IsLive (map_with m slot f).slots) rest
  live_elsewhere rest apart live = each rest (IsDistinct-head nat_eq slot rest apart) live
    where
      each : (rest : List ℕ) → AllByRecursion (λ other. nat_eq slot other ≡ false) rest → All (IsLive m.slots) rest → All (IsLive (map_with m slot f).slots) rest
      each [] apart live = All-nil (IsLive (map_with m slot f).slots)
      each (other ∷ rest) apart live =
          All-cons (IsLive (map_with m slot f).slots) other rest
          (rw (written_elsewhere other apart.0) (All-head (IsLive m.slots) other rest live))
          (each rest apart.1 (All-tail (IsLive m.slots) other rest live))

-- every slot that was live stays live
module _ {T : Type 0} (f : T → T) where
  stays : (slots : List (Option T)) (slot at : ℕ) → IsLive slots at → IsLive (slice_set slots slot (of_item f (get slots slot))) at
  stays [] slot at live = live
  stays (None ∷ slots) zero at live = live
  stays (Some x ∷ slots) zero zero live = live
  stays (Some x ∷ slots) zero (suc at) live = live
  stays (o ∷ slots) (suc slot) zero live = live
  stays (o ∷ slots) (suc slot) (suc at) live = stays slots slot at live

  pub stays_live : {S : Type 0} (m : Map T S) (slot at : ℕ) → IsLive m.slots at → IsLive (map_with m slot f).slots at
  stays_live m slot at live = stays m.slots slot at live

module _ {F T D : Type 0} (step : F → T → D → F → Type 0) (put : T → D → T) (ranks : Ranks T) where
  -- what is stored depends on the bag up to its order
  from_bag : (f : F) (xs held other new : List T) → IsPermutation held other → Stores step put ranks f xs held new → Stores step put ranks f xs other new
  from_bag f [] held other new same stores = IsPermutation-trans _ _ _ stores same
  from_bag f (x ∷ xs) held other new same stores = (stores.0, stores.1, stores.2, from_bag stores.1 xs _ _ new (swap-IsPermutation ranks held other x (put x stores.0) same) stores.3)

  -- data is stored at the first slot, and then at the others
  pub one_store : {S : Type 0} (f g : F) (old mid : Map T S) (new : List T) (slot : ℕ) (rest : List ℕ) (x : T) (d : D)
      → IsDistinct nat_eq (slot ∷ rest) → get old.slots slot ≡ Some x → step f x d g → mid ≡ map_with old slot (λ z. put z d)
      → IsPermutation (bag mid) (swap ranks (bag old) x (put x d)) → Stores step put ranks g (items_at mid.slots rest) (bag mid) new
      → Stores step put ranks f (items_at old.slots (slot ∷ rest)) (bag old) new
  one_store f g old mid new slot rest x d apart here called is swaps stores =
      let same : items_at mid.slots rest ≡ items_at old.slots rest = rw is (items_elsewhere old slot (λ z. put z d) rest (IsDistinct-head nat_eq slot rest apart)) in
      rw here (d, g, called, from_bag g _ _ _ new swaps (subst (λ l. Stores step put ranks g l (bag mid) new) same stores))

-- a closure that may be called at the items of slots in turn may be called at that of the first
module _ {F T D : Type 0} (g : Mut F (Bor T × Unit {0}) D) (f : F) where
  -- once its result is stored there, it may be called at those of the others
  pub takes_elsewhere : {S : Type 0} (h : F) (m : Map T S) (slot : ℕ) (rest : List ℕ) (x : T) (d : D) (put : T → T) → IsDistinct nat_eq (slot ∷ rest)
      → get m.slots slot ≡ Some x → CalledAt g f x d h → TakesEach g f (items_at m.slots (slot ∷ rest))
      → TakesEach g h (items_at (map_with m slot put).slots rest)
  takes_elsewhere h m slot rest x d put apart here called takes =
      rw (items_elsewhere m slot put rest (IsDistinct-head nat_eq slot rest apart)) ((rw here at takes).1 d h called)
