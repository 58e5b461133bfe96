-- How a map stays indexed if items leave their slots, and another item takes the slot of the first of them.
use Rattle.std.specs.Prelude.{◌≡◌, ◌<◌, ◌≤◌, ℕ, zero, suc, nat_eq, false, List, [], ◌∷◌, ◌++◌, length, map, Option, Some, None, IfSome, IsSome, slice_set, ⊤, All, Contains, IsPermutation}
use Rattle.std.specs.List.{AllByRecursion, IsDistinct}
use Rattle.std.proofs.Common.{get_or, refl, arith, subst, sym, ◌∙◌, length-append}
use Rattle.std.proofs.lemmas.List.{get_or_past, get_or-set_other, get_or-set_same}
use Rattle.std.proofs.lemmas.List.Elements.{All-head, All-tail}
use Rattle.std.proofs.lemmas.Map.Keys.{IsDistinct-head, IsDistinct-tail}
use Rattle.std.proofs.lemmas.List.Sorted.{IsPermutation-refl, IsPermutation-sym, IsPermutation-trans, IsPermutation-append, IsPermutation-middle, length_permutation}
use Rattle.iddqd_store.specs.Bag.{Ranks, AreLawful, IsSound, conflicts_of, conflicting, with_item}
use Rattle.iddqd_store.specs.Map.{Map, PutsAt, bag}
use Rattle.iddqd_store.specs.Rank.Index.{HasHash, IsIndex, AreIndexes, IsIndexed, pair_of}
use Rattle.iddqd_store.specs.Rank.{IsHashed, FoundByHash}
use Rattle.iddqd_store.specs.Slots.{IsLive, contents, get, members}
use Rattle.iddqd_store.specs.Slots.Found.{StandAt, items_at}
use Rattle.iddqd_store.proofs.BagLemmas.Over.{conflicts_of-taken}
use Rattle.iddqd_store.proofs.MapLemmas.{free_sound, sound_left}
use Rattle.iddqd_store.proofs.MapLemmas.Overwriting.{PutsAt-with_item}
use Rattle.iddqd_store.proofs.Plain.{other_number}
use Rattle.iddqd_store.proofs.RankLemmas.Index.{IsIndex-insert, IsIndex-remove, IsIndex-reorder, pair_in}
use Rattle.iddqd_store.proofs.SlotLemmas.Chain.{members-take, members-set}
use Rattle.iddqd_store.proofs.SlotLemmas.Contents.{contents-moves, contents-take}

module _ {T : Type 0} where
  -- the pair of a slot is there, by a hash that its item has
  pub paired_at : {hash : T → ℕ} {slots : List (Option T)} {pairs : List (ℕ × ℕ)} (at : ℕ) (x : T) (h : ℕ)
      → IsIndex hash slots pairs → HasHash hash slots at h → get slots at ≡ Some x → Contains pairs (h, at)
  paired_at at x h index hashed stands = pair_in at x h index (sym (hashed x stands)) stands

  -- what a search that found the slot knows is the hash of its item
  pub known_at : (hash : T → ℕ) (slots : List (Option T)) (found : FoundByHash) (at : ℕ) (known : Option ℕ) → IsHashed hash slots found
      → IfSome known (λ h. (found.slot ≡ Some at) × (h ≡ found.hash)) → IfSome known (HasHash hash slots at)
  known_at hash slots found at None hashed is = tt
  known_at hash slots found at (Some h) hashed is =
      rw is.1 (subst (λ (o : Option ℕ). IfSome o (λ i. HasHash hash slots i found.hash)) is.0 hashed)

  -- a hash of the slot that a search found is that of the search
  pub same_hash : (hash : T → ℕ) (slots : List (Option T)) (found : FoundByHash) (at : ℕ) (x : T) (h : ℕ) → IsHashed hash slots found
      → HasHash hash slots at h → get slots at ≡ Some x → found.slot ≡ Some at → h ≡ found.hash
  same_hash hash slots found at x h hashed has stands is =
      sym (has x stands) ∙ subst (λ (o : Option ℕ). IfSome o (λ i. HasHash hash slots i found.hash)) is hashed x stands

  -- the slots without the items of these
  abbrev pub without : List (Option T) → List ℕ → List (Option T)
  without slots [] = slots
  without slots (at ∷ numbers) = slice_set (without slots numbers) at None

  -- the items of these slots leave, from the last to the first
  abbrev pub Leave : List (Option T) → List ℕ → List T → Type 0
  Leave slots [] [] = ⊤
  Leave slots (at ∷ numbers) (x ∷ xs) = (get (without slots numbers) at ≡ Some x) × Leave slots numbers xs
  Leave slots numbers xs = ⊥

  -- an item that is in a slot after others left was there before
  stayed : (slots : List (Option T)) (gone at : ℕ) (x : T) → get (slice_set slots gone None) at ≡ Some x → get slots at ≡ Some x
  stayed [] gone at x is = is
  stayed (o ∷ slots) zero zero x is = absurd (cc is)
  stayed (o ∷ slots) zero (suc at) x is = is
  stayed (o ∷ slots) (suc gone) zero x is = is
  stayed (o ∷ slots) (suc gone) (suc at) x is = stayed slots gone at x is

  pub was_there : (slots : List (Option T)) (numbers : List ℕ) (at : ℕ) (x : T) → get (without slots numbers) at ≡ Some x → get slots at ≡ Some x
  was_there slots [] at x is = is
  was_there slots (gone ∷ numbers) at x is = was_there slots numbers at x (stayed (without slots numbers) gone at x is)

  contents-without : (slots : List (Option T)) (numbers : List ℕ) (xs : List T) → Leave slots numbers xs → IsPermutation (contents slots) (xs ++ contents (without slots numbers))
  contents-without slots [] [] leave = IsPermutation-refl (contents slots)
  contents-without slots [] (x ∷ xs) leave = absurd leave
  contents-without slots (at ∷ numbers) [] leave = absurd leave
  contents-without slots (at ∷ numbers) (x ∷ xs) leave =
      let out = contents-take (without slots numbers) at x leave.0 in
      IsPermutation-trans _ _ _ (contents-without slots numbers xs leave.1)
      (IsPermutation-trans _ _ _ (IsPermutation-append xs xs _ _ (IsPermutation-refl xs) out) (IsPermutation-middle xs x _))

  -- the slots and items that leave
  abbrev pub leaving : List ℕ → List T → List (ℕ × T)
  leaving [] xs = []
  leaving (at ∷ numbers) [] = []
  leaving (at ∷ numbers) (x ∷ xs) = (at, x) ∷ leaving numbers xs

  IsIndex-without : (hash : T → ℕ) (slots : List (Option T)) (numbers : List ℕ) (xs : List T) (pairs rest : List (ℕ × ℕ)) → IsIndex hash slots pairs
      → Leave slots numbers xs → IsPermutation pairs (map (pair_of hash) (leaving numbers xs) ++ rest) → IsIndex hash (without slots numbers) rest
  IsIndex-without hash slots [] [] pairs rest index leave out = IsIndex-reorder index out
  IsIndex-without hash slots [] (x ∷ xs) pairs rest index leave out = absurd leave
  IsIndex-without hash slots (at ∷ numbers) [] pairs rest index leave out = absurd leave
  IsIndex-without hash slots (at ∷ numbers) (x ∷ xs) pairs rest index leave out =
      let others = map (pair_of hash) (leaving numbers xs) in
      let before = IsPermutation-trans _ _ _ out (IsPermutation-sym _ _ (IsPermutation-middle others (hash x, at) rest)) in
      IsIndex-remove x (IsIndex-without hash slots numbers xs pairs ((hash x, at) ∷ rest) index leave.1 before) refl (members-take (without slots numbers) at x leave.0) (IsPermutation-refl _)

  -- in each table the pair of another item has replaced the pairs of those that leave
  abbrev pub AreDisplaced : List (ℕ × T) → T → ℕ → List (T → ℕ) → List (List (ℕ × ℕ)) → List (List (ℕ × ℕ)) → Type 0
  AreDisplaced gone y at [] [] [] = ⊤
  AreDisplaced gone y at (hash ∷ hashes) (pairs ∷ tables) (more ∷ others) =
      ((h : ℕ) × (rest : List (ℕ × ℕ)) × (h ≡ hash y) × IsPermutation pairs (map (pair_of hash) gone ++ rest) × IsPermutation more ((h, at) ∷ rest)) × AreDisplaced gone y at hashes tables others
  AreDisplaced gone y at hashes tables others = ⊥

  module _ (slots : List (Option T)) (at : ℕ) (numbers : List ℕ) (one : T) (xs : List T) (y : T) (leave : Leave slots (at ∷ numbers) (one ∷ xs)) where
    AreIndexes-displaced : (hashes : List (T → ℕ)) (tables others : List (List (ℕ × ℕ))) → AreIndexes hashes slots tables
        → AreDisplaced (leaving (at ∷ numbers) (one ∷ xs)) y at hashes tables others → AreIndexes hashes (slice_set (without slots numbers) at (Some y)) others
    AreIndexes-displaced [] [] [] all displaced = tt
    AreIndexes-displaced [] [] (more ∷ others) all displaced = absurd displaced
    AreIndexes-displaced [] (pairs ∷ tables) others all displaced = absurd all
    AreIndexes-displaced (hash ∷ hashes) [] others all displaced = absurd all
    AreIndexes-displaced (hash ∷ hashes) (pairs ∷ tables) [] all displaced = absurd displaced
    AreIndexes-displaced (hash ∷ hashes) (pairs ∷ tables) (more ∷ others) all displaced =
        let here = displaced.0 in
        let rest = IsIndex-without hash slots (at ∷ numbers) (one ∷ xs) pairs here.1 all.0 leave here.3 in (
          IsIndex-insert {old = without slots (at ∷ numbers)} y rest here.2 (members-set (without slots numbers) at one y leave.0) (IsPermutation-sym _ _ here.4),
          AreIndexes-displaced hashes tables others all.1 displaced.1,
        )

    sound_displaced : (ranks : Ranks T) → AreLawful ranks → IsSound ranks (contents slots)
        → conflicts_of ranks (contents (without slots (at ∷ numbers))) y ≡ [] → IsSound ranks (contents (slice_set (without slots numbers) at (Some y)))
    sound_displaced ranks laws sound free =
        free_sound ranks laws (without slots (at ∷ numbers)) (slice_set (without slots numbers) at (Some y))
        at y (sound_left ranks laws (contents slots) (one ∷ xs) _ sound (contents-without slots (at ∷ numbers) (one ∷ xs) leave)) free (members-set (without slots numbers) at one y leave.0)

    pub IsIndexed-displaced : {ranks : Ranks T} {hashes : List (T → ℕ)} {tables others : List (List (ℕ × ℕ))} → AreLawful ranks
        → IsIndexed ranks hashes slots tables → conflicts_of ranks (contents (without slots (at ∷ numbers))) y
        ≡ [] → AreDisplaced (leaving (at ∷ numbers) (one ∷ xs)) y at hashes tables others → IsIndexed ranks hashes (slice_set (without slots numbers) at (Some y)) others
    IsIndexed-displaced {ranks} {hashes} {tables} {others} laws indexed free displaced = record {
      sound = sound_displaced ranks laws indexed.sound free;
      indexes = AreIndexes-displaced hashes tables others indexed.indexes displaced;
    }

    stands : get (slice_set (without slots numbers) at (Some y)) at ≡ Some y
    stands =
        let has : get_or (without slots numbers) at None ≡ Some one = leave.0 in
        let within : at < length (without slots numbers) = grind (arith, get_or_past) in
        get_or-set_same (without slots numbers) at (Some y) None within

    pub PutsAt-displaced : {S : Type 0} {ranks : Ranks T} {old new : Map T S} → AreLawful ranks → old.slots ≡ slots → IsSound ranks (contents slots)
        → conflicts_of ranks (contents (without slots (at ∷ numbers))) y ≡ [] → length (contents slots) ≤ old.capacity
        → new.slots ≡ slice_set (without slots numbers) at (Some y) → new.capacity ≡ old.capacity
        → new.builder ≡ old.builder → PutsAt ranks old at y (y ∷ contents (without slots (at ∷ numbers))) new
    PutsAt-displaced {ranks = ranks} {old = old} {new = new} laws were sound free fits are room builder =
        let comes = contents-moves (slice_set (without slots numbers) at (Some y)) (without slots (at ∷ numbers)) at y (members-set (without slots numbers) at one y leave.0) in
        let more = length_permutation _ _ comes in
        let gone = length_permutation _ _ (contents-without slots (at ∷ numbers) (one ∷ xs) leave) in
        record {
          at = rw are stands;
          items = rw are comes;
          sound = rw are (sound_displaced ranks laws sound free);
          fits = rw (are, room) (omega (arith, more, gone, fits, length-append (one ∷ xs) (contents (without slots (at ∷ numbers)))));
          same_room = room;
          same_builder = builder;
        }

  -- an item that nothing conflicts with is put into a free slot
  pub PutsAt-inserted : {S : Type 0} {ranks : Ranks T} {old new : Map T S} (at : ℕ) (x : T) → AreLawful ranks → IsSound ranks (bag old)
      → conflicts_of ranks (bag old) x ≡ [] → IsPermutation (members new.slots) ((at, x) ∷ members old.slots) → get new.slots at ≡ Some x
      → length (bag old) < old.capacity → new.capacity ≡ old.capacity → new.builder ≡ old.builder → PutsAt ranks old at x (x ∷ bag old) new
  PutsAt-inserted {ranks = ranks} {old = old} {new = new} at x laws sound free added here fits room builder =
      let items = contents-moves new.slots old.slots at x added in
      let more = length_permutation _ _ items in
      record {
        at = here;
        items = items;
        sound = free_sound ranks laws old.slots new.slots at x sound free added;
        fits = rw room (omega (arith, more, fits));
        same_room = room;
        same_builder = builder;
      }

  -- the items of these slots can leave
  get-without : (slots : List (Option T)) (numbers : List ℕ) (at : ℕ) → AllByRecursion (λ k. nat_eq at k ≡ false) numbers → get (without slots numbers) at ≡ get slots at
  get-without slots [] at apart = refl
  get-without slots (k ∷ numbers) at apart =
      get_or-set_other (without slots numbers) k at None None (other_number at k apart.0) ∙ get-without slots numbers at apart.1

  standing : (slots : List (Option T)) (numbers : List ℕ) → All (IsLive slots) numbers → IsDistinct nat_eq numbers → Leave slots numbers (items_at slots numbers)
  standing slots [] live apart = tt
  standing slots (at ∷ numbers) live apart = by_slot (get slots at) refl (All-head (IsLive slots) at numbers live)
      (standing slots numbers (All-tail (IsLive slots) at numbers live) (IsDistinct-tail nat_eq at numbers apart))
    where
      by_slot : (o : Option T) → get slots at ≡ o → IsSome o → Leave slots numbers (items_at slots numbers) → Leave slots (at ∷ numbers) (items_at slots (at ∷ numbers))
      by_slot None is some rest = absurd (cc)
      by_slot (Some x) is some rest = rw is (get-without slots numbers at (IsDistinct-head nat_eq at numbers apart) ∙ is, rest)

  module _ {S : Type 0} (ranks : Ranks T) (old : Map T S) (x : T) (numbers : List ℕ) (stand : StandAt old.slots numbers (conflicting ranks (bag old) x)) where
    out : IsPermutation (bag old) (conflicting ranks (bag old) x ++ contents (without old.slots numbers))
    out = subst (λ l. IsPermutation (bag old) (l ++ contents (without old.slots numbers))) stand.items
        (contents-without old.slots numbers (items_at old.slots numbers) (standing old.slots numbers stand.live stand.apart))

    -- without the items that conflict with it, nothing conflicts with an item
    pub gives_way : conflicts_of ranks (contents (without old.slots numbers)) x ≡ []
    gives_way = conflicts_of-taken ranks (bag old) _ x out

    -- an item that is put in their place is put over the bag
    pub PutsAt-stand : {new : Map T S} {slot : ℕ} → PutsAt ranks old slot x (x ∷ contents (without old.slots numbers)) new → PutsAt ranks old slot x (with_item ranks (bag old) x) new
    PutsAt-stand {new} {slot} put = PutsAt-with_item ranks old new x slot _ out put
