-- How a map stays indexed, for any number of ranks.
use Rattle.std.specs.Prelude.{◌≡◌, ℕ, Bool, true, List, [], ◌∷◌, ◌++◌, map, Option, Contains, IsPermutation, ⊤}
use Rattle.std.specs.List.{AllZip}
use Rattle.std.proofs.Common.{refl}
use Rattle.iddqd_store.specs.Bag.{Ranks, AreLawful, do_conflict, conflicts_of, agrees}
use Rattle.iddqd_store.specs.Rank.Index.{AreIndexes, IsIndexed}
use Rattle.iddqd_store.specs.Rank.{IsSearchable}
use Rattle.iddqd_store.specs.Slots.{IsSlotClone, members, contents}
use Rattle.iddqd_store.proofs.BagLemmas.Sound.{IsSound-rank, IsDistinct-nil}
use Rattle.iddqd_store.proofs.RankLemmas.Copied.{is_copy, IsIndex-copy}
use Rattle.iddqd_store.proofs.RankLemmas.Index.{IsIndex-empty, IsIndex-reorder, IsIndex-insert, IsIndex-remove}
use Rattle.iddqd_store.proofs.MapLemmas.{free_sound, sound_left, sound_without}
use Rattle.iddqd_store.proofs.BagLemmas.Same.{IsSound-copy}

module _ {T : Type 0} where
  AreIndexes-empty : (hashes : List (T → ℕ)) → AreIndexes hashes [] (map (λ _. []) hashes)
  AreIndexes-empty [] = tt
  AreIndexes-empty (hash ∷ hashes) = (IsIndex-empty, AreIndexes-empty hashes)

  -- no items, and no pairs in any table
  pub IsIndexed-empty : (ranks : Ranks T) (hashes : List (T → ℕ)) → IsIndexed ranks hashes [] (map (λ _. []) hashes)
  IsIndexed-empty ranks hashes = record { sound = IsDistinct-nil (do_conflict ranks); indexes = AreIndexes-empty hashes }

  AreIndexes-reorder : (hashes : List (T → ℕ)) (slots : List (Option T)) (tables others : List (List (ℕ × ℕ))) → AreIndexes hashes slots tables
      → AllZip IsPermutation tables others → AreIndexes hashes slots others
  AreIndexes-reorder [] slots [] [] all same = tt
  AreIndexes-reorder [] slots [] (other ∷ others) all same = absurd same
  AreIndexes-reorder [] slots (pairs ∷ tables) others all same = absurd all
  AreIndexes-reorder (hash ∷ hashes) slots [] others all same = absurd all
  AreIndexes-reorder (hash ∷ hashes) slots (pairs ∷ tables) [] all same = absurd same
  AreIndexes-reorder (hash ∷ hashes) slots (pairs ∷ tables) (other ∷ others) all same =
      (IsIndex-reorder all.0 same.0, AreIndexes-reorder hashes slots tables others all.1 same.1)

  -- tables in another order index the same slots
  pub IsIndexed-reorder : {ranks : Ranks T} {hashes : List (T → ℕ)} {slots : List (Option T)} {tables others : List (List (ℕ × ℕ))}
      → IsIndexed ranks hashes slots tables → AllZip IsPermutation tables others → IsIndexed ranks hashes slots others
  IsIndexed-reorder {hashes = hashes} {slots = slots} {tables = tables} {others = others} indexed same =
      record { sound = indexed.sound; indexes = AreIndexes-reorder hashes slots tables others indexed.indexes same }

  -- each table gets the pair of an item in a slot, with the item's hash
  abbrev pub AreEntered : T → ℕ → List (T → ℕ) → List (List (ℕ × ℕ)) → List (List (ℕ × ℕ)) → Type 0
  AreEntered x at [] [] [] = ⊤
  AreEntered x at (hash ∷ hashes) (pairs ∷ tables) (more ∷ others) =
      ((h : ℕ) × (h ≡ hash x) × IsPermutation ((h, at) ∷ pairs) more) × AreEntered x at hashes tables others
  AreEntered x at hashes tables others = ⊥

  AreIndexes-insert : (x : T) (at : ℕ) (old new : List (Option T)) → IsPermutation (members new) ((at, x) ∷ members old) → (hashes : List (T → ℕ))
      (tables others : List (List (ℕ × ℕ))) → AreIndexes hashes old tables → AreEntered x at hashes tables others → AreIndexes hashes new others
  AreIndexes-insert x at old new added [] [] [] all inserted = tt
  AreIndexes-insert x at old new added [] [] (more ∷ others) all inserted = absurd inserted
  AreIndexes-insert x at old new added [] (pairs ∷ tables) others all inserted = absurd all
  AreIndexes-insert x at old new added (hash ∷ hashes) [] others all inserted = absurd all
  AreIndexes-insert x at old new added (hash ∷ hashes) (pairs ∷ tables) [] all inserted = absurd inserted
  AreIndexes-insert x at old new added (hash ∷ hashes) (pairs ∷ tables) (more ∷ others) all inserted =
      (IsIndex-insert x all.0 inserted.0.1 added inserted.0.2, AreIndexes-insert x at old new added hashes tables others all.1 inserted.1)

  -- an item that nothing conflicts with is put into a slot and into each table
  pub IsIndexed-insert : {ranks : Ranks T} {hashes : List (T → ℕ)} {old new : List (Option T)} {tables others : List (List (ℕ × ℕ))} {at : ℕ} (x : T)
      → AreLawful ranks → IsIndexed ranks hashes old tables → conflicts_of ranks (contents old) x ≡ [] → IsPermutation (members new) ((at, x) ∷ members old)
      → AreEntered x at hashes tables others → IsIndexed ranks hashes new others
  IsIndexed-insert {ranks = ranks} {hashes = hashes} {old = old} {new = new} {tables = tables} {others = others} {at = at} x laws indexed free added inserted = record {
    sound = free_sound ranks laws old new at x indexed.sound free added;
    indexes = AreIndexes-insert x at old new added hashes tables others indexed.indexes inserted;
  }

  -- each table loses the pair of an item in a slot
  abbrev pub AreTaken : T → ℕ → List (T → ℕ) → List (List (ℕ × ℕ)) → List (List (ℕ × ℕ)) → Type 0
  AreTaken x at [] [] [] = ⊤
  AreTaken x at (hash ∷ hashes) (pairs ∷ tables) (fewer ∷ others) = IsPermutation pairs ((hash x, at) ∷ fewer) × AreTaken x at hashes tables others
  AreTaken x at hashes tables others = ⊥

  AreIndexes-remove : (x : T) (at : ℕ) (old new : List (Option T)) → IsPermutation (members old) ((at, x) ∷ members new) → (hashes : List (T → ℕ))
      (tables others : List (List (ℕ × ℕ))) → AreIndexes hashes old tables → AreTaken x at hashes tables others → AreIndexes hashes new others
  AreIndexes-remove x at old new left [] [] [] all taken = tt
  AreIndexes-remove x at old new left [] [] (fewer ∷ others) all taken = absurd taken
  AreIndexes-remove x at old new left [] (pairs ∷ tables) others all taken = absurd all
  AreIndexes-remove x at old new left (hash ∷ hashes) [] others all taken = absurd all
  AreIndexes-remove x at old new left (hash ∷ hashes) (pairs ∷ tables) [] all taken = absurd taken
  AreIndexes-remove x at old new left (hash ∷ hashes) (pairs ∷ tables) (fewer ∷ others) all taken =
      (IsIndex-remove x all.0 refl left taken.0, AreIndexes-remove x at old new left hashes tables others all.1 taken.1)

  -- an item leaves its slot and each table
  pub IsIndexed-remove : {ranks : Ranks T} {hashes : List (T → ℕ)} {old new : List (Option T)} {tables others : List (List (ℕ × ℕ))} {at : ℕ} (x : T)
      → AreLawful ranks → IsIndexed ranks hashes old tables → IsPermutation (members old) ((at, x) ∷ members new) → AreTaken x at hashes tables others
      → IsIndexed ranks hashes new others
  IsIndexed-remove {ranks = ranks} {hashes = hashes} {old = old} {new = new} {tables = tables} {others = others} {at = at} x laws indexed left taken = record {
    sound = sound_without ranks laws old new at x indexed.sound left;
    indexes = AreIndexes-remove x at old new left hashes tables others indexed.indexes taken;
  }

  -- the same items in other slots, and tables that index these
  pub IsIndexed-move : {ranks : Ranks T} {hashes : List (T → ℕ)} {old new : List (Option T)} {tables others : List (List (ℕ × ℕ))}
      → IsIndexed ranks hashes old tables → contents new ≡ contents old → AreIndexes hashes new others → IsIndexed ranks hashes new others
  IsIndexed-move indexed same indexes = record { sound = rw same indexed.sound; indexes = indexes }

  -- clones of the members hash as they do
  abbrev pub IsAlike : (T → T → Type 0) → List (Option T) → (T → ℕ) → (T → ℕ) → Type 0
  IsAlike is_clone slots hash other = (x c : T) → Contains (contents slots) x → is_clone x c → other c ≡ hash x

  module _ (is_clone : T → T → Type 0) (slots copy : List (Option T)) where
    AreIndexes-copy : (hashes others : List (T → ℕ)) (tables : List (List (ℕ × ℕ))) → AllZip (IsAlike is_clone slots) hashes others
        → AllZip (IsSlotClone is_clone) slots copy → AreIndexes hashes slots tables → AreIndexes others copy tables
    AreIndexes-copy [] [] [] alike all indexes = tt
    AreIndexes-copy [] [] (pairs ∷ tables) alike all indexes = absurd indexes
    AreIndexes-copy [] (other ∷ others) tables alike all indexes = absurd alike
    AreIndexes-copy (hash ∷ hashes) [] tables alike all indexes = absurd alike
    AreIndexes-copy (hash ∷ hashes) (other ∷ others) [] alike all indexes = absurd indexes
    AreIndexes-copy (hash ∷ hashes) (other ∷ others) (pairs ∷ tables) alike all indexes =
        (IsIndex-copy is_clone hash other slots copy pairs alike.0 all indexes.0, AreIndexes-copy hashes others tables alike.1 all indexes.1)

    -- clones that have the keys of the items and hash alike are indexed by the same tables
    pub IsIndexed-copy : {ranks : Ranks T} {hashes others : List (T → ℕ)} {tables : List (List (ℕ × ℕ))} → AreLawful ranks
        → IsIndexed ranks hashes slots tables → ((x c : T) → Contains (contents slots) x → is_clone x c → agrees ranks x c ≡ true)
        → AllZip (IsAlike is_clone slots) hashes others → AllZip (IsSlotClone is_clone) slots copy → AllZip is_clone (contents slots) (contents copy)
        → IsIndexed ranks others copy tables
    IsIndexed-copy {ranks = ranks} {hashes = hashes} {others = others} {tables = tables} laws indexed keys alike all paired = record {
      sound = IsSound-copy is_clone ranks laws (contents slots) (contents copy) keys (is_copy is_clone _ _ paired) indexed.sound;
      indexes = AreIndexes-copy hashes others tables alike all indexed.indexes;
    }

  module _ {agree : T → T → Bool} {ranks : Ranks T} {hash : T → ℕ} {hashes : List (T → ℕ)} {slots : List (Option T)} {pairs : List (ℕ × ℕ)}
      {tables : List (List (ℕ × ℕ))} (indexed : IsIndexed (agree ∷ ranks) (hash ∷ hashes) slots (pairs ∷ tables)) where
    -- the first rank alone
    pub first_rank : IsSearchable agree hash slots pairs
    first_rank = record { apart = (IsSound-rank agree ranks (contents slots) indexed.sound).0; index = indexed.indexes.0 }

    -- the others
    pub other_ranks : IsIndexed ranks hashes slots tables
    other_ranks = record { sound = (IsSound-rank agree ranks (contents slots) indexed.sound).1; indexes = indexed.indexes.1 }
