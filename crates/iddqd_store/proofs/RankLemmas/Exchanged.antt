-- How a map stays indexed if an item with the same keys replaces an item.
use Rattle.std.specs.Prelude.{◌≡◌, ◌<◌, ℕ, true, List, [], ◌∷◌, length, map, IsPermutation, Option, Some, slice_set}
use Rattle.std.specs.List.{AllByRecursion}
use Rattle.std.proofs.Common.{subst}
use Rattle.std.proofs.lemmas.List.Sorted.{IsPermutation-sym, IsPermutation-trans, IsPermutation-map}
use Rattle.iddqd_store.specs.Bag.{Ranks, AreLawful, agrees, swap}
use Rattle.iddqd_store.specs.Rank.Index.{pair_of, IsIndex, AreIndexes, IsIndexed}
use Rattle.iddqd_store.specs.Slots.{members, contents, get, Exchanges}
use Rattle.iddqd_store.proofs.BagLemmas.Sound.{IsSound-IsPermutation}
use Rattle.iddqd_store.proofs.BagLemmas.Theory.{IsSound-swap, swap-is}
use Rattle.iddqd_store.proofs.SlotLemmas.Chain.{Exchanges-set}
use Rattle.iddqd_store.proofs.SlotLemmas.Contents.{contents-listed}

module _ {T : Type 0} where
  IsIndex-exchange : (hash : T → ℕ) (old new : List (Option T)) (pairs : List (ℕ × ℕ)) (at : ℕ) (x y : T) → hash y ≡ hash x → Exchanges old new at x y → IsIndex hash old pairs → IsIndex hash new pairs
  IsIndex-exchange hash old new pairs at x y same ex index = record {
    paired =
        IsPermutation-trans _ _ _ index.paired
        (IsPermutation-trans _ _ _ (IsPermutation-map (pair_of hash) _ _ ex.had)
        (subst (λ h. IsPermutation ((h, at) ∷ map (pair_of hash) ex.others) (map (pair_of hash) (members new))) same
        (IsPermutation-sym _ _ (IsPermutation-map (pair_of hash) _ _ ex.has))));
  }

  AreIndexes-exchange : (hashes : List (T → ℕ)) (old new : List (Option T)) (tables : List (List (ℕ × ℕ))) (at : ℕ) (x y : T)
      → AllByRecursion (λ hash. hash y ≡ hash x) hashes → Exchanges old new at x y → AreIndexes hashes old tables → AreIndexes hashes new tables
  AreIndexes-exchange [] old new [] at x y same ex all = tt
  AreIndexes-exchange [] old new (pairs ∷ tables) at x y same ex all = absurd all
  AreIndexes-exchange (hash ∷ hashes) old new [] at x y same ex all = absurd all
  AreIndexes-exchange (hash ∷ hashes) old new (pairs ∷ tables) at x y same ex all =
      (IsIndex-exchange hash old new pairs at x y same.0 ex all.0, AreIndexes-exchange hashes old new tables at x y same.1 ex all.1)

  module _ {ranks : Ranks T} {hashes : List (T → ℕ)} {old : List (Option T)} {tables : List (List (ℕ × ℕ))} (laws : AreLawful ranks)
      (some : 0 < length ranks) (indexed : IsIndexed ranks hashes old tables) (at : ℕ) (x y : T) where
    -- the bag is swapped
    pub exchange_swaps : (new : List (Option T)) → Exchanges old new at x y → IsPermutation (contents new) (swap ranks (contents old) x y)
    exchange_swaps new ex =
        IsPermutation-trans _ _ _ (contents-listed new _ ex.has)
        (IsPermutation-sym _ _ (swap-is ranks laws some _ _ x y indexed.sound (contents-listed old _ ex.had)))

    pub IsIndexed-exchange : (new : List (Option T)) → Exchanges old new at x y → agrees ranks x y ≡ true → AllByRecursion (λ hash. hash y ≡ hash x) hashes → IsIndexed ranks hashes new tables
    IsIndexed-exchange new ex same alike = record {
      sound = IsSound-IsPermutation ranks laws _ _ (IsPermutation-sym _ _ (exchange_swaps new ex)) (IsSound-swap ranks laws (contents old) x y same indexed.sound);
      indexes = AreIndexes-exchange hashes old new tables at x y alike ex indexed.indexes;
    }

    -- the same if a slot was written
    pub IsIndexed-set : get old at ≡ Some x → agrees ranks x y ≡ true → AllByRecursion (λ hash. hash y ≡ hash x) hashes → IsIndexed ranks hashes (slice_set old at (Some y)) tables
    IsIndexed-set found = IsIndexed-exchange _ (Exchanges-set old at x y found)

    pub set_swaps : get old at ≡ Some x → IsPermutation (contents (slice_set old at (Some y))) (swap ranks (contents old) x y)
    set_swaps found = exchange_swaps _ (Exchanges-set old at x y found)
