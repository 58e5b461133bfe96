-- The ranks of an item with two keys tell items apart lawfully, and its keys are tests for them.
use Rattle.std.specs.Prelude.{◌≡◌, ◌<◌, ℕ, length, Bool, true, List, [], ◌∷◌, None}
use Rattle.std.specs.Cmp.{IsEquivalence}
use Rattle.std.specs.declared.hash.Hash as hash
use Rattle.std.specs.declared.hash.Hasher as hasher
use Rattle.std.specs.declared.hash.BuildHasher as builder
use Rattle.std.proofs.Common.{arith, refl, sym}
use Rattle.iddqd_store.specs.Bag.{AreLawful, Ranks, agrees, conflicts_of, first_mismatch, listing, conflicting}
use Rattle.iddqd_store.specs.Rank.{key_hash}
use Rattle.iddqd_store.specs.Rank.Keys.{AreKeyTests, IsKeyTest}
use Rattle.iddqd_store.proofs.BagLemmas.Differ.{first_mismatch-none}
use Rattle.iddqd_store.proofs.BagLemmas.KeyTests.{conflicts_of-keys, conflicting-keys}
use Rattle.iddqd_store.proofs.MapLemmas.{IsEquivalence-key, IsKeyTest-key}
use Rattle.iddqd_bi.specs.Keys.{ranks, key_tests}
use Rattle.iddqd_bi.specs.declared.item.BiHashItem as item

pub AreLawful-ranks : {T K1 K2 : Type 0} (of : item.Ghosts T K1 K2) {eq1 : K1 → K1 → Bool} {eq2 : K2 → K2 → Bool}
    → IsEquivalence eq1 → IsEquivalence eq2 → AreLawful (ranks of eq1 eq2)
AreLawful-ranks of laws1 laws2 = (IsEquivalence-key _ of.key1 laws1, (IsEquivalence-key _ of.key2 laws2, tt))

-- the same for ranks that are these
pub AreLawful-are : {T K1 K2 : Type 0} (of : item.Ghosts T K1 K2) {eq1 : K1 → K1 → Bool} {eq2 : K2 → K2 → Bool} {given : Ranks T}
    → given ≡ ranks of eq1 eq2 → IsEquivalence eq1 → IsEquivalence eq2 → AreLawful given
AreLawful-are of are laws1 laws2 = rw are (AreLawful-ranks of laws1 laws2)

pub some_are : {X : Type 0} {x : X} {all rest : List X} → all ≡ x ∷ rest → 0 < length all
some_are are = rw are (omega arith)

-- the hash of each key
abbrev pub key_hashes : {T K1 K2 S H : Type 0} → item.Ghosts T K1 K2 → hash.Ghosts K1 → hash.Ghosts K2 → builder.Ghosts S H → hasher.Ghosts H → S → List (T → ℕ)
key_hashes of hash1 hash2 build hashes s =
    key_hash of.key1 hash1.hash_input build hashes s ∷ key_hash of.key2 hash2.hash_input build hashes s ∷ []

module _ {T K1 K2 : Type 0} (of : item.Ghosts T K1 K2) (eq1 : K1 → K1 → Bool) (eq2 : K2 → K2 → Bool) where
  -- items with equal keys agree
  pub agrees-keys : (x y : T) → eq1 (of.key1 x) (of.key1 y) ≡ true → eq2 (of.key2 x) (of.key2 y) ≡ true → agrees (ranks of eq1 eq2) x y ≡ true
  agrees-keys x y same1 same2 = rw (same1, same2) refl

  -- keys are tests
  pub AreKeyTests-keys : IsEquivalence eq1 → IsEquivalence eq2 → (k1 : K1) (k2 : K2) → AreKeyTests (ranks of eq1 eq2) (key_tests of eq1 eq2 k1 k2)
  AreKeyTests-keys laws1 laws2 k1 k2 = (IsKeyTest-key eq1 of.key1 laws1 k1, (IsKeyTest-key eq2 of.key2 laws2 k2, tt))

-- a query is a test for one key
IsKeyTest-query : {T K Q : Type 0} (eq : K → K → Bool) (key : T → K) (stands : Q → K → Bool)
    → ((q : Q) (x y : K) → stands q x ≡ true → stands q y ≡ eq x y) → (q : Q) → IsKeyTest (λ x y. eq (key x) (key y)) (λ x. stands q (key x))
IsKeyTest-query eq key stands respects q = λ x y has. sym (respects q (key x) (key y) has)

module _ {T K1 K2 Q1 Q2 : Type 0} (of : item.Ghosts T K1 K2) (eq1 : K1 → K1 → Bool) (eq2 : K2 → K2
    → Bool) (stands1 : Q1 → K1 → Bool) (stands2 : Q2 → K2 → Bool) (respects1 : (q : Q1) (x y : K1) → stands1 q x ≡ true
    → stands1 q y ≡ eq1 x y) (respects2 : (q : Q2) (x y : K2) → stands2 q x ≡ true → stands2 q y ≡ eq2 x y) where
  -- queries are tests
  pub AreKeyTests-queries : (k1 : Q1) (k2 : Q2) → AreKeyTests (ranks of eq1 eq2) (key_tests of stands1 stands2 k1 k2)
  AreKeyTests-queries k1 k2 = (IsKeyTest-query eq1 of.key1 stands1 respects1 k1, (IsKeyTest-query eq2 of.key2 stands2 respects2 k2, tt))

  -- an item with both keys conflicts with what they find
  module _ (x : T) (k1 : Q1) (k2 : Q2) (same : first_mismatch (key_tests of stands1 stands2 k1 k2) x ≡ None) (bag : List T) where
    pub conflicting-both : conflicting (ranks of eq1 eq2) bag x ≡ listing (key_tests of stands1 stands2 k1 k2) bag
    conflicting-both = conflicting-keys (ranks of eq1 eq2) (key_tests of stands1 stands2 k1 k2) x
        (AreKeyTests-queries k1 k2) (first_mismatch-none (key_tests of stands1 stands2 k1 k2) x same) bag

    pub conflicts_of-both : listing (key_tests of stands1 stands2 k1 k2) bag ≡ [] → conflicts_of (ranks of eq1 eq2) bag x ≡ []
    conflicts_of-both none = conflicts_of-keys (ranks of eq1 eq2) (key_tests of stands1 stands2 k1 k2) x
        (AreKeyTests-queries k1 k2) (first_mismatch-none (key_tests of stands1 stands2 k1 k2) x same) bag none
