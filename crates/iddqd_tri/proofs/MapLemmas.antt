-- Made by tests/widths from crates/iddqd_bi/proofs/MapLemmas.antt: change that file.

-- The ranks of an item with three keys tell items apart lawfully, and its keys are tests for them.
use Rattle.std.specs.Prelude.{◌≡◌, ◌<◌, ℕ, length, Bool, true, List, [], ◌∷◌, None}
use Rattle.std.specs.Cmp.{IsEquivalence}
use Rattle.std.specs.declared.hash.Hash as hash
use Rattle.std.specs.declared.hash.Hasher as hasher
use Rattle.std.specs.declared.hash.BuildHasher as builder
use Rattle.std.proofs.Common.{arith, refl, sym}
use Rattle.iddqd_store.specs.Bag.{AreLawful, Ranks, agrees, conflicts_of, first_mismatch, listing, conflicting}
use Rattle.iddqd_store.specs.Rank.{key_hash}
use Rattle.iddqd_store.specs.Rank.Keys.{AreKeyTests, IsKeyTest}
use Rattle.iddqd_store.proofs.BagLemmas.Differ.{first_mismatch-none}
use Rattle.iddqd_store.proofs.BagLemmas.KeyTests.{conflicts_of-keys, conflicting-keys}
use Rattle.iddqd_store.proofs.MapLemmas.{IsEquivalence-key, IsKeyTest-key}
use Rattle.iddqd_tri.specs.Keys.{ranks, key_tests}
use Rattle.iddqd_tri.specs.declared.item.TriHashItem as item

pub AreLawful-ranks : {T K1 K2 K3 : Type 0} (of : item.Ghosts T K1 K2 K3) {eq1 : K1 → K1 → Bool} {eq2 : K2 → K2 → Bool} {eq3 : K3 → K3 → Bool}
    → IsEquivalence eq1 → IsEquivalence eq2 → IsEquivalence eq3 → AreLawful (ranks of eq1 eq2 eq3)
AreLawful-ranks of laws1 laws2 laws3 = (IsEquivalence-key _ of.key1 laws1, (IsEquivalence-key _ of.key2 laws2, (IsEquivalence-key _ of.key3 laws3, tt)))

-- the same for ranks that are these
pub AreLawful-are : {T K1 K2 K3 : Type 0} (of : item.Ghosts T K1 K2 K3) {eq1 : K1 → K1 → Bool} {eq2 : K2 → K2 → Bool} {eq3 : K3 → K3 → Bool} {given : Ranks T}
    → given ≡ ranks of eq1 eq2 eq3 → IsEquivalence eq1 → IsEquivalence eq2 → IsEquivalence eq3 → AreLawful given
AreLawful-are of are laws1 laws2 laws3 = rw are (AreLawful-ranks of laws1 laws2 laws3)

pub some_are : {X : Type 0} {x : X} {all rest : List X} → all ≡ x ∷ rest → 0 < length all
some_are are = rw are (omega arith)

-- the hash of each key
abbrev pub key_hashes : {T K1 K2 K3 S H : Type 0} → item.Ghosts T K1 K2 K3 → hash.Ghosts K1 → hash.Ghosts K2 → hash.Ghosts K3 → builder.Ghosts S H → hasher.Ghosts H → S → List (T → ℕ)
key_hashes of hash1 hash2 hash3 build hashes s =
    key_hash of.key1 hash1.hash_input build hashes s ∷ key_hash of.key2 hash2.hash_input build hashes s ∷ key_hash of.key3 hash3.hash_input build hashes s ∷ []

module _ {T K1 K2 K3 : Type 0} (of : item.Ghosts T K1 K2 K3) (eq1 : K1 → K1 → Bool) (eq2 : K2 → K2 → Bool) (eq3 : K3 → K3 → Bool) where
  -- items with equal keys agree
  pub agrees-keys : (x y : T) → eq1 (of.key1 x) (of.key1 y) ≡ true → eq2 (of.key2 x) (of.key2 y) ≡ true → eq3 (of.key3 x) (of.key3 y) ≡ true → agrees (ranks of eq1 eq2 eq3) x y ≡ true
  agrees-keys x y same1 same2 same3 = rw (same1, same2, same3) refl

  -- keys are tests
  pub AreKeyTests-keys : IsEquivalence eq1 → IsEquivalence eq2 → IsEquivalence eq3 → (k1 : K1) (k2 : K2) (k3 : K3) → AreKeyTests (ranks of eq1 eq2 eq3) (key_tests of eq1 eq2 eq3 k1 k2 k3)
  AreKeyTests-keys laws1 laws2 laws3 k1 k2 k3 = (IsKeyTest-key eq1 of.key1 laws1 k1, (IsKeyTest-key eq2 of.key2 laws2 k2, (IsKeyTest-key eq3 of.key3 laws3 k3, tt)))

-- a query is a test for one key
IsKeyTest-query : {T K Q : Type 0} (eq : K → K → Bool) (key : T → K) (stands : Q → K → Bool)
    → ((q : Q) (x y : K) → stands q x ≡ true → stands q y ≡ eq x y) → (q : Q) → IsKeyTest (λ x y. eq (key x) (key y)) (λ x. stands q (key x))
IsKeyTest-query eq key stands respects q = λ x y has. sym (respects q (key x) (key y) has)

module _ {T K1 K2 K3 Q1 Q2 Q3 : Type 0} (of : item.Ghosts T K1 K2 K3) (eq1 : K1 → K1 → Bool) (eq2 : K2 → K2
    → Bool) (eq3 : K3 → K3
    → Bool) (stands1 : Q1 → K1 → Bool) (stands2 : Q2 → K2 → Bool) (stands3 : Q3 → K3 → Bool) (respects1 : (q : Q1) (x y : K1) → stands1 q x ≡ true
    → stands1 q y ≡ eq1 x y) (respects2 : (q : Q2) (x y : K2) → stands2 q x ≡ true → stands2 q y ≡ eq2 x y) (respects3 : (q : Q3) (x y : K3) → stands3 q x ≡ true → stands3 q y ≡ eq3 x y) where
  -- queries are tests
  pub AreKeyTests-queries : (k1 : Q1) (k2 : Q2) (k3 : Q3) → AreKeyTests (ranks of eq1 eq2 eq3) (key_tests of stands1 stands2 stands3 k1 k2 k3)
  AreKeyTests-queries k1 k2 k3 = (IsKeyTest-query eq1 of.key1 stands1 respects1 k1, (IsKeyTest-query eq2 of.key2 stands2 respects2 k2, (IsKeyTest-query eq3 of.key3 stands3 respects3 k3, tt)))

  -- an item with all keys conflicts with what they find
  module _ (x : T) (k1 : Q1) (k2 : Q2) (k3 : Q3) (same : first_mismatch (key_tests of stands1 stands2 stands3 k1 k2 k3) x ≡ None) (bag : List T) where
    pub conflicting-all : conflicting (ranks of eq1 eq2 eq3) bag x ≡ listing (key_tests of stands1 stands2 stands3 k1 k2 k3) bag
    conflicting-all = conflicting-keys (ranks of eq1 eq2 eq3) (key_tests of stands1 stands2 stands3 k1 k2 k3) x
        (AreKeyTests-queries k1 k2 k3) (first_mismatch-none (key_tests of stands1 stands2 stands3 k1 k2 k3) x same) bag

    pub conflicts_of-all : listing (key_tests of stands1 stands2 stands3 k1 k2 k3) bag ≡ [] → conflicts_of (ranks of eq1 eq2 eq3) bag x ≡ []
    conflicts_of-all none = conflicts_of-keys (ranks of eq1 eq2 eq3) (key_tests of stands1 stands2 stands3 k1 k2 k3) x
        (AreKeyTests-queries k1 k2 k3) (first_mismatch-none (key_tests of stands1 stands2 stands3 k1 k2 k3) x same) bag none
