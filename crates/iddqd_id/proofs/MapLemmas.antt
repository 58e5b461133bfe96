-- Made by tests/widths from crates/iddqd_bi/proofs/MapLemmas.antt: change that file.

-- The ranks of an item with one key tell items apart lawfully, and its key is a test for them.
use Rattle.std.specs.Prelude.{◌≡◌, ◌<◌, ℕ, length, Bool, true, List, [], ◌∷◌, None}
use Rattle.std.specs.Cmp.{IsEquivalence}
use Rattle.std.specs.declared.hash.Hash as hash
use Rattle.std.specs.declared.hash.Hasher as hasher
use Rattle.std.specs.declared.hash.BuildHasher as builder
use Rattle.std.proofs.Common.{arith, refl, sym}
use Rattle.iddqd_store.specs.Bag.{AreLawful, Ranks, agrees, conflicts_of, first_mismatch, listing, conflicting}
use Rattle.iddqd_store.specs.Rank.{key_hash}
use Rattle.iddqd_store.specs.Rank.Keys.{AreKeyTests, IsKeyTest}
use Rattle.iddqd_store.proofs.BagLemmas.Differ.{first_mismatch-none}
use Rattle.iddqd_store.proofs.BagLemmas.KeyTests.{conflicts_of-keys, conflicting-keys}
use Rattle.iddqd_store.proofs.MapLemmas.{IsEquivalence-key, IsKeyTest-key}
use Rattle.iddqd_id.specs.Keys.{ranks, key_tests}
use Rattle.iddqd_id.specs.declared.item.IdHashItem as item

pub AreLawful-ranks : {T Key : Type 0} (of : item.Ghosts T Key) {eq : Key → Key → Bool}
    → IsEquivalence eq → AreLawful (ranks of eq)
AreLawful-ranks of laws = (IsEquivalence-key _ of.key laws, tt)

-- the same for ranks that are these
pub AreLawful-are : {T Key : Type 0} (of : item.Ghosts T Key) {eq : Key → Key → Bool} {given : Ranks T}
    → given ≡ ranks of eq → IsEquivalence eq → AreLawful given
AreLawful-are of are laws = rw are (AreLawful-ranks of laws)

pub some_are : {X : Type 0} {x : X} {all rest : List X} → all ≡ x ∷ rest → 0 < length all
some_are are = rw are (omega arith)

-- the hash of each key
abbrev pub key_hashes : {T Key S H : Type 0} → item.Ghosts T Key → hash.Ghosts Key → builder.Ghosts S H → hasher.Ghosts H → S → List (T → ℕ)
key_hashes of hash build hashes s =
    key_hash of.key hash.hash_input build hashes s ∷ []

module _ {T Key : Type 0} (of : item.Ghosts T Key) (eq : Key → Key → Bool) where
  -- items with equal keys agree
  pub agrees-keys : (x y : T) → eq (of.key x) (of.key y) ≡ true → agrees (ranks of eq) x y ≡ true
  agrees-keys x y same = rw same refl

  -- keys are tests
  pub AreKeyTests-keys : IsEquivalence eq → (k : Key) → AreKeyTests (ranks of eq) (key_tests of eq k)
  AreKeyTests-keys laws k = (IsKeyTest-key eq of.key laws k, tt)

-- a query is a test for one key
IsKeyTest-query : {T K Q : Type 0} (eq : K → K → Bool) (key : T → K) (stands : Q → K → Bool)
    → ((q : Q) (x y : K) → stands q x ≡ true → stands q y ≡ eq x y) → (q : Q) → IsKeyTest (λ x y. eq (key x) (key y)) (λ x. stands q (key x))
IsKeyTest-query eq key stands respects q = λ x y has. sym (respects q (key x) (key y) has)

module _ {T Key Q : Type 0} (of : item.Ghosts T Key) (eq : Key → Key → Bool) (stands : Q → Key → Bool) (respects : (q : Q) (x y : Key) → stands q x ≡ true
    → stands q y ≡ eq x y) where
  -- queries are tests
  pub AreKeyTests-queries : (k : Q) → AreKeyTests (ranks of eq) (key_tests of stands k)
  AreKeyTests-queries k = (IsKeyTest-query eq of.key stands respects k, tt)

  -- an item with the key conflicts with what they find
  module _ (x : T) (k : Q) (same : first_mismatch (key_tests of stands k) x ≡ None) (bag : List T) where
    pub conflicting-key : conflicting (ranks of eq) bag x ≡ listing (key_tests of stands k) bag
    conflicting-key = conflicting-keys (ranks of eq) (key_tests of stands k) x
        (AreKeyTests-queries k) (first_mismatch-none (key_tests of stands k) x same) bag

    pub conflicts_of-key : listing (key_tests of stands k) bag ≡ [] → conflicts_of (ranks of eq) bag x ≡ []
    conflicts_of-key none = conflicts_of-keys (ranks of eq) (key_tests of stands k) x
        (AreKeyTests-queries k) (first_mismatch-none (key_tests of stands k) x same) bag none
