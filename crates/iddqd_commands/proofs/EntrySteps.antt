-- Steps of commands on entries and on writing, from what the calls of an entry and of a guard say.
use Rattle.std.specs.Prelude.{◌≡◌, ◌<◌, ◌≤◌, Bool, true, List, [], ◌∷◌, length, Option, None, Some, IfSome, IsPermutation, is_some}
use Rattle.std.proofs.Common.{sym, subst, ◌∙◌, arith}
use Rattle.iddqd_store.specs.Bag.{Ranks, IsOnly, conflicts_of, first_mismatch, listing, with_item, swap}
use Rattle.iddqd_store.specs.Map.{Map, bag}
use Rattle.iddqd_store.specs.Rank.Keys.{AreKeyTests}
use Rattle.iddqd_commands.specs.Reply.{done, displaced}
use Rattle.iddqd_store.specs.Map.State.{State, state_of}
use Rattle.iddqd_commands.specs.Step.{EntryInserts, OrInserts, Sets}
use Rattle.iddqd_store.proofs.BagLemmas.Differ.{first_mismatch-none}
use Rattle.iddqd_store.proofs.BagLemmas.KeyTests.{conflicts_of-keys, conflicting-keys}
use Rattle.iddqd_store.proofs.BagLemmas.Steps.{conflicting-empty}
use Rattle.iddqd_store.proofs.BagLemmas.Theory.{with_item-apart}

-- if the keys find nothing, nothing conflicts with an item that has them
free : {T : Type 0} (ranks : Ranks T) (tests : List (T → Bool)) → AreKeyTests ranks tests → (bag : List T) (x : T) → first_mismatch tests x ≡ None → listing tests bag ≡ [] → conflicts_of ranks bag x ≡ []
free ranks tests keys bag x same none = conflicts_of-keys ranks tests x keys (first_mismatch-none tests x same) bag none

-- x has the keys of the entry
module _ {T : Type 0} (D : Type 0) (ranks : Ranks T) (tests : List (T → Bool)) (keys : AreKeyTests ranks tests) (old new : State T) (x : T) (same : first_mismatch tests x ≡ None) where
  -- x was inserted through a vacant entry
  module _ (vacant : listing tests old.items ≡ []) (put : IsPermutation new.items (x ∷ old.items)) (no_less : old.capacity ≤ new.capacity)
      (same_room : length old.items < old.capacity → new.capacity ≡ old.capacity) where
    pub or_inserts_vacant : OrInserts {D = D} ranks tests old x done new
    or_inserts_vacant = (vacant, same, (free ranks tests keys old.items x same vacant, put, no_less, same_room))

    pub entry_inserts_vacant : (gone : List T) → gone ≡ [] → EntryInserts {D = D} ranks tests old x (displaced gone) new
    entry_inserts_vacant gone none =
        let clear = free ranks tests keys old.items x same vacant in
        let apart = conflicting-empty ranks old.items x clear in
        let went_in : IsPermutation new.items (with_item ranks old.items x) = subst (IsPermutation new.items) (sym (with_item-apart ranks old.items x apart)) put in
        (same, (none ∙ sym apart, went_in, no_less, same_room, λ some. absurd (some clear)))

  -- x was inserted through an occupied entry
  pub entry_inserts_occupied : (gone : List T) → gone ≡ listing tests old.items → IsPermutation new.items (with_item ranks old.items x)
      → new.capacity ≡ old.capacity → EntryInserts {D = D} ranks tests old x (displaced gone) new
  entry_inserts_occupied gone is put capacity =
      let listed = conflicting-keys ranks tests x keys (first_mismatch-none tests x same) old.items in
      (same, (is ∙ sym listed, put, omega (arith, capacity), (λ room. capacity), λ some. capacity))

-- the item that was found has the new data
pub sets_found : {T D S : Type 0} (ranks : Ranks T) (put : T → D → T) (test : T → Bool) (old held : Map T S) (new : State T) (d : D) (found : Option T)
    → held ≡ old → is_some found ≡ true → IsOnly test (bag old) found → IfSome found (λ x. IsPermutation new.items (swap ranks (bag held) x (put x d))) → new.capacity ≡ old.capacity
    → Sets ranks put test (state_of old) d done new
sets_found ranks put test old held new d None is some only swaps capacity = absurd (cc some)
sets_found ranks put test old held new d (Some x) is some only swaps capacity = (x, only, rw is at swaps, capacity)
