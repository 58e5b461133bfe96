-- What the error of an insert says, and what the map ends as.
use Rattle.std.specs.Prelude.{◌≡◌, ◌++◌, Bool, false, List, [], ◌∷◌, Result, Ok, Err, OnOk, OnErr}
use Rattle.std.specs.List.{list_any}
use Rattle.std.specs.Borrow.{RattleType, MutBor, Fml, GName, follows_so}
use Rattle.std.specs.HashMap.Lent.{HashMembers}
use Rattle.std.specs.declared.cmp.PartialEq as equal
use Rattle.std.specs.declared.hash.Hash as hash
use Rattle.std.specs.declared.hash.Hasher as hasher
use Rattle.std.specs.declared.hash.BuildHasher as builder
use mathlib.Core.Option as maybe
use Rattle.iddqd_store.specs.Bag.{IsSound}
use Rattle.iddqd_store.specs.Map.{Map, bag, IsFullFor}
use Rattle.iddqd_store.specs.Rank.{FoundByHash}
use Rattle.iddqd_bi.specs.Keys.{has1, has2, ranks}
use Rattle.iddqd_bi.specs.declared.item.BiHashItem as item
use Rattle.iddqd_bi.specs.declared.map.slots.Refusal.{Refusal}
use Rattle.iddqd_bi.specs.declared.map.slots.Refusal.TheVariants as refusal
use Rattle.iddqd_bi.specs.declared.error.ExtendUniqueError.{ExtendUniqueError}
use Rattle.iddqd_bi.specs.declared.error.InsertError.{InsertError}
use Rattle.iddqd_bi.specs.declared.error.Rejected.{Rejected}
use Rattle.iddqd_bi.specs.contracts.map.BiHashMap.{the_row}

-- `refusal_item` is the item that was rejected. No public clause cites it.
-- Example: For `Memory x` it is `x`.
abbrev pub refusal_item : {T : Type 0} → Refusal T → T
refusal_item (refusal.Duplicate x found) = x
refusal_item (refusal.Memory x) = x

-- If items conflict, then `P` holds for what the search of each rank found, and if memory ran out, then `Q` holds. No
-- public clause cites it.
-- Example: For `Memory x` it is `Q`.
abbrev pub MatchRefusal : {T : Type 0} → Refusal T → (List FoundByHash → Type 0) → Type 0 → Type 0
MatchRefusal (refusal.Duplicate x found) P Q = P (found.0 ∷ found.1 ∷ [])
MatchRefusal (refusal.Memory x) P Q = Q

module _ {T K1 K2 : Type 0} (of : item.Ghosts T K1 K2)
    (eq1 : K1 → K1 → Bool) (eq2 : K2 → K2 → Bool) where
  -- The error says of each key of `x` whether an item of the map has it. If none is taken, the map is full.
  -- Example: In a map of the bag the first key of (1, 40) is taken, and the second is not.
  pub record TellsWhy {S : Type 0} (m : Map T S) (x : T) (e : Rejected T) : Type 0 where
    pub taken1 : e.taken1 ≡ list_any (has1 of eq1 (of.key1 x)) (bag m)
    pub taken2 : e.taken2 ≡ list_any (has2 of eq2 (of.key2 x)) (bag m)
    pub full : e.taken1 ≡ false → e.taken2 ≡ false → IsFullFor (ranks of eq1 eq2) m x

  -- The error of a list says of each key of its item whether an item before it in the list, or one of the bag `old`,
  -- has that key. No two of those items conflict.
  -- Example: If (4, 40) came before (1, 40), an item has the first key of (1, 40), and one has the second.
  pub record TellsWhyBehind (old : List T) (e : ExtendUniqueError T) : Type 0 where
    pub apart : IsSound (ranks of eq1 eq2) (e.before.items ++ old)
    pub taken1 : e.taken1 ≡ list_any (has1 of eq1 (of.key1 e.item)) (e.before.items ++ old)
    pub taken2 : e.taken2 ≡ list_any (has2 of eq2 (of.key2 e.item)) (e.before.items ++ old)

  -- The error hands `x` back, and says of each key of `x` whether an item of the bag has it. No public clause cites it.
  -- Example: In the bag the first key of (1, 40) is taken, and the second is not.
  pub record TellsTaken (bag : List T) (x : T) (e : Rejected T) : Type 0 where
    pub handed_back : e.item ≡ x
    pub taken1 : e.taken1 ≡ list_any (has1 of eq1 (of.key1 x)) bag
    pub taken2 : e.taken2 ≡ list_any (has2 of eq2 (of.key2 x)) bag

module _ {T S K1 K2 H : Type 0} {of : item.Ghosts T K1 K2}
    {eq1 : equal.Ghosts K1} {input1 : hash.Ghosts K1}
    {eq2 : equal.Ghosts K2} {input2 : hash.Ghosts K2}
    {build : builder.Ghosts S H} {hashes : hasher.Ghosts H} where
  -- The error of an insert has the item `x`, and borrows this very map, which is as it was.
  -- Example: After an insert of c into a map of a, b has failed, the error has c, and its map has a, b.
  pub record HandsBackAndHolds (m : MutBor (Map T S)) (x : T)
      (e : InsertError T S K1 K2 H of eq1 input1 eq2 input2 build hashes) : Type 0 where
    pub handed_back : e.item ≡ x
    pub same_map : e.map.ghost_name ≡ m.ghost_name
    pub unchanged : e.map.now ≡ m.now

  abbrev pub refused_name : {X : Type 0}
      → Result X (InsertError T S K1 K2 H of eq1 input1 eq2 input2 build hashes) → maybe.Option GName
  refused_name (Ok _) = maybe.none
  refused_name (Err e) = maybe.some e.map.ghost_name

module _ (T S K1 K2 H : RattleType) (of : item.Ghosts T.Denot K1.Denot K2.Denot)
    (keys1 : HashMembers K1.Denot) (keys2 : HashMembers K2.Denot)
    (build : builder.Ghosts S.Denot H.Denot) (hashes : hasher.Ghosts H.Denot) where
  -- `map_row` is the type of the map in the logic. No public clause cites it.
  abbrev pub map_row : RattleType
  map_row = the_row T S K1 K2 H of
      (record { eq = keys1.eq }) (record { hash_input = keys1.hash_input })
      (record { eq = keys2.eq }) (record { hash_input = keys2.hash_input }) build hashes

  -- After an error the map ends as the error leaves it, and after `Ok` it ends so that `P` holds for it.
  -- Example: If `P` says that the map gained c, it ends with c or as the error leaves it.
  abbrev pub ends_as : {X : Type 0} → MutBor (Map T.Denot S.Denot)
      → Result X (InsertError T.Denot S.Denot K1.Denot K2.Denot H.Denot of
      (record { eq = keys1.eq }) (record { hash_input = keys1.hash_input })
      (record { eq = keys2.eq }) (record { hash_input = keys2.hash_input }) build hashes)
      → (Map T.Denot S.Denot → Type 0) → Fml
  ends_as m r P =
      follows_so map_row map_row m.ghost_name (refused_name r) (λ x n. OnErr r (n ≡ x)) (λ n. OnOk r (P n))
