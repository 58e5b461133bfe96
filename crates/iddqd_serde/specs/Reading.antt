-- Which steps of a reader read a sequence, or a map of serde, which has a key before each of its items.
use Rattle.std.specs.Prelude.{ℕ, zero, suc, List, None}
use Rattle.serde.specs.Event.{Event, seq_begins, seq_ends, map_begins, map_ends, key_begins}
use Rattle.serde.specs.Steps.{Gives, Stays}
use Rattle.serde.specs.declared.deserializer.Deserializer.{Deserializer}

-- After `old` a reader took the step `begins`, and then n times the step `follows`, after which an item was read. What the
-- item's own steps read is not said, so `new` is whatever they left if n is not 0, and n is said by the clause
-- `counts`.
abbrev pub HasRead : {Reader : Type 0} → (Reader → Reader → Type 0) → (Reader → Reader → Type 0) → ℕ → Reader → Reader → Type 0
HasRead begins follows zero old new = begins old new
HasRead {Reader} begins follows (suc n) old new =
    (before at : Reader) × HasRead begins follows n old before × follows before at

module _ {F E M : Type 0} (gives : F → List ℕ → Event → F → Type 0) where
  -- The step from `old` to `new` read this one event.
  abbrev pub Reads : Event → Deserializer F E M → Deserializer F E M → Type 0
  Reads e old new = Gives gives old e new

  -- The steps from `old` to `new` read a sequence of n items: its begin, each item, and its end.
  -- Example: A sequence of no items is its begin and its end.
  abbrev pub ReadsSeq : (F → F → Type 0) → ℕ → Deserializer F E M → Deserializer F E M → Type 0
  ReadsSeq stays n old new =
      (last : Deserializer F E M) × HasRead (Reads (seq_begins None)) (Stays stays) n old last × Reads seq_ends last new

  -- The steps from `old` to `new` read a map of n entries: its begin, for each entry the begin of its key, and its end.
  -- Example: A map of no entries is its begin and its end.
  abbrev pub ReadsMap : ℕ → Deserializer F E M → Deserializer F E M → Type 0
  ReadsMap n old new =
      (last : Deserializer F E M) × HasRead (Reads (map_begins None)) (Reads key_begins) n old last × Reads map_ends last new
