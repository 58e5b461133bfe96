-- The numbers of the slots that items have after a shrink. In the examples the slots are `Some a`, `None`, `Some b`, `None`, and
-- after the shrink `Some a`, `Some b`. No public clause cites what is here.
use Rattle.std.specs.Prelude.{◌≡◌, ℕ, ◌+◌, ◌^◌, ◌<◌, ◌==◌, List, Option, None, Some, length, take, map, count_by, slice_index_or}
use Rattle.iddqd_store.specs.Slots.{contents, IsLive}
use Rattle.iddqd_sorted.specs.declared.entry.Entry.{Entry}

module _ {T : Type 0} where
  -- `mark_of` is 1 for a slot that has an item, and 0 for a free one.
  abbrev pub mark_of : Option T → ℕ
  mark_of None = 0
  mark_of (Some x) = 1

  -- The marks are those of the first slots, and no item is in a slot after these.
  -- Example: 1, 0, 1, 0.
  pub record AreMarks (slots : List (Option T)) (marks : List ℕ) : Type 0 where
    pub each : marks ≡ map mark_of (take (length marks) slots)
    pub all : (slot : ℕ) → IsLive slots slot → slot < length marks

-- `marked` counts how many of these marks are 1.
-- Example: For 1, 0, 1, 0 it is 2.
abbrev pub marked : List ℕ → ℕ
marked marks = count_by (λ mark. mark == 1) marks

module _ {T : Type 0} where
  -- The slot with this number has an item, and this many items come before it.
  -- Example: The number of b has one item before it: it is 2, and after the shrink it is 1.
  pub record IsNumber (slots : List (Option T)) (count number : ℕ) : Type 0 where
    pub live : IsLive slots number
    pub before : length (contents (take number slots)) ≡ count
    pub small : number + 1 < 2 ^ 64

  -- Where the mark was 1, the number of the slot stands before which as many items come as marks of 1 were before it.
  -- Example: For the marks 1, 0, 1, 0 the numbers are 0, 0, 1, 0.
  pub record AreNumbers (slots : List (Option T)) (marks numbers : List ℕ) : Type 0 where
    pub each : (at : ℕ) → at < length marks → slice_index_or marks at 0 ≡ 1 → IsNumber slots (marked (take at marks)) (slice_index_or numbers at 0)
    pub length : length numbers ≡ length marks

-- `renumbered` is an entry with the number that stands at the index of its own.
-- Example: For the numbers 0, 0, 1, 0 and the entry (3, 2) it is (3, 1).
abbrev pub renumbered : {K : Type 0} → List ℕ → Entry K → Entry K
renumbered numbers e = record { sort_key = e.sort_key; slot = slice_index_or numbers e.slot 0 }
