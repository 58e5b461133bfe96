-- A row of blocks of entries. It stands for one list: its blocks, end to end. In the examples an entry is a number.
use Rattle.std.specs.Prelude.{◌≡◌, ◌≢◌, ℕ, ◌+◌, ◌*◌, ◌<◌, ◌≤◌, List, [], ◌∷◌, ◌++◌, length, take, map, max, All, slice_index_or, slice_set, Option, Some, None, refl}
use Rattle.std.specs.Coded.{Coded, code_by, coded×, coded_ℕ, coded_list}
use Rattle.iddqd_order.specs.declared.place.Place.{Place}

-- Contracts see a `Block` as its entries, and the number of entries for which it has memory.
-- No public clause cites it.
-- Example: [3, 1], and 64.
pub record BlockValue (E : Type 0) : Type 0 where
  pub entries : List E
  pub room : ℕ

abbrev pub block_code : {E : Type 0} → Coded E → Coded (BlockValue E)
block_code {E} code =
    code_by (List E × ℕ) (coded× (coded_list code) coded_ℕ) (λ r. (r.entries, r.room)) (λ p. record { entries = p.0; room = p.1 }) (λ _. refl)

-- Contracts see a `BlockRow` as its blocks, the number of spare blocks, the number of entries for which each block has
-- memory at least, and the number of entries that a block has at most. No public clause cites it.
-- Example: [3, 1], [4], one spare block, 64 and 64.
pub record RowValue (E : Type 0) : Type 0 where
  pub blocks : List (List E)
  pub spare : ℕ
  pub memory : ℕ
  pub most : ℕ

abbrev pub row_code : {E : Type 0} → Coded E → Coded (RowValue E)
row_code {E} code =
    code_by (List (List E) × (ℕ × (ℕ × ℕ))) (coded× (coded_list (coded_list code)) (coded× coded_ℕ (coded× coded_ℕ coded_ℕ)))
    (λ r. (r.blocks, (r.spare, (r.memory, r.most)))) (λ p. record { blocks = p.0; spare = p.1.0; memory = p.1.1.0; most = p.1.1.1 }) (λ _. refl)

-- Contracts see `Blocks` as the blocks, and how many entries fit.
-- Example: [3, 1], [4], and 128.
pub record BlocksValue (E : Type 0) : Type 0 where
  pub blocks : List (List E)
  pub capacity : ℕ

abbrev pub blocks_code : {E : Type 0} → Coded E → Coded (BlocksValue E)
blocks_code {E} code =
    code_by (List (List E) × ℕ) (coded× (coded_list (coded_list code)) coded_ℕ) (λ o. (o.blocks, o.capacity)) (λ p. record { blocks = p.0; capacity = p.1 }) (λ _. refl)

module _ {E : Type 0} where
  -- `line` is the one list that a row stands for.
  -- Example: For [3, 1], [4] it is 3, 1, 4.
  abbrev pub line : List (List E) → List E
  line [] = []
  line (x ∷ row) = x ++ line row

  -- `entries_of` is what a block holds. No public clause cites it.
  abbrev pub entries_of : BlockValue E → List E
  entries_of value = value.entries

  -- `entry_lists` has the list of the entries of each block. No public clause cites it.
  abbrev pub entry_lists : List (BlockValue E) → List (List E)
  entry_lists values = map entries_of values

  -- `entries_in` lists the entries, in order: `line` of the blocks.
  -- Example: For [3, 1], [4] it is 3, 1, 4.
  abbrev pub entries_in : BlocksValue E → List E
  entries_in o = line o.blocks

  -- `block_at` is this block of the row.
  -- Example: In [3, 1], [4] the block 1 is 4.
  abbrev pub block_at : List (List E) → ℕ → List E
  block_at row b = slice_index_or row b []

  -- `start_of` counts the entries in the blocks before this one.
  -- Example: In [3, 1], [4] the block 1 starts at 2.
  abbrev pub start_of : List (List E) → ℕ → ℕ
  start_of row b = length (line (take b row))

  -- `position` is the index of a place in the one list.
  -- Example: In [3, 1], [4] block 1 and offset 0 are position 2.
  abbrev pub position : List (List E) → Place → ℕ
  position row p = start_of row p.block + p.offset

  -- `index_of` is the index of the entry at this place, or the end of the list.
  -- Example: In [3, 1], [4] it is 2 for block 1 and offset 0, and 3 for `None`.
  abbrev pub index_of : List (List E) → Option Place → ℕ
  index_of row None = length (line row)
  index_of row (Some p) = position row p

  -- `put_in` is the row, where `entry` stands at this place.
  -- Example: For [3, 1], [4], block 0, offset 1 and 7 it is [3, 7], [4].
  abbrev pub put_in : List (List E) → Place → E → List (List E)
  put_in row p entry = slice_set row p.block (slice_set (block_at row p.block) p.offset entry)

  -- `with_entry` is what `Blocks` are then.
  -- Example: For [3, 1], [4], block 0, offset 1 and 7 the entries are 3, 7, 4.
  abbrev pub with_entry : BlocksValue E → Place → E → BlocksValue E
  with_entry o p entry = record { blocks = put_in o.blocks p entry; capacity = o.capacity }

  -- An entry may be inserted before this place.
  -- Example: In [3, 1], [4] it holds of block 0 and offset 2, and of block 2 and offset 0, which is the end.
  pub record IsPlace (row : List (List E)) (p : Place) : Type 0 where
    pub block : p.block ≤ length row
    pub offset : p.offset ≤ length (block_at row p.block)

  -- An entry stands at this place.
  -- Example: In [3, 1], [4] it holds of block 0 and offset 1, and not of block 0 and offset 2.
  pub record HasEntry (row : List (List E)) (p : Place) : Type 0 where
    pub block : p.block < length row
    pub offset : p.offset < length (block_at row p.block)

  -- This place is in a block, or at its end. No public clause cites it.
  pub record IsWithin (row : List (List E)) (p : Place) : Type 0 where
    pub block : p.block < length row
    pub offset : p.offset ≤ length (block_at row p.block)

  -- An entry may be inserted before this place into a block with memory for so many. No public clause cites it.
  pub record HasRoom (row : List (List E)) (memory : ℕ) (p : Place) : Type 0 where
    pub block : p.block < length row
    pub offset : p.offset ≤ length (block_at row p.block)
    pub room : length (block_at row p.block) < memory

  -- No block of a row is empty, and none has more than so many entries. No public clause cites it.
  pub record IsFilled (memory : ℕ) (block : List E) : Type 0 where
    pub some : 0 < length block
    pub most : length block ≤ memory

  abbrev pub IsRow : ℕ → List (List E) → Type 0
  IsRow memory row = (b : ℕ) → b < length row → IsFilled memory (block_at row b)

  -- A block in the row: it has memory for so many entries, and holds one at least and so many at most. No public clause cites it.
  pub record IsHeld (memory : ℕ) (value : BlockValue E) : Type 0 where
    pub room : memory ≤ value.room
    pub some : 0 < length value.entries
    pub most : length value.entries ≤ memory

  -- A spare block: it has memory for so many entries, and holds none. No public clause cites it.
  pub record IsSpare (memory : ℕ) (value : BlockValue E) : Type 0 where
    pub room : memory ≤ value.room
    pub none : value.entries ≡ []

  -- Each block has memory for so many entries. The row and the list of spare blocks have memory for all blocks, and if the
  -- memory of a block is not for a full one, then there is one block at most. So it is if a block may have more than 128
  -- entries. No public clause cites it.
  pub record IsStocked (blocks spare : List (BlockValue E)) (memory most row_room spare_room : ℕ) : Type 0 where
    pub held : All (IsHeld memory) blocks
    pub unused : All (IsSpare memory) spare
    pub row_fits : length blocks + length spare ≤ row_room
    pub spare_fits : length blocks + length spare ≤ spare_room
    pub few : memory < most → length blocks + length spare ≤ 1
    pub memory_most : memory ≤ most
    pub least : 0 < memory → 4 ≤ memory
    pub low : 16 ≤ most
    pub high : 128 < most → length blocks + length spare ≤ 1

  -- The entries and their order stay, and so do the number of all blocks, with the spare ones, and their memory. No public
  -- clause cites it.
  pub record KeepsEntries (old new : RowValue E) : Type 0 where
    pub entries : line new.blocks ≡ line old.blocks
    pub total : length new.blocks + new.spare ≡ length old.blocks + old.spare
    pub memory : new.memory ≡ old.memory
    pub most : new.most ≡ old.most

  -- An entry moved between this block and the next one, which have so many then. No public clause cites it.
  pub record IsMoved (old new : List (List E)) (at many more : ℕ) : Type 0 where
    pub entries : line new ≡ line old
    pub count : length new ≡ length old
    pub start : (b : ℕ) → b ≢ at + 1 → start_of new b ≡ start_of old b
    pub others : (b : ℕ) → b ≢ at → b ≢ at + 1 → length (block_at new b) ≡ length (block_at old b)
    pub first : length (block_at new at) ≡ many
    pub second : length (block_at new (at + 1)) ≡ more

  -- `room_of` counts the entries for which there is memory in all blocks of a row or, if that is more, in one that is kept. No public
  -- clause cites it.
  -- Example: For two blocks of 64 and one of 1000 it is 1000.
  abbrev pub room_of : RowValue E → BlockValue E → ℕ
  room_of row kept = max (row.memory * (length row.blocks + row.spare)) kept.room

  -- The entries are counted, they fit, and there is memory for as many as fit. The block that is kept holds none. No
  -- public clause cites it.
  pub record AreBlocks (row : RowValue E) (kept : BlockValue E) (count capacity : ℕ) : Type 0 where
    pub counted : count ≡ length (line row.blocks)
    pub fits : count ≤ capacity
    pub held : capacity ≤ room_of row kept
    pub unused : kept.entries ≡ []
    pub some : 0 < capacity → 0 < row.memory * (length row.blocks + row.spare)
