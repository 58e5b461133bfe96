-- A row of blocks, and the one list that it stands for.
use Rattle.std.proofs.Common.{◌≡◌, ℕ, zero, suc, ◌+◌, ◌-◌, ◌*◌, ◌<◌, ◌≤◌, List, [], ◌∷◌, ◌++◌, length, get_or, set, take, drop, All, refl, sym, ap, ◌∙◌, subst, arith, append_assoc, zero-add, ◌≢◌, mul-zero, mul-suc, add-one}
use Rattle.std.specs.Prelude.{slice_get, slice_range}
use Rattle.std.proofs.lemmas.Option.{get_or_from_slice_get, slice_get_read}
use Rattle.std.specs.List.{insert, remove}
use Rattle.std.proofs.lemmas.List.{append-nil, length-append, length-map, map-append, map-set, take-map, drop-map, get_or-map, set_split, take_more, take_all, get_or_append_left, get_or-append-add, length-set, get_or-set_same, get_or-set_other}
use Rattle.std.proofs.lemmas.List.Elements.{All-get_or, All-nil, All-head, All-tail, All-append, All-weaker, All-cons, All-take, All-drop}
use Rattle.std.proofs.lemmas.List.Edits.{insert-append_left, insert-append_right, remove-append_left, remove-append_right, length-remove, get_or-remove_below}
use Rattle.iddqd_order.specs.Row.{BlockValue, RowValue, entries_of, entry_lists, line, block_at, start_of, IsHeld, IsFilled, IsRow, IsMoved, KeepsEntries}

pub All-insert : {X : Type 0} (P : X → Type 0) (xs : List X) (i : ℕ) (x : X) → All P xs → P x → All P (insert xs i x)
All-insert P xs i x all here = All-append P (take i xs) (x ∷ drop i xs) (All-take P i xs all) (All-cons P x (drop i xs) here (All-drop P i xs all))

pub All-remove : {X : Type 0} (P : X → Type 0) (xs : List X) (i : ℕ) → All P xs → All P (remove xs i)
All-remove P xs i all = All-append P (take i xs) (drop (suc i) xs) (All-take P i xs all) (All-drop P (suc i) xs all)

pub All-read : {X : Type 0} (P : X → Type 0) (xs : List X) (i : ℕ) (x : X) → i < length xs → x ≡ get_or xs i x → All P xs → P x
All-read P xs i x within read all = subst P (sym read) (All-get_or P xs i x within all)

pub read_any : {X : Type 0} (xs : List X) (i : ℕ) (x d : X) → i < length xs → x ≡ get_or xs i x → x ≡ get_or xs i d
read_any xs i x d lt is = sym (get_or_from_slice_get xs i x d (slice_get_read xs (length xs) i x refl lt is))

module _ {E : Type 0} where
  pub line-append : (xs ys : List (List E)) → line (xs ++ ys) ≡ line xs ++ line ys
  line-append [] ys = refl
  line-append (x ∷ xs) ys = ap (λ (q : List E). x ++ q) (line-append xs ys) ∙ sym (append_assoc x (line xs) (line ys))

  -- the blocks before one, the block, and those after it
  pub line_parts : (row : List (List E)) (b : ℕ) → b < length row → line row ≡ line (take b row) ++ (block_at row b ++ line (drop (suc b) row))
  line_parts [] b within = absurd (omega arith)
  line_parts (x ∷ row) zero within = refl
  line_parts (x ∷ row) (suc b) within =
      ap (λ (q : List E). x ++ q) (line_parts row b (omega arith))
      ∙ sym (append_assoc x (line (take b row)) (block_at row b ++ line (drop (suc b) row)))

  pub line-set : (row : List (List E)) (b : ℕ) (x : List E) → b < length row → line (set row b x) ≡ line (take b row) ++ (x ++ line (drop (suc b) row))
  line-set row b x within = ap line (set_split row b x within) ∙ line-append (take b row) (x ∷ drop (suc b) row)

  pub length_parts : (row : List (List E)) (b : ℕ) → b < length row → length (line row) ≡ start_of row b + (length (block_at row b) + length (line (drop (suc b) row)))
  length_parts row b within =
      let rest = line (drop (suc b) row) in
      ap length (line_parts row b within)
      ∙ length-append (line (take b row)) (block_at row b ++ rest)
      ∙ ap (λ (n : ℕ). start_of row b + n) (length-append (block_at row b) rest)

  -- the next block starts where this one ends
  pub start_of-next : (row : List (List E)) (b : ℕ) → b < length row → start_of row (b + 1) ≡ start_of row b + length (block_at row b)
  start_of-next row b within =
      ap (λ (q : List (List E)). length (line q)) (take_more row b [] within)
      ∙ ap length (line-append (take b row) (block_at row b ∷ []))
      ∙ length-append (line (take b row)) (block_at row b ++ [])
      ∙ ap (λ (q : List E). start_of row b + length q) (append-nil (block_at row b))

  pub start_of-all : (row : List (List E)) (b : ℕ) → length row ≤ b → start_of row b ≡ length (line row)
  start_of-all row b past = ap (λ (q : List (List E)). length (line q)) (take_all b row past)

  -- the entry at an offset of a block stands at its position
  pub entry_at_position : (row : List (List E)) (b k : ℕ) (d : E) → b < length row → k < length (block_at row b) → get_or (line row) (start_of row b + k) d ≡ get_or (block_at row b) k d
  entry_at_position row b k d within below =
      let rest = line (drop (suc b) row) in
      ap (λ (q : List E). get_or q (start_of row b + k) d) (line_parts row b within)
      ∙ get_or-append-add (line (take b row)) (block_at row b ++ rest) k d
      ∙ get_or_append_left (block_at row b) rest d k below

  -- an insert into a block is an insert at its position
  pub line_inserted : (row : List (List E)) (b k : ℕ) (entry : E) → b < length row → k ≤ length (block_at row b)
      → line (set row b (insert (block_at row b) k entry)) ≡ insert (line row) (start_of row b + k) entry
  line_inserted row b k entry within le =
      let before = line (take b row) in
      let block = block_at row b in
      let rest = line (drop (suc b) row) in
      let back : k ≡ length before + k - length before = omega arith in
      line-set row b (insert block k entry) within
      ∙ ap (λ (q : List E). before ++ q) (sym (insert-append_left block rest k entry le))
      ∙ ap (λ (n : ℕ). before ++ insert (block ++ rest) n entry) back
      ∙ sym (insert-append_right before (block ++ rest) (length before) (length before + k) entry refl (omega arith))
      ∙ ap (λ (q : List E). insert q (length before + k) entry) (sym (line_parts row b within))

  -- a removal from a block is a removal at its position
  pub line_removed : (row : List (List E)) (b k : ℕ) → b < length row → k < length (block_at row b) → line (set row b (remove (block_at row b) k)) ≡ remove (line row) (start_of row b + k)
  line_removed row b k within below =
      let before = line (take b row) in
      let block = block_at row b in
      let rest = line (drop (suc b) row) in
      let back : k ≡ length before + k - length before = omega arith in
      line-set row b (remove block k) within
      ∙ ap (λ (q : List E). before ++ q) (sym (remove-append_left block rest k below))
      ∙ ap (λ (n : ℕ). before ++ remove (block ++ rest) n) back
      ∙ sym (remove-append_right before (block ++ rest) (length before) (length before + k) refl (omega arith))
      ∙ ap (λ (q : List E). remove q (length before + k)) (sym (line_parts row b within))

  -- a block that is split stands for the same entries
  pub line_split : (row : List (List E)) (b : ℕ) (x y : List E) → b < length row → x ++ y ≡ block_at row b → line (insert (set row b x) (suc b) y) ≡ line row
  line_split [] b x y within parts = absurd (omega arith)
  line_split (z ∷ row) zero x y within parts = sym (append_assoc x y (line row)) ∙ ap (λ (q : List E). q ++ line row) parts
  line_split (z ∷ row) (suc b) x y within parts = ap (λ (q : List E). z ++ q) (line_split row b x y (omega arith) parts)

  -- two blocks that are joined stand for the same entries
  pub line_joined : (row : List (List E)) (b : ℕ) → suc b < length row → line (set (remove row (suc b)) b (block_at row b ++ block_at row (suc b))) ≡ line row
  line_joined [] b within = absurd (omega arith)
  line_joined (z ∷ []) b within = absurd (omega arith)
  line_joined (z ∷ (w ∷ row)) zero within = append_assoc z w (line row)
  line_joined (z ∷ (w ∷ row)) (suc b) within = ap (λ (q : List E). z ++ q) (line_joined (w ∷ row) b (omega arith))

  -- a row in which a block and the next one were joined
  pub KeepsEntries-joined : (old new : RowValue E) (at : ℕ) → at + 1 < length old.blocks → new.blocks ≡ set (remove old.blocks (at + 1)) at (block_at old.blocks at ++ block_at old.blocks (at + 1))
      → new.spare ≡ old.spare + 1 → new.memory ≡ old.memory → new.most ≡ old.most → KeepsEntries old new
  KeepsEntries-joined old new at within blocks spare memory most =
      let row = old.blocks in
      let same = length-set (remove row (at + 1)) at (block_at row at ++ block_at row (at + 1)) in
      record {
        entries = rw (blocks, add-one) (line_joined row at (omega (arith, within)));
        total = omega (arith, ap length blocks, same, length-remove row (at + 1) within, spare);
        memory = memory;
        most = most;
      }

  -- what blocks of a list hold
  pub block_read : (values : List (BlockValue E)) (b : ℕ) (value : BlockValue E) → b < length values → value ≡ get_or values b value → value.entries ≡ block_at (entry_lists values) b
  block_read values b value within read = ap entries_of read ∙ sym (get_or-map entries_of values b value [] within)

  pub length-entry_lists : (values : List (BlockValue E)) → length (entry_lists values) ≡ length values
  length-entry_lists values = length-map values entries_of

  pub entry_lists-set : (values : List (BlockValue E)) (b : ℕ) (value : BlockValue E) → entry_lists (set values b value) ≡ set (entry_lists values) b value.entries
  entry_lists-set values b value = map-set entries_of values b value

  pub entry_lists-insert : (values : List (BlockValue E)) (b : ℕ) (value : BlockValue E) → entry_lists (insert values b value) ≡ insert (entry_lists values) b value.entries
  entry_lists-insert values b value =
      map-append entries_of (take b values) (value ∷ drop b values)
      ∙ ap (λ (q : List (List E)). q ++ (value.entries ∷ entry_lists (drop b values))) (sym (take-map entries_of b values))
      ∙ ap (λ (q : List (List E)). take b (entry_lists values) ++ (value.entries ∷ q)) (sym (drop-map entries_of b values))

  pub entry_lists-remove : (values : List (BlockValue E)) (b : ℕ) → entry_lists (remove values b) ≡ remove (entry_lists values) b
  entry_lists-remove values b =
      map-append entries_of (take b values) (drop (suc b) values)
      ∙ ap (λ (q : List (List E)). q ++ entry_lists (drop (suc b) values)) (sym (take-map entries_of b values))
      ∙ ap (λ (q : List (List E)). take b (entry_lists values) ++ q) (sym (drop-map entries_of (suc b) values))

  -- what a row holds after two of its blocks were joined
  pub entry_lists_joined : (values left : List (BlockValue E)) (b : ℕ) (next head made : BlockValue E) → b + 1 < length values → left ≡ remove values (b + 1)
      → next ≡ get_or values (b + 1) next → head ≡ get_or left b head → made.entries ≡ head.entries ++ next.entries
      → entry_lists (set left b made) ≡ set (remove (entry_lists values) (b + 1)) b (block_at (entry_lists values) b ++ block_at (entry_lists values) (b + 1))
  entry_lists_joined values left b next head made within rest read_next read_head joined =
      let fewer : length left + 1 ≡ length values = ap (λ (q : List (BlockValue E)). length q + 1) rest ∙ length-remove values (b + 1) within in
      let tail : next.entries ≡ block_at (entry_lists values) (b + 1) = block_read values (b + 1) next within read_next in
      let same : entry_lists left ≡ remove (entry_lists values) (b + 1) = ap entry_lists rest ∙ entry_lists-remove values (b + 1) in
      let more : b + 1 < length (entry_lists values) = omega (arith, length-entry_lists values) in
      let first : head.entries ≡ block_at (entry_lists values) b =
      block_read left b head (omega (arith, fewer)) read_head
      ∙ ap (λ (q : List (List E)). block_at q b) same
      ∙ get_or-remove_below (entry_lists values) (b + 1) [] b (omega arith) more in
      entry_lists-set left b made
      ∙ ap (λ (q : List (List E)). set q b made.entries) same
      ∙ ap (λ (q : List E). set (remove (entry_lists values) (b + 1)) b q) (joined ∙ ap (λ (q : List E). q ++ next.entries) first ∙ ap (λ (q : List E). block_at (entry_lists values) b ++ q) tail)

  -- what it holds after one was split
  pub entry_lists_split : (values : List (BlockValue E)) (b offset : ℕ) (old head tail : BlockValue E) → b < length values → old ≡ get_or values b old
      → head.entries ≡ take offset old.entries → tail.entries ≡ drop offset old.entries
      → entry_lists (insert (set values b head) (b + 1) tail) ≡ insert (set (entry_lists values) b (take offset (block_at (entry_lists values) b))) (b + 1) (drop offset (block_at (entry_lists values) b))
  entry_lists_split values b offset old head tail within read first last =
      let same : old.entries ≡ block_at (entry_lists values) b = block_read values b old within read in
      entry_lists-insert (set values b head) (b + 1) tail
      ∙ ap (λ (q : List (List E)). insert q (b + 1) tail.entries) (entry_lists-set values b head)
      ∙ ap (λ (q : List E). insert (set (entry_lists values) b q) (b + 1) tail.entries) (first ∙ ap (λ (q : List E). take offset q) same)
      ∙ ap (λ (q : List E). insert (set (entry_lists values) b (take offset (block_at (entry_lists values) b))) (b + 1) q) (last ∙ ap (λ (q : List E). drop offset q) same)

  get-append_left : (xs ys : List E) (k : ℕ) → k < length xs → slice_get (xs ++ ys) k ≡ slice_get xs k
  get-append_left [] ys k lt = absurd (omega arith)
  get-append_left (x ∷ xs) ys zero lt = refl
  get-append_left (x ∷ xs) ys (suc k) lt = get-append_left xs ys k (omega arith)

  get-append_right : (xs ys : List E) (k : ℕ) → slice_get (xs ++ ys) (length xs + k) ≡ slice_get ys k
  get-append_right [] ys k = ap (λ (n : ℕ). slice_get ys n) (zero-add k)
  get-append_right (x ∷ xs) ys k =
      let next : length (x ∷ xs) + k ≡ suc (length xs + k) = omega arith in
      ap (λ (n : ℕ). slice_get (x ∷ (xs ++ ys)) n) next ∙ get-append_right xs ys k

  -- the entry at an offset of a block is the one at its position
  pub get_at_position : (row : List (List E)) (b k : ℕ) → b < length row → k < length (block_at row b) → slice_get (line row) (start_of row b + k) ≡ slice_get (block_at row b) k
  get_at_position row b k within below =
      let rest = line (drop (suc b) row) in
      ap (λ (q : List E). slice_get q (start_of row b + k)) (line_parts row b within)
      ∙ get-append_right (line (take b row)) (block_at row b ++ rest) k
      ∙ get-append_left (block_at row b) rest k below

  -- a block with no entries may be left out
  pub line_dropped : (row : List (List E)) (b : ℕ) → b < length row → line (remove row b) ≡ line (set row b [])
  line_dropped row b within = line-append (take b row) (drop (suc b) row) ∙ sym (line-set row b [] within)

  pub take-removed : (row : List (List E)) (b : ℕ) → take b (remove row b) ≡ take b row
  take-removed [] zero = refl
  take-removed [] (suc b) = refl
  take-removed (x ∷ row) zero = refl
  take-removed (x ∷ row) (suc b) = ap (λ (q : List (List E)). x ∷ q) (take-removed row b)

  -- what holds of each entry holds of each entry of each block
  All-left : (P : E → Type 0) (xs ys : List E) → All P (xs ++ ys) → All P xs
  All-left P [] ys all = All-nil P
  All-left P (x ∷ xs) ys all = All-cons P x xs (All-head P x (xs ++ ys) all) (All-left P xs ys (All-tail P x (xs ++ ys) all))

  All-right : (P : E → Type 0) (xs ys : List E) → All P (xs ++ ys) → All P ys
  All-right P [] ys all = all
  All-right P (x ∷ xs) ys all = All-right P xs ys (All-tail P x (xs ++ ys) all)

  pub All-blocks : (P : E → Type 0) (row : List (List E)) → All P (line row) → All (All P) row
  All-blocks P [] all = All-nil (All P)
  All-blocks P (x ∷ row) all = All-cons (All P) x row (All-left P x (line row) all) (All-blocks P row (All-right P x (line row) all))

  -- the blocks of a row
  pub All-filled : (memory : ℕ) (values : List (BlockValue E)) → All (IsHeld memory) values → All (IsFilled memory) (entry_lists values)
  All-filled memory [] all = All-nil (IsFilled memory)
  All-filled memory (value ∷ values) all =
      let first = All-head (IsHeld memory) value values all in
      All-cons (IsFilled memory) value.entries (entry_lists values) (record { some = first.some; most = first.most }) (All-filled memory values (All-tail (IsHeld memory) value values all))

  pub IsRow-held : (memory : ℕ) (values : List (BlockValue E)) → All (IsHeld memory) values → IsRow memory (entry_lists values)
  IsRow-held memory values all b within = All-get_or (IsFilled memory) (entry_lists values) b [] within (All-filled memory values all)

  -- none is empty, so there are no more blocks than entries
  pub few_blocks : (memory : ℕ) (row : List (List E)) → IsRow memory row → length row ≤ length (line row)
  few_blocks memory [] r = omega arith
  few_blocks memory (x ∷ row) r = omega (arith, (r 0 (omega arith)).some, few_blocks memory row (λ b lt. r (suc b) (omega arith)), length-append x (line row))

  -- an entry that passes between two blocks side by side
  pub line_passed : (row : List (List E)) (at : ℕ) (x y : List E) → suc at < length row → x ++ y ≡ block_at row at ++ block_at row (suc at) → line (set (set row at x) (suc at) y) ≡ line row
  line_passed [] at x y within parts = absurd (omega arith)
  line_passed (z ∷ []) at x y within parts = absurd (omega arith)
  line_passed (z ∷ (w ∷ row)) zero x y within parts =
      sym (append_assoc x y (line row)) ∙ ap (λ (q : List E). q ++ line row) parts ∙ append_assoc z w (line row)
  line_passed (z ∷ (w ∷ row)) (suc at) x y within parts = ap (λ (q : List E). z ++ q) (line_passed (w ∷ row) at x y (omega arith) parts)

  pub start_passed : (row : List (List E)) (at : ℕ) (x y : List E) → suc at < length row → x ++ y ≡ block_at row at ++ block_at row (suc at)
      → (b : ℕ) → b ≢ suc at → start_of (set (set row at x) (suc at) y) b ≡ start_of row b
  start_passed [] at x y within parts b other = absurd (omega arith)
  start_passed (z ∷ []) at x y within parts b other = absurd (omega arith)
  start_passed (z ∷ (w ∷ row)) zero x y within parts zero other = refl
  start_passed (z ∷ (w ∷ row)) zero x y within parts (suc zero) other = absurd (other refl)
  start_passed (z ∷ (w ∷ row)) zero x y within parts (suc (suc b)) other =
      ap length (sym (append_assoc x y (line (take b row))) ∙ ap (λ (q : List E). q ++ line (take b row)) parts ∙ append_assoc z w (line (take b row)))
  start_passed (z ∷ (w ∷ row)) (suc at) x y within parts zero other = refl
  start_passed (z ∷ (w ∷ row)) (suc at) x y within parts (suc b) other =
      let more = start_passed (w ∷ row) at x y (omega arith) parts b (λ same. other (ap suc same)) in
      omega (arith, more, length-append z (line (take b (set (set (w ∷ row) at x) (suc at) y))), length-append z (line (take b (w ∷ row))))

  -- full blocks
  pub all_full : (memory : ℕ) (row : List (List E)) → ((b : ℕ) → b < length row → length (block_at row b) ≡ memory) → length (line row) ≡ memory * length row
  all_full memory [] full = omega (arith, mul-zero memory)
  all_full memory (x ∷ row) full =
      let first : length x ≡ memory = full 0 (omega arith) in
      let more = all_full memory row (λ b lt. full (suc b) (omega arith)) in
      omega (arith, first, more, length-append x (line row), mul-suc memory (length row))

  -- the only entry of a block is removed with the block
  module _ (row : List (List E)) (b k : ℕ) (x : E) (within : b < length row) (below : k < length (block_at row b)) (one : block_at row b ≡ x ∷ []) where
    first : k ≡ 0
    first = omega (arith, below, ap length one)

    rest : remove (block_at row b) k ≡ []
    rest = ap (λ (n : ℕ). remove (block_at row b) n) first ∙ ap (λ (q : List E). remove q 0) one

    pub only-value : x ≡ get_or (line row) (start_of row b + k) x
    only-value = sym (entry_at_position row b k x within below ∙ ap (λ (n : ℕ). get_or (block_at row b) n x) first ∙ ap (λ (q : List E). get_or q 0 x) one)

    pub only-removed : line (remove row b) ≡ remove (line row) (start_of row b + k)
    only-removed = line_dropped row b within ∙ ap (λ (q : List E). line (set row b q)) (sym rest) ∙ line_removed row b k within below

    pub only-start : start_of (remove row b) b ≡ start_of row b
    only-start = ap (λ (q : List (List E)). length (line q)) (take-removed row b)

  -- what an entry that passes between two blocks leaves
  pub IsMoved-passed : (row : List (List E)) (at : ℕ) (x y : List E) → at + 1 < length row → x ++ y ≡ block_at row at ++ block_at row (at + 1)
      → IsMoved row (set (set row at x) (at + 1) y) at (length x) (length y)
  IsMoved-passed row at x y within parts =
      let next : suc at < length row = omega (arith, within) in
      let same : x ++ y ≡ block_at row at ++ block_at row (suc at) = rw add-one at parts in
      let one = length-set row at x in
      let back : suc at ≡ at + 1 = omega arith in
      let new = λ (n : ℕ). set (set row at x) n y in
      record {
        entries = subst (λ (n : ℕ). line (set (set row at x) n y) ≡ line row) back (line_passed row at x y next same);
        count = omega (arith, one, length-set (set row at x) (at + 1) y);
        start = λ b other. subst (λ (n : ℕ). start_of (set (set row at x) n y) b ≡ start_of row b) back (start_passed row at x y next same b (λ e. other (omega (arith, e))));
        others = λ b here there. ap length (get_or-set_other (set row at x) (at + 1) b y [] there ∙ get_or-set_other row at b x [] here);
        first = ap length (get_or-set_other (set row at x) (at + 1) at y [] (λ e. absurd (omega (arith, e))) ∙ get_or-set_same row at x [] (omega (arith, next)));
        second = ap length (get_or-set_same (set row at x) (at + 1) y [] (omega (arith, one, next)));
      }

  IsMoved-as : (row new : List (List E)) (at a b c d : ℕ) → a ≡ c → b ≡ d → IsMoved row new at a b → IsMoved row new at c d
  IsMoved-as row new at a b c d first second m = record {
    entries = m.entries;
    count = m.count;
    start = m.start;
    others = m.others;
    first = m.first ∙ first;
    second = m.second ∙ second;
  }

  -- what the blocks of a list hold then
  module _ (values : List (BlockValue E)) (at : ℕ) (block next moved more : BlockValue E) (within : at + 1 < length values) (read : block ≡ get_or values at block) (read_next : next ≡ get_or values (at + 1) next)
      (parts : moved.entries ++ more.entries ≡ block.entries ++ next.entries) where
    pub IsMoved-entry_lists : (a b : ℕ) → length moved.entries ≡ a → length more.entries ≡ b → IsMoved (entry_lists values) (entry_lists (set (set values at moved) (at + 1) more)) at a b
    IsMoved-entry_lists a b many few =
        let here = block_read values at block (omega (arith, within)) read in
        let there = block_read values (at + 1) next within read_next in
        let same = entry_lists-set (set values at moved) (at + 1) more ∙ ap (λ (q : List (List E)). set q (at + 1) more.entries) (entry_lists-set values at moved) in
        let in_row : at + 1 < length (entry_lists values) = omega (arith, within, length-entry_lists values) in
        let joined = parts ∙ ap (λ (q : List E). q ++ next.entries) here ∙ ap (λ (q : List E). block_at (entry_lists values) at ++ q) there in
        IsMoved-as (entry_lists values) _ at (length moved.entries) (length more.entries) a b many few
        (subst (λ (q : List (List E)). IsMoved (entry_lists values) q at (length moved.entries) (length more.entries)) (sym same) (IsMoved-passed (entry_lists values) at moved.entries more.entries in_row joined))

  -- how many entries two blocks have that are joined
  pub joined_lengths : (values left : List (BlockValue E)) (b : ℕ) (next head : BlockValue E) → b + 1 < length values → left ≡ remove values (b + 1) → next ≡ get_or values (b + 1) next → head ≡ get_or left b head
      → (length head.entries ≡ length (block_at (entry_lists values) b)) × (length next.entries ≡ length (block_at (entry_lists values) (b + 1)))
  joined_lengths values left b next head within rest read_next read_head =
      let fewer : length left + 1 ≡ length values = ap (λ (q : List (BlockValue E)). length q + 1) rest ∙ length-remove values (b + 1) within in
      let more : b + 1 < length (entry_lists values) = omega (arith, length-entry_lists values) in (
        ap length (block_read left b head (omega (arith, fewer)) read_head) ∙ ap (λ (q : List (List E)). length (block_at q b)) (ap entry_lists rest ∙ entry_lists-remove values (b + 1)) ∙ ap length (get_or-remove_below (entry_lists values) (b + 1) [] b (omega arith) more),
        ap length (block_read values (b + 1) next within read_next),
      )

  pub first_removed : (xs : List E) (x : E) → 0 < length xs → x ≡ get_or xs 0 x → x ∷ remove xs 0 ≡ xs
  first_removed [] x some is = absurd (omega arith)
  first_removed (y ∷ xs) x some is = ap (λ (z : E). z ∷ xs) is

  pub All-block : (P : E → Type 0) (row : List (List E)) (b : ℕ) → b < length row → All P (line row) → All P (block_at row b)
  All-block P row b within all = All-get_or (All P) row b [] within (All-blocks P row all)

  set_left : (xs ys : List E) (k : ℕ) (e : E) → k < length xs → set (xs ++ ys) k e ≡ set xs k e ++ ys
  set_left [] ys k e lt = absurd (omega arith)
  set_left (x ∷ xs) ys zero e lt = refl
  set_left (x ∷ xs) ys (suc k) e lt = ap (λ (q : List E). x ∷ q) (set_left xs ys k e (omega arith))

  set_right : (xs ys : List E) (k : ℕ) (e : E) → set (xs ++ ys) (length xs + k) e ≡ xs ++ set ys k e
  set_right [] ys k e = ap (λ (n : ℕ). set ys n e) (zero-add k)
  set_right (x ∷ xs) ys k e =
      let next : length (x ∷ xs) + k ≡ suc (length xs + k) = omega arith in
      ap (λ (n : ℕ). set (x ∷ (xs ++ ys)) n e) next ∙ ap (λ (q : List E). x ∷ q) (set_right xs ys k e)

  -- an entry in the place of another one of a block is in that place of the list
  pub line_replaced : (row : List (List E)) (b k : ℕ) (e : E) → b < length row → k < length (block_at row b) → line (set row b (set (block_at row b) k e)) ≡ set (line row) (start_of row b + k) e
  line_replaced row b k e within below =
      let before = line (take b row) in
      let block = block_at row b in
      let rest = line (drop (suc b) row) in
      line-set row b (set block k e) within
      ∙ ap (λ (q : List E). before ++ q) (sym (set_left block rest k e below))
      ∙ sym (set_right before (block ++ rest) k e)
      ∙ ap (λ (q : List E). set q (start_of row b + k) e) (sym (line_parts row b within))

  -- no block of a row is empty
  pub some_entries : (memory : ℕ) (values : List (BlockValue E)) → All (IsHeld memory) values → All (λ r. 0 < length r.entries) values
  some_entries memory values all = All-weaker (IsHeld memory) (λ r. 0 < length r.entries) (λ r held. held.some) values all

  pub entry_lists-range : (values : List (BlockValue E)) (i j : ℕ) → entry_lists (slice_range values i j) ≡ slice_range (entry_lists values) i j
  entry_lists-range values i j = sym (take-map entries_of (j - i) (drop i values)) ∙ ap (λ (q : List (List E)). take (j - i) q) (sym (drop-map entries_of i values))
