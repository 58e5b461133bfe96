-- The full cells of a chunk of a row, which a list of places names.
use Rattle.std.proofs.Common.{arith, ℕ, ◌≡◌, ◌+◌, ◌-◌, ◌*◌, ◌/◌, ◌%◌, ◌<◌, ◌≤◌, ◌++◌, ◌∷◌, [], List, Option, None, Some, length, get_or, set, take, map, refl, sym, ap, ◌∙◌, subst}
use Rattle.std.specs.Prelude.{◌≢◌, is_some}
use Rattle.std.specs.Int.{from_bool}
use Rattle.std.proofs.lemmas.List.{append_assoc, length-append, length-map, length-take-le, get_or-append_right, get_or-map, get_or-set_same, get_or-set_other}
use Rattle.std.proofs.lemmas.List.{get_or-take, map_push, take_more, take_more_set, take-set}
use Rattle.std.proofs.lemmas.List.Elements.{filter_map-append}
use Rattle.iddqd_store.specs.Slots.{contents}
use Rattle.iddqd_store.specs.Table.{IsFirstEmpty}
use Rattle.iddqd_store.specs.Table.Ring.{cell}
use Rattle.iddqd_store.proofs.Plain.{by_equal}
use Rattle.iddqd_store.proofs.TableLemmas.Write.{held_front, held_no_more}
use Rattle.iddqd_store.proofs.TableLemmas.Grow.{HasFront, front_full}

-- the cells of the row up to `from`, and then those at the first `full` of the places
abbrev pub packed : List (Option (ℕ × ℕ)) → ℕ → List ℕ → ℕ → List (Option (ℕ × ℕ))
packed old from places full = take from old ++ map (cell old) (take full places)

-- the first `full` places are those of the full cells from `from` up to `i`
pub record IsChunk (old : List (Option (ℕ × ℕ))) (from i : ℕ) (places : List ℕ) (full : ℕ) : Type 0 where
  pub some : full + from ≤ i
  pub within : i ≤ length old
  pub below : (k : ℕ) → k < full → get_or places k 0 < length old
  pub stored : (k : ℕ) → k < full → cell old (get_or places k 0) ≢ None
  pub same : contents (packed old from places full) ≡ contents (take i old)

-- a full cell, whose place comes after the others
chunk_more : (old : List (Option (ℕ × ℕ))) (from i : ℕ) (places : List ℕ) (full : ℕ) → i < length old → full < length places → cell old i ≢ None
    → IsChunk old from i places full → IsChunk old from (i + 1) (set places full i) (full + 1)
chunk_more old from i places full l room is c =
    let x : List (Option (ℕ × ℕ)) = cell old i ∷ [] in
    let here : get_or (set places full i) full 0 ≡ i = get_or-set_same places full i 0 room in
    let listed : packed old from (set places full i) (full + 1) ≡ packed old from places full ++ x =
    ap (λ (ps : List ℕ). take from old ++ map (cell old) ps) (take_more_set places full i room)
    ∙ ap (λ (r : List (Option (ℕ × ℕ))). take from old ++ r) (map_push (cell old) (take full places) i)
    ∙ sym (append_assoc (take from old) (map (cell old) (take full places)) x) in
    record {
      some = let s = c.some in omega (arith, s);
      within = omega (arith, l);
      below = λ k lk.
          by_equal k full (λ (e : k ≡ full). rw (e, here) l)
          (λ (e : k ≢ full). rw (get_or-set_other places full k i 0 e) (c.below k (omega (arith, lk, e))));
      stored = λ k lk.
          by_equal k full (λ (e : k ≡ full). rw (e, here) is)
          (λ (e : k ≢ full). rw (get_or-set_other places full k i 0 e) (c.stored k (omega (arith, lk, e))));
      same = ap contents listed ∙ filter_map-append (λ c. c) (packed old from places full) x
          ∙ ap (λ (r : List (ℕ × ℕ)). r ++ contents x) c.same
          ∙ sym (filter_map-append (λ c. c) (take i old) x)
          ∙ ap contents (sym (take_more old i None l));
    }

-- an empty cell, whose place the next one replaces
chunk_no_more : (old : List (Option (ℕ × ℕ))) (from i : ℕ) (places : List ℕ) (full : ℕ) → i < length old → cell old i ≡ None
    → IsChunk old from i places full → IsChunk old from (i + 1) (set places full i) full
chunk_no_more old from i places full l is c =
    let other : (k : ℕ) → k < full → get_or (set places full i) k 0 ≡ get_or places k 0 = λ k lk. get_or-set_other places full k i 0 (λ e. absurd (omega (arith, lk, e))) in
    record {
      some = let s = c.some in omega (arith, s);
      within = omega (arith, l);
      below = λ k lk. rw (other k lk) (c.below k lk);
      stored = λ k lk. rw (other k lk) (c.stored k lk);
      same = ap (λ (ps : List ℕ). contents (take from old ++ map (cell old) ps)) (take-set places full i) ∙ c.same ∙ sym (held_no_more old i l is);
    }

chunk_by : (old : List (Option (ℕ × ℕ))) (from i : ℕ) (places : List ℕ) (full : ℕ) (has : Option (ℕ × ℕ)) → i < length old → full < length places
    → cell old i ≡ has → IsChunk old from i places full → IsChunk old from (i + 1) (set places full i) (full + from_bool (is_some has))
chunk_by old from i places full None l room is c = subst (λ (n : ℕ). IsChunk old from (i + 1) (set places full i) n) (omega arith) (chunk_no_more old from i places full l is c)
chunk_by old from i places full (Some x) l room is c = chunk_more old from i places full l room (λ none. cc (none, is)) c

-- a cell is read, and its place is written after the others
pub chunk_next : (old : List (Option (ℕ × ℕ))) (from i : ℕ) (places : List ℕ) (full : ℕ) → i < length old → full < length places
    → IsChunk old from i places full → IsChunk old from (i + 1) (set places full i) (full + from_bool (is_some (cell old i)))
chunk_next old from i places full l room c = chunk_by old from i places full (cell old i) l room refl c

module _ (old : List (Option (ℕ × ℕ))) (from to : ℕ) (places : List ℕ) (full : ℕ) (room : full ≤ length places) (c : IsChunk old from to places full) where
  front_len : length (take from old) ≡ from
  front_len = length-take-le from old (let s = c.some in let w = c.within in omega (arith, s, w))

  places_len : length (take full places) ≡ full
  places_len = length-take-le full places room

  packed_len : length (packed old from places full) ≡ from + full
  packed_len = length-append (take from old) (map (cell old) (take full places))
      ∙ (let a = front_len in let b = places_len in let m = length-map (take full places) (cell old) in omega (arith, a, b, m))

  packed_cell : (k : ℕ) → k < full → cell (packed old from places full) (from + k) ≡ cell old (get_or places k 0)
  packed_cell k l =
      let less : (from + k) - from ≡ k = omega arith in
      get_or-append_right (take from old) (map (cell old) (take full places)) from (from + k) None front_len (omega arith)
      ∙ ap (λ (j : ℕ). get_or (map (cell old) (take full places)) j None) less
      ∙ get_or-map (cell old) (take full places) k 0 None (let b = places_len in omega (arith, b, l))
      ∙ ap (cell old) (get_or-take full places k 0 l)

  -- a chunk has no more pairs than the whole row
  pub packed_fits : length (contents (packed old from places full)) ≤ length (contents old)
  packed_fits = let s : length (contents (packed old from places full)) ≡ length (contents (take to old)) = ap length c.same in let f = held_front old to in omega (arith, s, f)

  -- a pair of the chunk is copied into the first empty cell from its home on
  pub front_packed_more : (new : List (Option (ℕ × ℕ))) (k at hash index : ℕ) → k < full → cell old (get_or places k 0) ≡ Some (hash, index)
      → length (contents old) ≤ length new / 8 * 7 → IsFirstEmpty new (hash % length new) at
      → HasFront (packed old from places full) new (from + k) → HasFront (packed old from places full) (set new at (cell old (get_or places k 0))) (from + (k + 1))
  front_packed_more new k at hash index l is fits f h =
      let here = packed_cell k l in
      let next : (from + k) + 1 ≡ from + (k + 1) = omega arith in
      subst (λ (j : ℕ). HasFront (packed old from places full) (set new at (cell old (get_or places k 0))) j) next
      (subst (λ (o : Option (ℕ × ℕ)). HasFront (packed old from places full) (set new at o) ((from + k) + 1)) here
      (front_full (packed old from places full) new (from + k) at hash index (let p = packed_len in omega (arith, p, l)) (here ∙ is) (let p = packed_fits in omega (arith, p, fits)) f h))
