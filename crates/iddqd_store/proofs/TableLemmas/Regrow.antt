-- How many cells are probed when a row is copied into a larger one.
use Rattle.std.proofs.Common.{◌≡◌, ℕ, ◌+◌, ◌*◌, ◌/◌, ◌<◌, ◌≤◌, ◌%◌, List, Option, None, Some, length, get_or, set, ap, ◌∙◌, arith}
use Rattle.std.proofs.lemmas.List.{length-set}
use Rattle.std.proofs.lemmas.List.Sorted.{length_permutation}
use Rattle.iddqd_store.specs.Slots.{contents}
use Rattle.iddqd_store.specs.Table.Ring.{cell, gap, stretch}
use Rattle.iddqd_store.specs.Table.{hashes, IsFirstEmpty, IsTable}
use Rattle.iddqd_store.proofs.TableLemmas.Search.{walk_end, walk_to}
use Rattle.iddqd_store.proofs.TableLemmas.StretchBound.{stretch_le_pairs}
use Rattle.iddqd_store.proofs.TableLemmas.Write.{held_front}
use Rattle.iddqd_store.proofs.SlotLemmas.Contents.{contents-put}
use Rattle.iddqd_store.proofs.TableLemmas.Chunk.{IsChunk, front_packed_more, packed, packed_fits}
use Rattle.iddqd_store.proofs.TableLemmas.Grow.{HasFront, front_all}

-- a pair walks over no more cells than there are pairs
home_walk : (row : List (Option (ℕ × ℕ))) (hash at : ℕ) → IsTable row → IsFirstEmpty row (hash % length row) at → gap (length row) (hash % length row) at ≤ length (contents row)
home_walk row hash at table free =
    let home : ℕ = hash % length row in
    let below : home < length row = let b = free.below in omega arith in
    let s : stretch (hashes (contents row)) (length row) hash ≡ gap (length row) home at =
    walk_end row hash at (gap (length row) home at) table (walk_to row home at below (record { below = free.below; first = free.first })) free.empty in
    let most = stretch_le_pairs (contents row) (length row) hash in
    omega (arith, s, most)

pairs_put : (row : List (Option (ℕ × ℕ))) (at : ℕ) (x : ℕ × ℕ) → at < length row → cell row at ≡ None → length (contents (set row at (Some x))) ≡ length (contents row) + 1
pairs_put row at x below empty = length_permutation _ _ (contents-put row at x below empty) ∙ omega arith

times_more : (k pairs : ℕ) → (k + 1) * pairs ≡ k * pairs + pairs
times_more k pairs = omega arith

times_less : (k pairs : ℕ) → k ≤ pairs → k * pairs ≤ pairs * pairs
times_less k pairs less = grind arith

-- the probes of a full cell that is read again, and of the walk of its pair
probed_chunk : (start to : ℕ) {read walked done far k pairs : ℕ} → read ≤ start + to + 2 * k + k * pairs → walked ≡ read + 1 → done ≡ walked + far + 1
    → far ≤ k → k ≤ pairs → done ≤ start + to + 2 * (k + 1) + (k + 1) * pairs
probed_chunk start to {k = k} {pairs = pairs} before probe probes near fits = let more = times_more k pairs in omega (arith, before, probe, probes, near, fits, more)

-- a prefix of the row has no more pairs than the whole row
front_fits : (old new : List (Option (ℕ × ℕ))) (i : ℕ) → HasFront old new i → length (contents new) ≤ length (contents old)
front_fits old new i front = omega (arith, length_permutation _ _ front.pairs, held_front old i)

-- the pair of a full cell of a chunk is copied
pub chunk_copied : {old new : List (Option (ℕ × ℕ))} {places : List ℕ} {from to full k hash index home at count pairs read walked done : ℕ}
    → (start past : ℕ) → full ≤ length places → IsChunk old from to places full → k < full → cell old (get_or places k 0) ≡ Some (hash, index)
    → length (contents old) ≤ count / 8 * 7 → pairs ≡ length (contents old) → length new ≡ count → home ≡ hash % length new → IsFirstEmpty new home at
    → HasFront (packed old from places full) new (from + k) → read ≤ start + past + 2 * length (contents new) + length (contents new) * pairs
    → walked ≡ read + 1 → done ≡ walked + gap (length new) home at + 1
    → HasFront (packed old from places full) (set new at (cell old (get_or places k 0))) (from + (k + 1))
    × (length (set new at (cell old (get_or places k 0))) ≡ count) × (done ≤ start + past + 2 * length
    (contents (set new at (cell old (get_or places k 0)))) + length (contents (set new at (cell old (get_or places k 0)))) * pairs)
chunk_copied {old = old} {new = new} {places = places} {from = from} {full = full} {k = k} {hash = hash} {index = index}
    {at = at} start past room chunk less is fits counted size home first front before probe probes =
    let free : IsFirstEmpty new (hash % length new) at = rw home at first in
    let far = ap (λ (h : ℕ). gap (length new) h at) home in
    let near = home_walk new hash at front.table free in
    let few = front_fits _ new (from + k) front in
    let whole = packed_fits old from _ places full room chunk in (
      front_packed_more old from _ places full room chunk new k at hash index less is (rw size fits) free front,
      length-set new at (cell old (get_or places k 0)) ∙ size,
      rw (is, pairs_put new at (hash, index) free.below free.empty) (probed_chunk start past before probe probes (omega (arith, near, far)) (omega (arith, few, whole, counted))),
    )

-- the probes of all copies
pub copied_probes : {old new : List (Option (ℕ × ℕ))} {i pairs done : ℕ} → (start : ℕ) → length old ≤ i → i ≤ length old → HasFront old new i
    → pairs ≡ length (contents old) → done ≤ start + i + 2 * length (contents new) + length (contents new) * pairs
    → done ≤ start + (length old + 2 * pairs + pairs * pairs)
copied_probes {old = old} {new = new} {i = i} {pairs = pairs} start past within front counted probed =
    let count = length_permutation _ _ (front_all old new i past front) in
    let fewer = times_less (length (contents new)) pairs (omega (arith, counted, count)) in
    omega (arith, past, within, probed, count, counted, fewer)
