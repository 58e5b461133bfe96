-- The number of probes depends only on the hashes, in any order.
use Rattle.std.proofs.Common.{◌≡◌, ℕ, ◌+◌, ◌<◌, ◌≤◌, List, Option, None, Some, length, arith}
use Rattle.std.specs.List.Sorted.{IsPermutation}
use Rattle.iddqd_store.specs.Table.Ring.{stretch}
use Rattle.iddqd_store.specs.Table.{hashes, Probes}
use Rattle.iddqd_store.proofs.Plain.{by_order}
use Rattle.iddqd_store.proofs.TableLemmas.Stretch.{stretch_permutation}
use Rattle.iddqd_store.proofs.TableLemmas.StretchBound.{stretch_le_length}

pub probes_permutation : {A : Type 0} (xs ys : List ℕ) (n hash : ℕ) (answer : Option A) (before after : ℕ) → IsPermutation xs ys
    → Probes xs n hash answer before after → Probes ys n hash answer before after
probes_permutation xs ys n hash answer before after same l =
    let e : stretch xs n hash ≡ stretch ys n hash = stretch_permutation xs ys n hash same in
    record {
      no_cells = l.no_cells;
      miss = rw e at l.miss;
      hit_least = l.hit_least;
      hit_most = rw e at l.hit_most;
    }

-- a search probes at most one cell more than there are pairs
pub probes_most : {A : Type 0} (hashes : List ℕ) (n hash : ℕ) (answer : Option A) (before after : ℕ) → Probes hashes n hash answer before after → after ≤ before + length hashes + 1
probes_most hashes n hash None before after l =
    let s : stretch hashes n hash ≤ length hashes = stretch_le_length hashes n hash in
    by_order 0 n (λ (pos : 0 < n). let m : after ≡ before + stretch hashes n hash + 1 = l.miss pos in omega arith)
    (λ (none : n ≤ 0). let m : after ≡ before = l.no_cells (omega arith) in omega arith)
probes_most hashes n hash (Some x) before after l =
    let s : stretch hashes n hash ≤ length hashes = stretch_le_length hashes n hash in
    let m : after ≤ before + stretch hashes n hash = l.hit_most in
    omega arith
