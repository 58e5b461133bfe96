use Rattle.std.proofs.Common.{◌≡◌, ℕ, ◌+◌, ◌-◌, ◌*◌, ◌^◌, ◌<◌, ◌≤◌, inl, inr, length, get_or, sym, ap, ◌∙◌, subst, arith}
use Rattle.std.specs.Prelude.{All, slice_get}
use Rattle.std.proofs.lemmas.Bool.{cases_lt}
use Rattle.iddqd_order.specs.Search.{IsPartitionPoint, order_at}
use Rattle.iddqd_order.specs.Row.{line, block_at, start_of}
use Rattle.iddqd_order.proofs.LineLemmas.{All-blocks, All-block, length_parts, entry_at_position, few_blocks, read_any}
use Rattle.iddqd_order.proofs.SearchLemmas.{first_rises, block_rises, within, point_joined, front, found_at, gap_at}
use Rattle.iddqd_order.proofs.search.search.Goals as goal

-- two searches for a partition point: among several blocks each has few entries, and one block costs what its entries do
few_asked : (blocks entries all r m a b : ℕ) → ((s : ℕ) → blocks - 1 ≤ 2 * 4 ^ s + 1 → a ≤ m + (3 * s + 3)) → ((s : ℕ) → entries ≤ 2 * 4 ^ s + 1 → b ≤ a + (3 * s + 3))
    → 0 < blocks → blocks ≤ all → entries ≤ all → (1 < blocks → entries ≤ 128) → all < 4 ^ r → b ≤ m + (3 * r + 15)
few_asked blocks entries all r m a b block offset some le within short few =
    elim (cases_lt 1 blocks) [
      | inl many ↦ omega (arith, block r (omega arith), offset 3 (omega (arith, short many)))
      | inr one ↦ omega (arith, block 0 (omega arith), offset r (omega arith))
    ]

pub partition_point-block-requires-clause-asks : goal.partition_point-block-requires-clause-asks
partition_point-block-requires-clause-asks g c k lt =
    (omega (arith, lt, c.len-blocks.ensures.value), All-blocks (g.C.Compare.MayAsk c.args.sought.now) c.args.row.now.blocks c.requires.asks)

pub partition_point-block-requires-clause-rises : goal.partition_point-block-requires-clause-rises
partition_point-block-requires-clause-rises g c j k le lt above =
    first_rises (g.C.Compare.order c.args.sought.now) c.args.row.now.memory c.args.row.now.blocks c.len-blocks.ensures.filled c.requires.ordered j k le (omega (arith, lt, c.len-blocks.ensures.value)) above

pub entries_of-entries-requires : goal.entries_of-entries-requires
entries_of-entries-requires g c = omega (arith, c.partition_point-block.ensures.point.in_range, c.len-blocks.ensures.value)

pub partition_point-offset-requires-clause-asks : goal.partition_point-offset-requires-clause-asks
partition_point-offset-requires-clause-asks g c k lt =
    let block = All-block (g.C.Compare.MayAsk c.args.sought.now) c.args.row.now.blocks c.partition_point-block.result (omega (arith, c.partition_point-block.ensures.point.in_range, c.len-blocks.ensures.value)) c.requires.asks in
    (lt, subst (All (g.C.Compare.MayAsk c.args.sought.now)) (sym c.entries_of-entries.ensures.value) block)

pub partition_point-offset-requires-clause-rises : goal.partition_point-offset-requires-clause-rises
partition_point-offset-requires-clause-rises g c =
    let order = g.C.Compare.order c.args.sought.now in
    let row = c.args.row.now.blocks in
    let b = c.partition_point-block.result in
    rw c.entries_of-entries.ensures.value (block_rises order c.args.row.now.memory row c.len-blocks.ensures.filled c.requires.ordered b (omega (arith, c.partition_point-block.ensures.point.in_range, c.len-blocks.ensures.value)))

pub compare-requires : goal.compare-requires
compare-requires g c =
    let may = g.C.Compare.MayAsk c.args.sought.now in
    let entries = c.entries_of-entries.result.now in
    let x = c.index-entries-offset.result in
    let all = subst (All may) (sym c.entries_of-entries.ensures.value) (All-block may c.args.row.now.blocks c.partition_point-block.result (omega (arith, c.partition_point-block.ensures.point.in_range, c.len-blocks.ensures.value)) c.requires.asks) in
    let lt : c.partition_point-offset.result - 1 < length entries = omega (arith, c.partition_point-offset.ensures.point.in_range) in
    subst may (sym c.index-entries-offset.is) (all (c.partition_point-offset.result - 1) x lt)

pub returns-in-Equal-clause-found : goal.returns-in-Equal-clause-found
returns-in-Equal-clause-found g c =
    let order = g.C.Compare.order c.args.sought.now in
    let row = c.args.row.now.blocks in
    let b = c.partition_point-block.result in
    let k = c.partition_point-offset.result in
    let some : 0 < length row = omega (arith, c.len-blocks.ensures.value) in
    let blocks = rw c.len-blocks.ensures.value at c.partition_point-block.ensures.point in
    let entries = rw c.entries_of-entries.ensures.value at c.partition_point-offset.ensures.point in
    let in_row = within order c.args.row.now.memory row c.len-blocks.ensures.filled c.requires.ordered b k some blocks entries in
    let joined = point_joined order c.args.row.now.memory row c.len-blocks.ensures.filled c.requires.ordered b k some blocks entries in
    let lt : k - 1 < length (block_at row b) = omega (arith, entries.in_range) in
    let back : start_of row b + k ≡ start_of row b + (k - 1) + 1 = omega arith in
    let x = c.index-entries-offset.result in
    let read = rw c.entries_of-entries.ensures.value at c.index-entries-offset.is in
    let point = subst (IsPartitionPoint (λ i. order_at order (slice_get (line row) i)) (length (line row))) back joined in
    found_at order (line row) (start_of row b + (k - 1)) c.requires.ordered x point
    (λ d. ap order (entry_at_position row b (k - 1) d in_row lt ∙ sym (read_any (block_at row b) (k - 1) x d lt read)) ∙ sym c.compare.ensures.value ∙ c.in-Equal.is)

pub returns-in-Equal-clause-asked : goal.returns-in-Equal-clause-asked
returns-in-Equal-clause-asked g c r few =
    let row = c.args.row.now.blocks in
    let b = c.partition_point-block.result in
    let count = c.len-blocks.ensures.value in
    let within : b < length row = omega (arith, c.partition_point-block.ensures.point.in_range, count) in
    let below : length c.entries_of-entries.result.now ≤ length (line row) = omega (arith, length_parts row b within, ap length c.entries_of-entries.ensures.value) in
    let short : 1 < c.len-blocks.result → length c.entries_of-entries.result.now ≤ 128 = λ many. c.entries_of-entries.ensures.most (omega (arith, many, count)) in
    let spent = few_asked c.len-blocks.result (length c.entries_of-entries.result.now) (length (line row)) r _ _ _ c.partition_point-block.ensures.asked c.partition_point-offset.ensures.asked (omega (arith, within, count)) (omega (arith, count, few_blocks c.args.row.now.memory row c.len-blocks.ensures.filled)) below short few in
    omega (arith, spent, c.compare.ensures.asked)

pub returns-else-offset-gt0-clause-asked : goal.returns-else-offset-gt0-clause-asked
returns-else-offset-gt0-clause-asked g c r few =
    let row = c.args.row.now.blocks in
    let b = c.partition_point-block.result in
    let count = c.len-blocks.ensures.value in
    let within : b < length row = omega (arith, c.partition_point-block.ensures.point.in_range, count) in
    let below : length c.entries_of-entries.result.now ≤ length (line row) = omega (arith, length_parts row b within, ap length c.entries_of-entries.ensures.value) in
    let short : 1 < c.len-blocks.result → length c.entries_of-entries.result.now ≤ 128 = λ many. c.entries_of-entries.ensures.most (omega (arith, many, count)) in
    let spent = few_asked c.len-blocks.result (length c.entries_of-entries.result.now) (length (line row)) r _ _ _ c.partition_point-block.ensures.asked c.partition_point-offset.ensures.asked (omega (arith, within, count)) (omega (arith, count, few_blocks c.args.row.now.memory row c.len-blocks.ensures.filled)) below short few in
    omega (arith, spent)

pub returns-else-offset-gt0-clause-gap : goal.returns-else-offset-gt0-clause-gap
returns-else-offset-gt0-clause-gap g c =
    let order = g.C.Compare.order c.args.sought.now in
    let row = c.args.row.now.blocks in
    let b = c.partition_point-block.result in
    let k = c.partition_point-offset.result in
    let some : 0 < length row = omega (arith, c.len-blocks.ensures.value) in
    let blocks = rw c.len-blocks.ensures.value at c.partition_point-block.ensures.point in
    let entries = rw c.entries_of-entries.ensures.value at c.partition_point-offset.ensures.point in
    let joined = point_joined order c.args.row.now.memory row c.len-blocks.ensures.filled c.requires.ordered b k some blocks entries in
    let none = front order c.args.row.now.memory row c.len-blocks.ensures.filled c.requires.ordered b k some blocks entries (omega arith) in
    gap_at order (line row) (start_of row b + k) c.requires.ordered joined (λ any. absurd (omega (arith, any, none)))

pub returns-in_default : goal.returns-in_default
returns-in_default g c =
    let order = g.C.Compare.order c.args.sought.now in
    let row = c.args.row.now.blocks in
    let b = c.partition_point-block.result in
    let k = c.partition_point-offset.result in
    let some : 0 < length row = omega (arith, c.len-blocks.ensures.value) in
    let blocks = rw c.len-blocks.ensures.value at c.partition_point-block.ensures.point in
    let entries = rw c.entries_of-entries.ensures.value at c.partition_point-offset.ensures.point in
    let in_row = within order c.args.row.now.memory row c.len-blocks.ensures.filled c.requires.ordered b k some blocks entries in
    let joined = point_joined order c.args.row.now.memory row c.len-blocks.ensures.filled c.requires.ordered b k some blocks entries in
    let lt : k - 1 < length (block_at row b) = omega (arith, entries.in_range) in
    let back : start_of row b + k - 1 ≡ start_of row b + (k - 1) = omega arith in
    let x = c.index-entries-offset.result in
    let read = rw c.entries_of-entries.ensures.value at c.index-entries-offset.is in
    record {
      entry = tt;
      found = tt;
      place = record { block = omega (arith, in_row); offset = entries.in_range };
      gap = gap_at order (line row) (start_of row b + k) c.requires.ordered joined (λ any d e. c.in_default.not-Equal (c.compare.ensures.value
          ∙ ap order (read_any (block_at row b) (k - 1) x d lt read ∙ sym (entry_at_position row b (k - 1) d in_row lt) ∙ ap (λ (n : ℕ). get_or (line row) n d) (sym back)) ∙ e));
      filled = c.len-blocks.ensures.filled;
      asked = λ r few.
          let count = c.len-blocks.ensures.value in
          let within : b < length row = omega (arith, c.partition_point-block.ensures.point.in_range, count) in
          let below : length c.entries_of-entries.result.now ≤ length (line row) = omega (arith, length_parts row b within, ap length c.entries_of-entries.ensures.value) in
          let short : 1 < c.len-blocks.result → length c.entries_of-entries.result.now ≤ 128 = λ many. c.entries_of-entries.ensures.most (omega (arith, many, count)) in
          let spent = few_asked c.len-blocks.result (length c.entries_of-entries.result.now) (length (line row)) r _ _ _ c.partition_point-block.ensures.asked c.partition_point-offset.ensures.asked (omega (arith, within, count)) (omega (arith, count, few_blocks c.args.row.now.memory row c.len-blocks.ensures.filled)) below short few in
          omega (arith, spent, c.compare.ensures.asked);
    }
