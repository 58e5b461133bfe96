use Rattle.std.proofs.Common.{◌≡◌, ℕ, ◌+◌, ◌-◌, ◌<◌, length, sym, ap, ◌∙◌, subst, arith}
use Rattle.std.specs.Prelude.{All, slice_index_or}
use Rattle.iddqd_order.specs.Row.{line, block_at, start_of}
use Rattle.iddqd_order.proofs.LineLemmas.{All-block, entry_at_position, start_of-all, start_of-next, read_any}
use Rattle.iddqd_order.proofs.SearchLemmas.{behind_lower}
use Rattle.iddqd_order.proofs.search.behind_last.Goals as goal

pub compare-requires : goal.compare-requires
compare-requires g c =
    let may = g.C.Compare.MayAsk c.args.sought.now in
    let entries = c.entries_of-entries.result.now in
    let all = subst (All may) (sym c.entries_of-entries.ensures.value) (All-block may c.args.row.now.blocks (c.len-blocks.result - 1) (omega (arith, c.len-blocks.ensures.value)) c.requires.asks) in
    let lt : length entries - 1 < length entries = omega (arith, c.entries_of-entries.ensures.some) in
    subst may (sym c.index-entries-len.is) (all (length entries - 1) c.index-entries-len.result lt)

pub returns-in-Less-clause-gap : goal.returns-in-Less-clause-gap
returns-in-Less-clause-gap g c =
    let order = g.C.Compare.order c.args.sought.now in
    let row = c.args.row.now.blocks in
    let b = c.len-blocks.result - 1 in
    let within : b < length row = omega (arith, c.len-blocks.ensures.value) in
    let long = ap length c.entries_of-entries.ensures.value in
    let k = length (block_at row b) - 1 in
    let lt : k < length (block_at row b) = omega (arith, long, c.entries_of-entries.ensures.some) in
    let x = c.index-entries-len.result in
    let read = rw c.entries_of-entries.ensures.value at c.index-entries-len.is in
    let last : start_of row b + length c.entries_of-entries.result.now ≡ length (line row) =
    omega (arith, long, start_of-next row b within, start_of-all row (b + 1) (omega (arith, c.len-blocks.ensures.value))) in
    let here : start_of row b + k ≡ length (line row) - 1 = omega (arith, last, c.entries_of-entries.ensures.some) in
    behind_lower order (line row) c.requires.ordered (start_of row b + length c.entries_of-entries.result.now) last
    (λ d. ap order (ap (λ (n : ℕ). slice_index_or (line row) n d) (sym here) ∙ entry_at_position row b k d within lt ∙ sym (read_any (block_at row b) k x d lt read)) ∙ sym c.compare.ensures.value ∙ c.in-Less.is)

-- if the end were the place, the last entry would be lower
pub returns-in_default : goal.returns-in_default
returns-in_default g c =
    let order = g.C.Compare.order c.args.sought.now in
    let row = c.args.row.now.blocks in
    let b = c.len-blocks.result - 1 in
    let within : b < length row = omega (arith, c.len-blocks.ensures.value) in
    let long = ap length c.entries_of-entries.ensures.value in
    let k = length (block_at row b) - 1 in
    let lt : k < length (block_at row b) = omega (arith, long, c.entries_of-entries.ensures.some) in
    let x = c.index-entries-len.result in
    let read = rw c.entries_of-entries.ensures.value at c.index-entries-len.is in
    let last : start_of row b + length c.entries_of-entries.result.now ≡ length (line row) =
    omega (arith, long, start_of-next row b within, start_of-all row (b + 1) (omega (arith, c.len-blocks.ensures.value))) in
    let here : start_of row b + k ≡ length (line row) - 1 = omega (arith, last, c.entries_of-entries.ensures.some) in
    let is_last : slice_index_or (line row) (length (line row) - 1) x ≡ x =
    ap (λ (n : ℕ). slice_index_or (line row) n x) (sym here) ∙ entry_at_position row b k x within lt ∙ sym (read_any (block_at row b) k x x lt read) in
    record {
      place = tt;
      gap = tt;
      none = λ some split. c.in_default.not-Less (c.compare.ensures.value ∙ ap order (sym is_last) ∙ split.below (length (line row) - 1) x (omega (arith, some)));
      asked = omega (arith, c.compare.ensures.asked);
    }
