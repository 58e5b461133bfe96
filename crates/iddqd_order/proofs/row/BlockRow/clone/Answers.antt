use Rattle.std.proofs.Common.{◌≡◌, ℕ, ◌+◌, ◌*◌, ◌<◌, ◌≤◌, List, [], ◌∷◌, length, ap, sym, subst, ◌∙◌, arith}
use Rattle.std.specs.List.{AllZip}
use Rattle.std.proofs.lemmas.List.{length-append, take_all}
use Rattle.std.proofs.lemmas.List.Elements.{All-nil, All-cons, All-append, length_all_zip}
use Rattle.iddqd_order.specs.Row.{BlockValue, RowValue, entry_lists, line, block_at, IsHeld, IsSpare, IsRow}
use Rattle.iddqd_order.proofs.LineLemmas.{block_read, length-entry_lists, IsRow-held}
use Rattle.iddqd_order.proofs.CloneLemmas.{block_cloned, row_fits}
use Rattle.iddqd_order.proofs.row.BlockRow.clone.Goals as goal

pub loop-block-init : goal.loop-block-init
loop-block-init g c = record {
  cloned = rw c.in_ok-blocks.ensures.items tt;
  held = rw c.in_ok-blocks.ensures.items (All-nil (IsHeld {E = g.row.E.Denot} c.args.memory));
  count = ap length c.in_ok-blocks.ensures.items;
  room = omega (arith, c.in_ok-blocks.ensures.capacity, c.len.ensures, ap length c.as_slice-block-items.ensures.value);
}

pub loop-block-preserved : goal.loop-block-preserved
loop-block-preserved g c =
    let all = c.as_slice-block-items.result.now in
    let i = c.loop-block.block-index in
    let made = c.loop-block.blocks.items in
    let block = c.block-item.result in
    let copy = c.in_ok-copy.copy in
    let memory = c.args.memory in
    let within : i < length (entry_lists all) = omega (arith, length-entry_lists all) in
    let read : block.entries ≡ block_at (entry_lists all) i = block_read all i block (omega arith) c.block-item.is in
    let same : entry_lists all ≡ c.args.self.now.blocks = ap entry_lists c.as_slice-block-items.ensures.value ∙ ap (λ (r : RowValue g.row.E.Denot). r.blocks) c.self.view_is in
    let fits : IsRow memory (entry_lists all) = subst (λ (q : List (List g.row.E.Denot)). IsRow memory q) (sym same) c.requires.fits in
    let filled = fits i within in
    let long = length_all_zip g.E.Clone.is_clone block.entries copy.entries c.in_ok-copy.ensures.entries in
    let here : AllZip g.E.Clone.is_clone (block_at (entry_lists all) i) copy.entries = subst (λ (q : List g.row.E.Denot). AllZip g.E.Clone.is_clone q copy.entries) read c.in_ok-copy.ensures.entries in
    let stays : IsHeld memory copy = record {
      room = c.in_ok-copy.ensures.room;
      some = omega (arith, filled.some, long, ap length read);
      most = omega (arith, filled.most, long, ap length read);
    } in
    record {
      cloned = rw c.push_reserved.ensures.items (block_cloned g.E.Clone.is_clone (entry_lists all) i made copy within c.loop-block.invariant.cloned here);
      held = rw c.push_reserved.ensures.items (All-append (IsHeld memory) made (copy ∷ []) c.loop-block.invariant.held (All-cons (IsHeld memory) copy [] stays (All-nil (IsHeld memory))));
      count = omega (arith, ap length c.push_reserved.ensures.items, length-append made (copy ∷ []), c.loop-block.invariant.count);
      room = omega (arith, c.push_reserved.ensures.capacity, c.loop-block.invariant.room);
    }

pub invariant_of-result : goal.invariant_of-result
invariant_of-result g c =
    let all = c.as_slice-block-items.result.now in
    let items = c.loop-block.blocks.items in
    let spare = c.in_ok-with_capacity.field-0.items in
    let none : length spare ≡ 0 = ap length c.in_ok-with_capacity.ensures.items in
    let same : length all ≡ length c.args.self.now.blocks = sym (length-entry_lists all) ∙ ap (λ (q : List (BlockValue g.row.E.Denot)). length (entry_lists q)) c.as_slice-block-items.ensures.value ∙ ap (λ (r : RowValue g.row.E.Denot). length r.blocks) c.self.view_is in
    let most : c.self.inside.most ≡ c.args.self.now.most = ap (λ (r : RowValue g.row.E.Denot). r.most) c.self.view_is in
    record {
      held = c.loop-block.invariant.held;
      unused = rw c.in_ok-with_capacity.ensures.items (All-nil (IsSpare {E = g.row.E.Denot} c.args.memory));
      row_fits = omega (arith, none, c.loop-block.invariant.count, c.loop-block.invariant.room);
      spare_fits = omega (arith, none, c.in_ok-with_capacity.ensures.capacity, c.len-2.ensures);
      few = λ less. omega (arith, none, same, c.loop-block.invariant.count, c.requires.few (omega (arith, less, most)));
      memory_most = omega (arith, most, c.requires.most);
      least = c.requires.least;
      low = c.self.invariant.low;
      high = λ wide. omega (arith, none, c.loop-block.invariant.count, ap length c.as_slice-block-items.ensures.value, c.self.invariant.high wide);
    }

pub returns-clause-entries : goal.returns-clause-entries
returns-clause-entries g c =
    let all = c.as_slice-block-items.result.now in
    let i = c.loop-block.block-index in
    let whole = take_all i (entry_lists all) (omega (arith, length-entry_lists all)) in
    let same : entry_lists all ≡ c.args.self.now.blocks = ap entry_lists c.as_slice-block-items.ensures.value ∙ ap (λ (r : RowValue g.row.E.Denot). r.blocks) c.self.view_is in
    subst (λ (q : List (List g.row.E.Denot)). AllZip g.E.Clone.is_clone (line q) (line (entry_lists c.loop-block.blocks.items))) (whole ∙ same) c.loop-block.invariant.cloned

pub returns-clause-held : goal.returns-clause-held
returns-clause-held g c =
    let items = c.loop-block.blocks.items in
    let memory = c.args.memory in
    let sum : length (entry_lists items) ≡ length (entry_lists items) + length c.in_ok-with_capacity.field-0.items = omega (arith, ap length c.in_ok-with_capacity.ensures.items) in
    subst (λ (n : ℕ). length (line (entry_lists items)) ≤ memory * n) sum (row_fits memory (entry_lists items) (IsRow-held memory items c.loop-block.invariant.held))
