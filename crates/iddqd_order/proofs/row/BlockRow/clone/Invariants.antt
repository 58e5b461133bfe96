use Rattle.std.proofs.Common.{◌≡◌, ◌≤◌, length, take, All}
use Rattle.std.specs.Prelude.{vec_capacity}
use Rattle.std.specs.List.{AllZip}
use Rattle.iddqd_order.specs.Row.{entry_lists, line, IsHeld}
use Rattle.iddqd_order.proofs.row.BlockRow.clone.Given as goal

-- the first of the blocks are cloned
abbrev pub invariant-loop-block : goal.invariant-loop-block
invariant-loop-block g l = record {
  cloned : AllZip g.E.Clone.is_clone (line (take l.block-index (entry_lists l.block-items))) (line (entry_lists l.blocks.items));
  held : All (IsHeld l.fn.memory) l.blocks.items;
  count : length l.blocks.items ≡ l.block-index;
  room : length l.block-items ≤ vec_capacity l.blocks;
}
