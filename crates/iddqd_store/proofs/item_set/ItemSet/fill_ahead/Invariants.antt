use Rattle.std.proofs.Common.{◌≡◌, ◌≤◌, length}
use Rattle.iddqd_store.specs.Rank.{key_hash}
use Rattle.iddqd_store.proofs.RankLemmas.Fill.{IsFillingAhead}
use Rattle.iddqd_store.proofs.item_set.ItemSet.fill_ahead.Given as goal

abbrev pub invariant-loop-index : goal.invariant-loop-index
invariant-loop-index g l = record {
  filling : IsFillingAhead (key_hash g.R.KeyOf.key g.R.Key.Hash.hash_input g.S.BuildHasher g.S.Hasher.Hasher l.hash_builder) l.self.slots l.index l.number l.table.pairs;
  few : l.number ≤ l.index;
  cells : length l.table.row ≡ length l.fn.table.row;
  limit : l.table.limit ≡ l.fn.table.limit;
}
