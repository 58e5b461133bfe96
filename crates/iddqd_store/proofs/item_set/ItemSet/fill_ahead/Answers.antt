use Rattle.std.proofs.Common.{arith, ◌<◌, ◌∙◌, length, refl, sym, ap}
use Rattle.std.specs.Option.{option_copied}
use Rattle.iddqd_store.specs.Rank.{key_hash}
use Rattle.iddqd_store.specs.Map.{hash_of}
use Rattle.iddqd_store.proofs.RankLemmas.Fill.{IsFillingAhead-start, IsFillingAhead-skip, IsFillingAhead-insert, IsFillingAhead-room}
use Rattle.iddqd_store.proofs.item_set.ItemSet.fill_ahead.Goals as goal
use Rattle.iddqd_store.proofs.item_set.ItemSet.fill_ahead.Goals.{in-Some, in_default}

pub insert_reserved-requires : goal.insert_reserved-requires
insert_reserved-requires g c =
    let slots = c.args.self.now.slots in
    let i = c.loop-index.invariant in
    let within : c.loop-index.index < length slots = omega arith in
    let found = rw c.new.ensures at (sym c.get.ensures ∙ ap option_copied c.in-Some.is) in
    let room = IsFillingAhead-room (key_hash g.R.KeyOf.key g.R.Key.Hash.hash_input g.S.BuildHasher g.S.Hasher.Hasher c.args.hash_builder.now) slots
    c.loop-index.index c.loop-index.number c.in-Some.item.now c.loop-index.table.pairs within found i.filling in
    rw i.limit (omega (arith, room, c.requires.room))

pub loop-index-preserved : goal.loop-index-preserved
loop-index-preserved g c =
    let slots = c.args.self.now.slots in
    let hash = key_hash g.R.KeyOf.key g.R.Key.Hash.hash_input g.S.BuildHasher g.S.Hasher.Hasher c.args.hash_builder.now in
    let writes = hash_of g.S.BuildHasher g.S.Hasher.Hasher c.args.hash_builder.now in
    let at = c.loop-index.index in
    let number = c.loop-index.number in
    let i = c.loop-index.invariant in
    let within : at < length slots = omega arith in
    elim c.match-get.branch [
      | in-Some w ↦
          let found = rw c.new.ensures at (sym c.get.ensures ∙ ap option_copied w.in-Some.is) in
          record {
            filling = rw (w.table-is, w.number-is) (IsFillingAhead-insert hash slots at number w.in-Some.item.now w.hash_one-hash.result c.loop-index.table.pairs _ within found
                (w.hash_one-hash.ensures ∙ ap (λ k. writes (g.R.Key.Hash.hash_input k)) w.key.ensures)
                (rw w.new-in-Some.ensures at w.insert_reserved.ensures.added) i.filling);
            few = rw w.number-is (omega (arith, i.few));
            cells = rw w.table-is (w.insert_reserved.ensures.cells ∙ i.cells);
            limit = rw w.table-is (w.insert_reserved.ensures.limit ∙ i.limit);
          }
      | in_default w ↦
          let found = rw c.new.ensures at (sym c.get.ensures ∙ ap option_copied w.in_default.is) in
          record {
            filling = rw (w.table-is, w.number-is) (IsFillingAhead-skip hash slots at number c.loop-index.table.pairs within found i.filling);
            few = rw w.number-is (omega (arith, i.few));
            cells = rw w.table-is i.cells;
            limit = rw w.table-is i.limit;
          }
    ]

pub loop-index-init : goal.loop-index-init
loop-index-init g c =
    let hash = key_hash g.R.KeyOf.key g.R.Key.Hash.hash_input g.S.BuildHasher g.S.Hasher.Hasher c.args.hash_builder.now in
    record { filling = rw c.requires.empty (IsFillingAhead-start hash c.args.self.now.slots); few = omega arith; cells = refl; limit = refl }
