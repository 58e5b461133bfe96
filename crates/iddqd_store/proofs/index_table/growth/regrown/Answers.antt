use Rattle.std.proofs.Common.{arith, rules, ℕ, ◌≡◌, [], Option, replicate, None, sym, ap, ◌∙◌}
use Rattle.std.specs.Int.{from_bool}
use Rattle.std.specs.Prelude.{is_some}
use Rattle.std.proofs.lemmas.List.Sorted.{length_permutation}
use Rattle.std.proofs.lemmas.List.{length-set, length-replicate}
use Rattle.iddqd_store.specs.Slots.{contents}
use Rattle.iddqd_store.specs.Table.Ring.{cell}
use Rattle.iddqd_store.proofs.TableLemmas.Chunk.{chunk_next}
use Rattle.iddqd_store.proofs.TableLemmas.Grow.{front_none, front_all}
use Rattle.iddqd_store.proofs.TableLemmas.Limits.{held_items-empty}
use Rattle.iddqd_store.proofs.TableLemmas.Regrow.{chunk_copied, copied_probes}
use Rattle.iddqd_store.proofs.index_table.growth.regrown.Goals as goal

pub loop-from-init : goal.loop-from-init
loop-from-init c =
    let pairs : contents (replicate {A = Option (ℕ × ℕ)} c.args.spare None) ≡ [] = held_items-empty c.args.spare in
    rw c.into_cells-grown.ensures (record {
      front = front_none c.args.cells.now c.args.spare c.requires.size;
      within = omega arith;
      size = length-replicate c.args.spare None ∙ sym c.len-count.ensures;
      room = search rules;
      probed = rw pairs (omega arith);
    })

pub loop-i-preserved : goal.loop-i-preserved
loop-i-preserved c =
    let i = c.loop-i.invariant in
    let some = i.chunk.some in
    let test = c.loop-i-test.true in
    let to = c.min.ensures in
    let len = c.len.ensures in
    let room = c.loop-i.invariant.room in
    let n : c.from-full.result ≡ from_bool (is_some (cell c.args.cells.now c.loop-i.i)) = c.from-full.ensures ∙ ap from_bool (c.is_some.ensures ∙ ap is_some c.cell_at.ensures.value) in
    record {
      chunk = rw n (chunk_next c.args.cells.now c.loop-from.from c.loop-i.i c.loop-i.places c.loop-i.full (omega (arith, test, to, len)) (omega (arith, room, some, test, to)) i.chunk);
      room = length-set c.loop-i.places c.loop-i.full c.loop-i.i ∙ room;
      probed = let probed = i.probed in omega (arith, probed, c.cell_at.ensures.probe);
    }

pub loop-k-preserved : goal.loop-k-preserved
loop-k-preserved c =
    let i = c.loop-k.invariant in
    let chunk = c.loop-i.invariant in
    let is = sym c.cell_at-in-loop-k.ensures.value ∙ c.in-Some.is in
    let copied = chunk_copied _ _ (omega (arith, chunk.room, chunk.chunk.some)) chunk.chunk c.loop-k-test.true is c.requires.fits c.requires.counted
    (i.size ∙ c.len-count.ensures) (rw i.size c.home_of.ensures) c.first_empty_from-at.ensures.first_empty i.front i.probed c.cell_at-in-loop-k.ensures.probe
    c.first_empty_from-at.ensures.probes in
    rw c.copy_cell.ensures (record { front = copied.0; size = copied.1 ∙ sym c.len-count.ensures; probed = copied.2 })

pub invariant_of-result : goal.invariant_of-result
invariant_of-result c =
    let i = c.loop-from.invariant in
    let all = front_all c.args.cells.now c.loop-from.grown c.loop-from.from (omega (arith, c.loop-from-test.false, c.len.ensures)) i.front in
    (i.front.table, c.requires.counted ∙ sym (length_permutation _ _ all))

pub returns-clause-probes : goal.returns-clause-probes
returns-clause-probes c =
    let i = c.loop-from.invariant in
    copied_probes _ (omega (arith, c.loop-from-test.false, c.len.ensures)) i.within i.front c.requires.counted i.probed
