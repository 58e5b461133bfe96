use Rattle.std.proofs.Common.{◌∙◌, ap, arith, length}
use Rattle.std.specs.Prelude.{slice_index_or}
use Rattle.std.proofs.lemmas.List.Edits.{length-insert}
use Rattle.std.specs.Ordering.{is_eq}
use Rattle.std.proofs.lemmas.List.Sorted.{IsPermutation-insert, IsPermutation-sym}
use Rattle.iddqd_store.specs.Bag.{do_conflict}
use Rattle.iddqd_order.specs.Row.{position}
use Rattle.iddqd_sorted.specs.Items.{SortedValue, items, by_sort}
use Rattle.iddqd_sorted.proofs.Finding.{passes_somewhere}
use Rattle.iddqd_order.proofs.FilterLemmas.{inserted-split}
use Rattle.iddqd_sorted.proofs.Sorting.{same_key}
use Rattle.iddqd_sorted.proofs.map.Sorted.insert_free.Goals as goal

-- an item with an equal sort key and an equal first key would conflict
pub unreachable-requires : goal.unreachable-requires
unreachable-requires g c =
    let m = c.args.self.now in
    let x = c.args.item in
    let split = c.in_default.ensures.found in
    let p = position m.blocks c.in_default.field-0 in
    let y = slice_index_or (items m) p x in
    let level = same_key g.M.Item.Sortable.sort_key g.met.M.Item.SortKey.Ord.total g.M.SlotMap.first_key g.met.M.FirstKey.Ord.total y x (split.equal p x (omega arith) (omega arith)) in
    let alike = g.met.M.FirstKey.Ord.matches_eq (g.M.SlotMap.first_key y) (g.M.SlotMap.first_key x) ∙ ap is_eq level in
    let back = g.met.M.FirstKey.Eq.laws.symm (g.M.SlotMap.first_key x) (g.M.SlotMap.first_key y) ∙ alike in
    passes_somewhere (do_conflict g.M.SlotMap.ranks x) (items m) x p c.requires.free (omega (arith, split.in_range)) (g.met.M.SlotMap.same_first x y back)

pub returns-clause-gains : goal.returns-clause-gains
returns-clause-gains g c =
    let m = c.args.self.now in
    let inserted = rw (c.make_room.ensures.slots, c.make_room.ensures.blocks) at c.insert_into.ensures.inserted in
    record {
      lists = inserted ∙ inserted-split (λ y. by_sort g.M.Item.Sortable.sort_key g.M.Item.SortKey.Ord.cmp g.M.SlotMap.first_key g.M.FirstKey.Ord.cmp y c.args.item) (items m) _ c.in-Err.ensures.gap c.args.item;
      more = omega (arith, ap length inserted, length-insert (items m) (position m.blocks c.in-Err.place) c.args.item (omega (arith, c.in-Err.ensures.gap.in_range)));
      most = omega (arith, c.insert_into.ensures.kept.0, c.make_room.ensures.most);
      no_less_room = omega (arith, c.insert_into.ensures.kept.0, c.make_room.ensures.no_less_room);
      same_room = λ room. c.insert_into.ensures.kept.0 ∙ ap (λ (n : SortedValue g.row.M-Item.Denot g.row.M-Item-SortKey.Denot g.row.M-Builder.Denot). n.capacity) (c.make_room.ensures.same_room room);
      fits = c.insert_into.ensures.fits;
      same_builder = c.insert_into.ensures.kept.1 ∙ c.make_room.ensures.builder;
    }

pub returns-clause-gained : goal.returns-clause-gained
returns-clause-gained g c =
    let inserted = rw (c.make_room.ensures.slots, c.make_room.ensures.blocks) at c.insert_into.ensures.inserted in
    rw inserted (IsPermutation-sym _ _ (IsPermutation-insert (items c.args.self.now) (position c.args.self.now.blocks c.in-Err.place) c.args.item))

pub returns-clause-probed : goal.returns-clause-probed
returns-clause-probed g c = rw c.make_room.ensures.slots at c.insert_into.ensures.probed
