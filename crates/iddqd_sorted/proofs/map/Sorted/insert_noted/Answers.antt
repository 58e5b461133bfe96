use Rattle.std.proofs.Common.{◌∙◌, ap, arith}
use Rattle.std.specs.Prelude.{slice_index_or}
use Rattle.std.specs.Ordering.{is_eq}
use Rattle.std.proofs.lemmas.List.Sorted.{IsPermutation-insert, IsPermutation-sym}
use Rattle.iddqd_store.specs.Bag.{tests_of, do_conflict}
use Rattle.iddqd_store.proofs.MapLemmas.Places.{none_taken}
use Rattle.iddqd_store.proofs.SlotLemmas.Batch.{StandAt-push}
use Rattle.iddqd_order.specs.Row.{position}
use Rattle.iddqd_sorted.specs.Items.{items, by_sort}
use Rattle.iddqd_sorted.proofs.Finding.{passes_somewhere}
use Rattle.iddqd_sorted.proofs.Flags.{AreAny-none}
use Rattle.iddqd_order.proofs.FilterLemmas.{inserted-split}
use Rattle.iddqd_sorted.proofs.Sorting.{same_key}
use Rattle.iddqd_sorted.proofs.map.Sorted.insert_noted.Goals as goal

-- an item with an equal sort key and an equal first key would conflict
pub unreachable-requires : goal.unreachable-requires
unreachable-requires g c =
    let m = c.args.self.now in
    let x = c.args.item in
    let split = c.in_default.ensures.found in
    let p = position m.blocks c.in_default.field-0 in
    let y = slice_index_or (items m) p x in
    let level = same_key g.M.Item.Sortable.sort_key g.met.M.Item.SortKey.Ord.total g.M.SlotMap.first_key g.met.M.FirstKey.Ord.total y x (split.equal p x (omega arith) (omega arith)) in
    let alike = g.met.M.FirstKey.Ord.matches_eq (g.M.SlotMap.first_key y) (g.M.SlotMap.first_key x) ∙ ap is_eq level in
    let back = g.met.M.FirstKey.Eq.laws.symm (g.M.SlotMap.first_key x) (g.M.SlotMap.first_key y) ∙ alike in
    passes_somewhere (do_conflict g.M.SlotMap.ranks x) (items m) x p c.in-Ok.ensures.free (omega (arith, split.in_range)) (g.met.M.SlotMap.same_first x y back)

pub returns-then-is_err-clause-taken : goal.returns-then-is_err-clause-taken
returns-then-is_err-clause-taken g c =
    let ranks = g.M.SlotMap.ranks in
    let m = c.args.self.now in
    rw (c.reject-then-is_err.ensures.flags, c.none_taken.ensures) (AreAny-none ranks (λ agree. agree c.args.item) (items m) (none_taken (tests_of ranks c.args.item) (items m) c.in-Ok.ensures.free))

pub returns-clause-lists : goal.returns-clause-lists
returns-clause-lists g c =
    let inserted = rw (c.make_room_for.ensures.slots, c.make_room_for.ensures.blocks) at c.insert_into-slot.ensures.inserted in
    inserted ∙ inserted-split (λ y. by_sort g.M.Item.Sortable.sort_key g.M.Item.SortKey.Ord.cmp g.M.SlotMap.first_key g.M.FirstKey.Ord.cmp y c.args.item) (items c.args.self.now) _ c.in-Err-place_of.ensures.gap c.args.item

pub returns-clause-gained : goal.returns-clause-gained
returns-clause-gained g c =
    let inserted = rw (c.make_room_for.ensures.slots, c.make_room_for.ensures.blocks) at c.insert_into-slot.ensures.inserted in
    rw inserted (IsPermutation-sym _ _ (IsPermutation-insert (items c.args.self.now) (position c.args.self.now.blocks c.in-Err-place_of.place) c.args.item))

pub returns-clause-noted : goal.returns-clause-noted
returns-clause-noted g c = λ xs stand.
    rw (c.push.ensures, c.reserve_for.ensures.slots)
    (StandAt-push c.make_room_for.new.self.slots c.insert_into-slot.new.self.slots c.args.batch.now.slots xs c.insert_into-slot.result c.args.item
    c.insert_into-slot.ensures.was_free c.insert_into-slot.ensures.updates
    (rw c.make_room_for.ensures.slots stand))

pub returns-clause-grows_unless : goal.returns-clause-grows_unless
returns-clause-grows_unless g c =
    let made = c.make_room_for.ensures in
    let kept = c.insert_into-slot.ensures.kept in
    record { no_less_room = omega (arith, made.no_less_room, kept.0); same_room = λ spare. kept.0 ∙ made.same_room spare; same_builder = kept.1 ∙ made.builder }

pub returns-then-is_err-clause-grows_unless : goal.returns-then-is_err-clause-grows_unless
returns-then-is_err-clause-grows_unless g c =
    let made = c.make_room_for.ensures in
    record { no_less_room = made.no_less_room; same_room = made.same_room; same_builder = made.builder }
