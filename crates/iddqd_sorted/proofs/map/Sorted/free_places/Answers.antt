use Rattle.std.proofs.Common.{map, arith}
use Rattle.std.specs.Prelude.{is_some}
use Rattle.std.proofs.lemmas.List.Sorted.{IsPermutation-sym}
use Rattle.std.proofs.lemmas.Result.{IfErr-weaker, on_ok_weaker}
use Rattle.iddqd_store.specs.Bag.{tests_of, do_conflict}
use Rattle.iddqd_order.specs.Row.{line}
use Rattle.iddqd_sorted.proofs.Costs.{SearchesEach-room}
use Rattle.iddqd_sorted.proofs.Finding.{none-permutation}
use Rattle.iddqd_sorted.proofs.Flags.{AreAny-permutation, AreAny-found, free-none}
use Rattle.iddqd_sorted.proofs.Listed.{IsPermutation-listed}
use Rattle.iddqd_sorted.proofs.Overwriting.{few_found, listing-few}
use Rattle.iddqd_sorted.proofs.Sorting.{total}
use Rattle.iddqd_sorted.proofs.map.Sorted.free_places.Goals as goal

pub returns-clause-free : goal.returns-clause-free
returns-clause-free g c =
    let same = IsPermutation-listed (total g.M.Item.Sortable.sort_key g.met.M.Item.SortKey.Ord.total g.M.SlotMap.first_key g.met.M.FirstKey.Ord.total) g.M.Item.Sortable.sort_key (g.M.SlotMap.shown c.self.inside.map).slots (line c.self.inside.order.blocks) c.self.invariant in
    rw (← c.self.view_is) (on_ok_weaker c.places.result (none-permutation (do_conflict g.M.SlotMap.ranks c.args.item.now) _ _ same) c.places.ensures.free)

pub returns-clause-finds : goal.returns-clause-finds
returns-clause-finds g c =
    let ranks = g.M.SlotMap.ranks in
    let x = c.args.item.now in
    let slots = (g.M.SlotMap.shown c.self.inside.map).slots in
    let same = IsPermutation-listed (total g.M.Item.Sortable.sort_key g.met.M.Item.SortKey.Ord.total g.M.SlotMap.first_key g.met.M.FirstKey.Ord.total) g.M.Item.Sortable.sort_key slots (line c.self.inside.order.blocks) c.self.invariant in
    let tests = tests_of ranks x in
    rw (← c.self.view_is) (IfErr-weaker c.places.result _ _
    (λ found finds.
    let any = AreAny-found tests _ (g.M.SlotMap.searched found) finds.found in
    record {
      taken = AreAny-permutation (map (λ at. is_some at.slot) (g.M.SlotMap.searched found)) tests _ _ same any;
      some = λ none. finds.conflict.some (free-none ranks x _ _ any none);
      conflict = λ none. finds.conflict.some (none-permutation (do_conflict ranks x) _ _ (IsPermutation-sym _ _ same) none);
      stand = finds.conflict.found;
      same_conflicts = listing-few tests _ _ (few_found tests slots (map (λ at. at.slot) (g.M.SlotMap.searched found)) finds.found) same;
      hashes = finds.hashes;
      hashed = finds.hashed;
    })
    c.places.ensures.conflicts)

pub returns-clause-costs : goal.returns-clause-costs
returns-clause-costs g c = rw (← c.self.view_is) (SearchesEach-room _ _ (g.M.SlotMap.shown c.self.inside.map).capacity (omega arith) _ _ _ _ c.places.ensures.costs)

pub returns-clause-listed : goal.returns-clause-listed
returns-clause-listed g c =
    rw (← c.self.view_is) (IsPermutation-listed (total g.M.Item.Sortable.sort_key g.met.M.Item.SortKey.Ord.total g.M.SlotMap.first_key g.met.M.FirstKey.Ord.total) g.M.Item.Sortable.sort_key (g.M.SlotMap.shown c.self.inside.map).slots (line c.self.inside.order.blocks) c.self.invariant)
