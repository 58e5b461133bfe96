use Rattle.std.proofs.Common.{◌≡◌, ◌∙◌, [], None, sym, ap, subst, arith}
use Rattle.std.specs.Prelude.{filter}
use Rattle.std.specs.Option.{option_to_list}
use Rattle.iddqd_store.specs.Bag.{agrees}
use Rattle.iddqd_store.specs.Slots.{get}
use Rattle.iddqd_store.proofs.BagLemmas.Same.{agrees-symm}
use Rattle.iddqd_store.proofs.BagLemmas.Unique.{any_listed, some_item}
use Rattle.iddqd_order.specs.Row.{line}
use Rattle.iddqd_sorted.specs.Items.{SortedValue, items, bag, by_sort, with_item}
use Rattle.iddqd_sorted.proofs.Costs.{SearchesFirst-room}
use Rattle.iddqd_sorted.proofs.Finding.{IsOnly-permutation, only_passes, remove-only}
use Rattle.iddqd_sorted.proofs.Listed.{IsPermutation-listed}
use Rattle.iddqd_sorted.proofs.Sorting.{total}
use Rattle.iddqd_sorted.proofs.map.Sorted.replace_counted.Goals as goal

pub exchange-requires-clause-same_keys : goal.exchange-requires-clause-same_keys
exchange-requires-clause-same_keys g c = λ x there.
    (let test = agrees g.M.SlotMap.ranks c.args.item in
    let found = subst (λ (n : SortedValue g.row.M-Item.Denot g.row.M-Item-SortKey.Denot g.row.M-Builder.Denot). option_to_list (get n.slots c.in-Some.slot) ≡ filter test (bag n)) c.self.view_is c.in-Some.ensures.found.only in
    agrees-symm g.M.SlotMap.ranks g.met.M.SlotMap.lawful x c.args.item ∙ only_passes test (bag c.args.self.now) x (ap option_to_list (sym there) ∙ found))

pub returns-in-Some-clause-replaced : goal.returns-in-Some-clause-replaced
returns-in-Some-clause-replaced g c =
    let m = c.args.self.now in
    let test = agrees g.M.SlotMap.ranks c.args.item in
    let same = IsPermutation-listed (total g.M.Item.Sortable.sort_key g.met.M.Item.SortKey.Ord.total g.M.SlotMap.first_key g.met.M.FirstKey.Ord.total) g.M.Item.Sortable.sort_key (g.M.SlotMap.shown c.self.inside.map).slots (line c.self.inside.order.blocks) c.self.invariant in
    let found = IsOnly-permutation test _ _ same _ c.in-Some.ensures.found.only in
    let listed = subst (λ (n : SortedValue g.row.M-Item.Denot g.row.M-Item-SortKey.Denot g.row.M-Builder.Denot). option_to_list (get n.slots c.in-Some.slot) ≡ filter test (items n)) c.self.view_is found in
    ap option_to_list (sym c.exchange.ensures.value) ∙ listed

pub returns-in-Some-clause-replaces : goal.returns-in-Some-clause-replaces
returns-in-Some-clause-replaces g c =
    let m = c.args.self.now in
    let x = c.args.item in
    let test = agrees g.M.SlotMap.ranks x in
    let old = c.exchange.result in
    let only = returns-in-Some-clause-replaced g c in
    let puts = c.exchange.ensures.puts in
    let left = remove-only test (items m) old puts.0 only puts.1 (ap test (sym (puts.2 old)) ∙ only_passes test (items m) old only) in
    record {
      lists = puts.3 ∙ ap (λ l. with_item (by_sort g.M.Item.Sortable.sort_key g.M.Item.SortKey.Ord.cmp g.M.SlotMap.first_key g.M.FirstKey.Ord.cmp) l x) left;
      same_room = c.exchange.ensures.capacity;
      same_builder = c.exchange.ensures.builder;
    }

pub returns-in-None-clause-reason : goal.returns-in-None-clause-reason
returns-in-None-clause-reason g c =
    let m = c.args.self.now in
    let test = agrees g.M.SlotMap.ranks c.args.item in
    let same = IsPermutation-listed (total g.M.Item.Sortable.sort_key g.met.M.Item.SortKey.Ord.total g.M.SlotMap.first_key g.met.M.FirstKey.Ord.total) g.M.Item.Sortable.sort_key (g.M.SlotMap.shown c.self.inside.map).slots (line c.self.inside.order.blocks) c.self.invariant in
    let none = IsOnly-permutation test _ _ same None c.in-None.ensures.found.only in
    let listed = subst (λ (n : SortedValue g.row.M-Item.Denot g.row.M-Item-SortKey.Denot g.row.M-Builder.Denot). [] ≡ filter test (items n)) c.self.view_is none in
    any_listed test (items m) ∙ ap some_item (sym listed)

pub returns-in-Some-clause-costs : goal.returns-in-Some-clause-costs
returns-in-Some-clause-costs g c = rw (← c.self.view_is) (SearchesFirst-room _ _ (g.M.SlotMap.shown c.self.inside.map).capacity (omega arith) _ _ _ _ c.slot_of_all.ensures.costs)

pub returns-in-None-clause-costs : goal.returns-in-None-clause-costs
returns-in-None-clause-costs g c = rw (← c.self.view_is) (SearchesFirst-room _ _ (g.M.SlotMap.shown c.self.inside.map).capacity (omega arith) _ _ _ _ c.slot_of_all.ensures.costs)
