use Rattle.std.proofs.Common.{◌≡◌, sym, ap, ◌∙◌, subst, length, arith}
use Rattle.std.specs.List.{each_same}
use Rattle.std.specs.Prelude.{List}
use Rattle.std.proofs.lemmas.List.Sorted.{Contains-permutation}
use Rattle.iddqd_store.specs.Slots.{contents}
use Rattle.iddqd_order.specs.Row.{line}
use Rattle.iddqd_sorted.specs.declared.entry.Entry.{Entry}
use Rattle.iddqd_sorted.specs.Entries.{IsListed, items_in}
use Rattle.iddqd_sorted.specs.Items.{by_sort}
use Rattle.iddqd_sorted.proofs.Cloning.{IsListed-cloned, items-cloned, one_place}
use Rattle.iddqd_sorted.proofs.Listed.{IsPermutation-listed, counted-items, long}
use Rattle.iddqd_sorted.proofs.Sorting.{total}
use Rattle.iddqd_sorted.proofs.map.Sorted.clone.Goals as goal

pub clone-requires-clause-same_keys : goal.clone-requires-clause-same_keys
clone-requires-clause-same_keys g c = λ x d there cloned.
    (let o = total g.M.Item.Sortable.sort_key g.met.M.Item.SortKey.Ord.total g.M.SlotMap.first_key g.met.M.FirstKey.Ord.total in
    let slots = (g.M.SlotMap.shown c.self.inside.map).slots in
    let es = line c.self.inside.order.blocks in
    let keys = rw (← c.self.view_is) at c.requires.same_keys in
    keys x d (Contains-permutation (contents slots) (items_in slots es) x (IsPermutation-listed o g.M.Item.Sortable.sort_key slots es c.self.invariant) there) cloned)

-- the entries are the same
same_entries : (g : _) (c : goal.In_ok-clone g) → line c.in_ok-clone.field-0.blocks ≡ line c.self.inside.order.blocks
same_entries g c = each_same (line c.self.inside.order.blocks) (line c.in_ok-clone.field-0.blocks) c.in_ok-clone.ensures.entries

pub invariant_of-result : goal.invariant_of-result
invariant_of-result g c =
    let sort = g.M.Item.Sortable.sort_key in
    let key = g.M.SlotMap.first_key in
    let o = total sort g.met.M.Item.SortKey.Ord.total key g.met.M.FirstKey.Ord.total in
    let slots = (g.M.SlotMap.shown c.self.inside.map).slots in
    let es = line c.self.inside.order.blocks in
    let sorted = rw (← c.self.view_is) at c.requires.same_sort_key in
    let first = rw (← c.self.view_is) at c.requires.same_first_key in
    let made = IsListed-cloned g.M.Item.Clone.is_clone slots (g.M.SlotMap.shown c.in_ok-map.map).slots c.in_ok-map.ensures.slots o sort es c.self.invariant
    (λ x d there cloned. one_place sort g.met.M.Item.SortKey.Ord.total key g.M.FirstKey.Ord.cmp x d (sorted x d there cloned) (sym (g.met.M.FirstKey.Ord.matches_eq (key x) (key d)) ∙ first x d there cloned))
    sorted in
    subst (λ (q : List (Entry g.row.M-Item-SortKey.Denot)). IsListed (by_sort sort g.M.Item.SortKey.Ord.cmp key g.M.FirstKey.Ord.cmp) sort g.M.Item.SortKey.Ord.cmp (g.M.SlotMap.shown c.in_ok-map.map).slots q) (sym (same_entries g c)) made

pub returns-clause-items : goal.returns-clause-items
returns-clause-items g c =
    let slots = (g.M.SlotMap.shown c.self.inside.map).slots in
    rw (← c.self.view_is, same_entries g c) (items-cloned g.M.Item.Clone.is_clone slots (g.M.SlotMap.shown c.in_ok-map.map).slots c.in_ok-map.ensures.slots (line c.self.inside.order.blocks) c.self.invariant.live)

pub returns-clause-fits : goal.returns-clause-fits
returns-clause-fits g c =
    let sort = g.M.Item.Sortable.sort_key in
    let o = total sort g.met.M.Item.SortKey.Ord.total g.M.SlotMap.first_key g.met.M.FirstKey.Ord.total in
    let copies = (g.M.SlotMap.shown c.in_ok-map.map).slots in
    let es = line c.in_ok-clone.field-0.blocks in
    let made = invariant_of-result g c in
    omega (arith, ap length (same_entries g c), long o sort copies es made, counted-items o sort copies es made, c.in_ok-map.ensures.fits, c.in_ok-clone.ensures.capacity)

pub returns-clause-capacity : goal.returns-clause-capacity
returns-clause-capacity g c =
    let sort = g.M.Item.Sortable.sort_key in
    let o = total sort g.met.M.Item.SortKey.Ord.total g.M.SlotMap.first_key g.met.M.FirstKey.Ord.total in
    let copies = (g.M.SlotMap.shown c.in_ok-map.map).slots in
    let es = line c.in_ok-clone.field-0.blocks in
    let made = invariant_of-result g c in
    let old = long o sort (g.M.SlotMap.shown c.self.inside.map).slots (line c.self.inside.order.blocks) c.self.invariant in
    rw (← c.self.view_is) (omega (arith, ap length (same_entries g c), old, long o sort copies es made, counted-items o sort copies es made, c.in_ok-map.ensures.fits, c.in_ok-clone.ensures.capacity))
