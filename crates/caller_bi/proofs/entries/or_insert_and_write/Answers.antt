use Rattle.std.proofs.Common.{ap, refl, sym, ◌∙◌}
use Rattle.std.proofs.Common.{subst}
use Rattle.std.specs.Prelude.{IfSome, IsPermutation}
use Rattle.iddqd_bi.specs.Bag.{entry, swap}
use Rattle.iddqd_bi.specs.Entries.{held_entry, held_unique}
use Rattle.iddqd_bi.specs.Keys.{key_tests, ranks}
use Rattle.iddqd_bi.specs.Map.{Map, bag}
use Rattle.iddqd_bi.specs.RefMuts.{ref_item, ref_map, ref_with}
use Rattle.iddqd_bi.proofs.CallerLemmas.Entries.{rests_entry, writes_entry}
use Rattle.iddqd_bi.proofs.EntryLemmas.{inserted_or_held, none_held, unique_held}
use Rattle.caller_bi.proofs.entries.or_insert_and_write.Goals as goal

-- the item that is borrowed is the one that the entry has then
pub returns-in-Some-clause-writes : goal.returns-in-Some-clause-writes
returns-in-Some-clause-writes g c =
    let asked = c.entry.ensures in
    let held = c.in-Ok.held in
    let found = c.in-Some.found in
    let ranks = ranks g.T.BiHashItem g.T.K1.PartialEq.eq g.T.K2.PartialEq.eq in
    let tests = key_tests g.T.BiHashItem g.T.K1.PartialEq.eq g.T.K2.PartialEq.eq c.args.key1.now c.args.key2.now in
    let write : g.row.T.Denot → g.row.T.Denot = λ y. g.T.BiHashItemMut.put y c.args.d in
    let new = bag (ref_map (ref_with found write)) in
    let went = inserted_or_held c.entry.result held c.args.item c.args.key1 c.args.key2 c.args.map.now c.in-Ok.ensures.puts_in c.in-Ok.ensures.keeps_found
    asked.is_found asked.keys.key1 asked.keys.key2 asked.unchanged in
    let swaps = subst (λ (m : Map g.row.T.Denot g.row.S.Denot). IfSome (ref_item found) (λ y. IsPermutation new (swap ranks (bag m) y (write y))))
    c.in-Some.ensures.unchanged (c.data_mut.ensures.swaps c.args.d) in
    rw (c.map-1.given.1 (sym (c.in-Some.ensures.same_map ∙ c.in-Ok.ensures.same_map ∙ asked.same_map)), c.drop-found.ensures)
    (writes_entry (bag c.args.map.now) c.args.item ranks write (entry tests (bag c.args.map.now)) (held_entry held) (bag held.map.now) new
    (ref_item found) (held_unique held) went (unique_held held) (none_held held) c.in-Some.ensures.item found.live swaps)

-- where it has none, the map is the one that was held
pub returns-in-Ok-clause-writes : goal.returns-in-Ok-clause-writes
returns-in-Ok-clause-writes g c =
    let asked = c.entry.ensures in
    let held = c.in-Ok.held in
    let ranks = ranks g.T.BiHashItem g.T.K1.PartialEq.eq g.T.K2.PartialEq.eq in
    let tests = key_tests g.T.BiHashItem g.T.K1.PartialEq.eq g.T.K2.PartialEq.eq c.args.key1.now c.args.key2.now in
    let write : g.row.T.Denot → g.row.T.Denot = λ y. g.T.BiHashItemMut.put y c.args.d in
    let went = inserted_or_held c.entry.result held c.args.item c.args.key1 c.args.key2 c.args.map.now c.in-Ok.ensures.puts_in c.in-Ok.ensures.keeps_found
    asked.is_found asked.keys.key1 asked.keys.key2 asked.unchanged in
    let rests = rw c.in_default.is at c.into_unique.follows.holds-at-none in
    let kept = rests_entry (bag c.args.map.now) c.args.item ranks write (entry tests (bag c.args.map.now)) (held_entry held) (bag held.map.now) _ _
    (held_unique held) went (unique_held held) c.in_default.ensures.item refl (ap (λ (m : Map g.row.T.Denot g.row.S.Denot). bag m) rests) in
    rw (c.map-in_default-2-1.given.1 (sym (c.in-Ok.ensures.same_map ∙ asked.same_map))) kept
