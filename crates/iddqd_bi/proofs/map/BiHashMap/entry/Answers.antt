use Rattle.std.proofs.Common.{refl, ℕ, List, Option, None, [], ◌∷◌, sym, ◌∙◌}
use Rattle.iddqd_store.specs.Slots.Found.{AreFound}
use Rattle.iddqd_store.proofs.SlotLemmas.Entries.{found_entry, found_listing, held_none, held_some}
use Rattle.iddqd_bi.specs.Keys.{key_tests}
use Rattle.iddqd_bi.proofs.MapLemmas.{AreLawful-ranks}
use Rattle.iddqd_bi.proofs.map.BiHashMap.entry.Goals as goal

pub invariant_of-result : goal.invariant_of-result
invariant_of-result g c =
    let tests = key_tests g.T.BiHashItem g.Q1.Query.stands_for g.Q2.Query.stands_for c.args.query1 c.args.query2 in
    let laws = (AreLawful-ranks g.T.BiHashItem g.met.T.K1.Eq.laws g.met.T.K2.Eq.laws).0 in
    let slots = c.args.self.now.slots in
    let none : List (Option ℕ) = None ∷ None ∷ [] in
    record {
      absent = sym (found_listing laws slots c.search_all.ensures.apart tests none c.in-Vacant.ensures.found) ∙ held_none slots none refl;
      vacant = c.in-Vacant.ensures.vacant;
    }

pub returns-in-Found-clause-value : goal.returns-in-Found-clause-value
returns-in-Found-clause-value g c =
    let tests = key_tests g.T.BiHashItem g.Q1.Query.stands_for g.Q2.Query.stands_for c.args.query1 c.args.query2 in
    let laws = (AreLawful-ranks g.T.BiHashItem g.met.T.K1.Eq.laws g.met.T.K2.Eq.laws).0 in
    rw (c.slot.ensures, c.slot-in-Found.ensures)
    (found_entry laws c.args.self.now.slots c.search_all.ensures.apart tests c.in-Found.found1.slot (c.in-Found.found2.slot ∷ []) c.in-Found.ensures.found)

pub returns-in-Found-clause-is_found : goal.returns-in-Found-clause-is_found
returns-in-Found-clause-is_found g c =
    let tests = key_tests g.T.BiHashItem g.Q1.Query.stands_for g.Q2.Query.stands_for c.args.query1 c.args.query2 in
    let laws = (AreLawful-ranks g.T.BiHashItem g.met.T.K1.Eq.laws g.met.T.K2.Eq.laws).0 in
    let slots = c.args.self.now.slots in
    let found : List (Option ℕ) = c.in-Found.found1.slot ∷ c.in-Found.found2.slot ∷ [] in
    let are : AreFound tests slots found = c.in-Found.ensures.found in
    let listed = found_listing laws slots c.search_all.ensures.apart tests found are in
    rw (c.slot.ensures, c.slot-in-Found.ensures) record {
      found = are;
      value = found_entry laws slots c.search_all.ensures.apart tests c.in-Found.found1.slot (c.in-Found.found2.slot ∷ []) are;
      listed = listed;
      some = λ none. held_some slots tests found are c.in-Found.ensures.some (listed ∙ none);
    }
