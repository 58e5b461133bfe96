-- Written by hand; tests/one_key.patch says why.
use Rattle.std.proofs.Common.{refl, ℕ, List, Option, None, [], ◌∷◌, sym, ◌∙◌}
use Rattle.iddqd_store.proofs.SlotLemmas.Entries.{found_listing, held_none}
use Rattle.iddqd_id.specs.Keys.{key_tests}
use Rattle.iddqd_id.proofs.MapLemmas.{AreLawful-ranks}
use Rattle.iddqd_id.proofs.map.IdHashMap.entry.Goals as goal

pub invariant_of-result : goal.invariant_of-result
invariant_of-result g c =
    let tests = key_tests g.T.IdHashItem g.Q.Query.stands_for c.args.query in
    let laws = (AreLawful-ranks g.T.IdHashItem g.met.T.Key.Eq.laws).0 in
    let slots = c.args.self.now.slots in
    let none : List (Option ℕ) = None ∷ [] in
    record {
      absent = sym (found_listing laws slots c.search_all.ensures.apart tests none c.in-Vacant.ensures.found) ∙ held_none slots none refl;
      vacant = c.in-Vacant.ensures.vacant;
    }
