-- Made by tests/widths from crates/iddqd_bi/proofs/map/BiHashMap/data2_mut/Answers.antt: change that file.
use Rattle.std.proofs.Common.{inl, refl}
use Rattle.iddqd_tri.specs.Keys.{has3, ranks}
use Rattle.iddqd_store.proofs.MapLemmas.Updating.{any_absent, any_found}
use Rattle.iddqd_store.proofs.MapLemmas.Where.{data_found, found_where, maps_nowhere, maps_where, stays_nowhere, stays_where, swaps_where}
use Rattle.iddqd_tri.proofs.map.TriHashMap.data3_mut.Goals as goal

pub returns-in-Some : goal.returns-in-Some
returns-in-Some g c =
    let test = has3 g.T.TriHashItem g.Q.Query.stands_for c.args.query in
    let found = c.in-Some.ensures.found in (
      λ i. inl (c.data_mut_at.result.ghost_name, λ d. found_where test c.args.self.now c.in-Some.slot found (λ x. g.T.TriHashItemMut.put x d) i),
      record {
        writes_back = tt;
        value = data_found test c.args.self.now c.in-Some.slot found g.T.TriHashItemMut.data_of _ c.data_mut_at.ensures.value;
        any_found = any_found test c.args.self.now.slots c.in-Some.slot found;
        swaps = swaps_where g.T.TriHashItemMut.put test c.args.self.now (ranks g.T.TriHashItem g.T.K1.PartialEq.eq g.T.K2.PartialEq.eq g.T.K3.PartialEq.eq) c.in-Some.slot found c.data_mut_at.ensures.swaps;
        maps = maps_where g.T.TriHashItemMut.put test c.args.self.now g.T.TriHashItemMut.data_of c.data_mut_at.result c.in-Some.slot found c.data_mut_at.ensures.value;
        unchanged = stays_where g.T.TriHashItemMut.put test c.args.self.now c.in-Some.slot found;
      },
    )

pub returns-in-None : goal.returns-in-None
returns-in-None g c =
    let test = has3 g.T.TriHashItem g.Q.Query.stands_for c.args.query in
    let found = c.in-None.ensures.found in (
      refl,
      record {
        writes_back = tt;
        value = found.only;
        any_found = any_absent test c.args.self.now.slots found;
        swaps = λ x d only. absurd (cc (only, found.only));
        maps = maps_nowhere g.T.TriHashItemMut.put test c.args.self.now g.T.TriHashItemMut.data_of found;
        unchanged = stays_nowhere g.T.TriHashItemMut.put test c.args.self.now found;
      },
    )
