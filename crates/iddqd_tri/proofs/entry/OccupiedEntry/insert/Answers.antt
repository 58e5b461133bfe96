-- Made by tests/widths from crates/iddqd_bi/proofs/entry/OccupiedEntry/insert/Answers.antt: change that file.
use Rattle.std.proofs.Common.{arith, refl, [], ◌∷◌, sym, ap, ◌∙◌}
use Rattle.iddqd_store.specs.Map.{bag, hash_of}
use Rattle.iddqd_store.proofs.BagLemmas.Differ.{first_mismatch-none}
use Rattle.iddqd_store.proofs.MapLemmas.Storing.{live_found}
use Rattle.iddqd_store.proofs.RankLemmas.ByHash.{found_by_hash}
use Rattle.iddqd_store.proofs.SlotLemmas.Entries.{IsDistinct-each_once}
use Rattle.iddqd_store.proofs.SlotLemmas.Here.{finds_here}
use Rattle.iddqd_tri.specs.Keys.{key_tests, ranks}
use Rattle.iddqd_tri.proofs.MapLemmas.{AreKeyTests-queries, conflicting-all}
use Rattle.iddqd_tri.proofs.entry.OccupiedEntry.insert.Goals as goal

pub overwrite-displaced-requires-clause-conflicts : goal.overwrite-displaced-requires-clause-conflicts
overwrite-displaced-requires-clause-conflicts g c =
    let o = c.args.self.now in
    rw (c.new-found1.ensures, c.new-found2.ensures, c.new-found3.ensures) record {
      items = c.requires.listed ∙ sym (conflicting-all g.T.TriHashItem g.T.K1.PartialEq.eq g.T.K2.PartialEq.eq g.T.K3.PartialEq.eq g.Q1.Query.stands_for g.Q2.Query.stands_for g.Q3.Query.stands_for
          g.met.Q1.Query.respects_eq g.met.Q2.Query.respects_eq g.met.Q3.Query.respects_eq c.args.item o.query1 o.query2 o.query3 (sym c.in_default.ensures.rank) (bag o.map.now));
      live = live_found o.map.now.slots (o.slot1 ∷ o.slot2 ∷ o.slot3 ∷ []) (c.requires.found.0.live, (c.requires.found.1.0.live, (c.requires.found.1.1.0.live, tt)));
      apart = IsDistinct-each_once (o.slot1 ∷ o.slot2 ∷ o.slot3 ∷ []);
    }

pub overwrite-displaced-requires-clause-hashed : goal.overwrite-displaced-requires-clause-hashed
overwrite-displaced-requires-clause-hashed g c =
    let o = c.args.self.now in
    let hash = hash_of g.S.BuildHasher g.S.Hasher.Hasher o.map.now.builder in
    let same = first_mismatch-none (key_tests g.T.TriHashItem g.Q1.Query.stands_for g.Q2.Query.stands_for g.Q3.Query.stands_for o.query1 o.query2 o.query3) c.args.item (sym c.in_default.ensures.rank) in
    rw (c.new-found1.ensures, c.hash_of1.ensures, c.new-found2.ensures, c.hash_of2.ensures, c.new-found3.ensures, c.hash_of3.ensures) (
      found_by_hash _ _ _ o.slot1 _ c.requires.found.0 (λ x has. ap hash (sym (g.met.Q1.Query.respects_hash _ _ has) ∙ g.met.Q1.Query.respects_hash _ _ same.0)),
      (
        found_by_hash _ _ _ o.slot2 _ c.requires.found.1.0 (λ x has. ap hash (sym (g.met.Q2.Query.respects_hash _ _ has) ∙ g.met.Q2.Query.respects_hash _ _ same.1.0)),
        (found_by_hash _ _ _ o.slot3 _ c.requires.found.1.1.0 (λ x has. ap hash (sym (g.met.Q3.Query.respects_hash _ _ has) ∙ g.met.Q3.Query.respects_hash _ _ same.1.1.0)), tt),
      ),
    )

pub returns-clause-displaced : goal.returns-clause-displaced
returns-clause-displaced g c =
    let o = c.args.self.now in
    c.overwrite-displaced.ensures.displaced
    ∙ conflicting-all g.T.TriHashItem g.T.K1.PartialEq.eq g.T.K2.PartialEq.eq g.T.K3.PartialEq.eq g.Q1.Query.stands_for g.Q2.Query.stands_for g.Q3.Query.stands_for
    g.met.Q1.Query.respects_eq g.met.Q2.Query.respects_eq g.met.Q3.Query.respects_eq c.args.item o.query1 o.query2 o.query3 (sym c.in_default.ensures.rank) (bag o.map.now)

pub returns-clause-puts_over : goal.returns-clause-puts_over
returns-clause-puts_over g c =
    let o = c.args.self.now in
    let tests = key_tests g.T.TriHashItem g.Q1.Query.stands_for g.Q2.Query.stands_for g.Q3.Query.stands_for o.query1 o.query2 o.query3 in
    let keys = AreKeyTests-queries g.T.TriHashItem g.T.K1.PartialEq.eq g.T.K2.PartialEq.eq g.T.K3.PartialEq.eq g.Q1.Query.stands_for g.Q2.Query.stands_for g.Q3.Query.stands_for
    g.met.Q1.Query.respects_eq g.met.Q2.Query.respects_eq g.met.Q3.Query.respects_eq o.query1 o.query2 o.query3 in
    let put = c.overwrite-displaced.ensures.puts_at in
    let here = finds_here (ranks g.T.TriHashItem g.T.K1.PartialEq.eq g.T.K2.PartialEq.eq g.T.K3.PartialEq.eq) tests (omega arith) keys c.overwrite-displaced.new.self.slots
    c.overwrite-displaced.result.1 c.args.item (first_mismatch-none tests c.args.item (sym c.in_default.ensures.rank)) put.sound put.at in
    record {
      same_map = refl;
      items = put.items;
      has_found = record { found = here.found; value = here.value; listed = here.listed; some = here.some };
      unique = here.unique_item;
      keys = (refl, refl, refl);
      capacity = put.same_room;
      builder = put.same_builder;
    }
