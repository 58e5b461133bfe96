-- Written by hand; tests/one_key.patch says why.
use Rattle.std.proofs.Common.{◌∙◌, subst}
use Rattle.std.specs.Prelude.{IsPermutation}
use Rattle.iddqd_store.specs.Bag.{swap}
use Rattle.iddqd_store.specs.Map.{Map, bag}
use Rattle.iddqd_store.proofs.MapLemmas.Updating.{found_one}
use Rattle.iddqd_id.specs.Keys.{has, ranks}
use Rattle.iddqd_id.proofs.FoundLemmas.{written_at}
use Rattle.iddqd_id.proofs.entry.OccupiedEntry.update.Goals as goal

pub store_once-requires-clause-callable : goal.store_once-requires-clause-callable
store_once-requires-clause-callable g c = λ x here.
    (let o = c.args.self.now in
    let found = c.requires.has_found in
    c.requires.callable x (found_one (has g.T.IdHashItem g.Q.Query.stands_for o.query) o.map.now.slots o.slot x (record { only = found.only; live = found.live }) here))

pub returns-clause-stores : goal.returns-clause-stores
returns-clause-stores g c =
    let o = c.args.self.now in
    let found = c.requires.has_found in
    let stored = c.store_once.ensures.stored in
    (stored.0, stored.1, found_one (has g.T.IdHashItem g.Q.Query.stands_for o.query) o.map.now.slots o.slot stored.0 (record { only = found.only; live = found.live }) stored.2, stored.3, stored.5)

pub returns-clause-has_found : goal.returns-clause-has_found
returns-clause-has_found g c =
    let o = c.args.self.now in
    let stored = c.store_once.ensures.stored in
    let ranks = ranks g.T.IdHashItem g.T.Key.PartialEq.eq in
    let swapped = subst (λ (m : Map g.row.T.Denot g.row.S.Denot). IsPermutation (bag m) (swap ranks (bag o.map.now) stored.0 (g.T.IdHashItemMut.put stored.0 stored.1))) stored.4 stored.5 in
    let still = written_at g.T.IdHashItem g.T.Key.PartialEq.eq g.met.T.Key.Eq.laws g.Q.Query.stands_for g.met.Q.Query.respects_eq o
    (λ (x : g.row.T.Denot). g.T.IdHashItemMut.put x stored.1) stored.0 stored.2
    (g.met.T.Key.Eq.laws.symm _ _ ∙ g.met.T.IdHashItemMut.keeps_key stored.0 stored.1) c.requires.has_found c.len.ensures.sound swapped in
    record { only = rw stored.4 still.only; live = rw stored.4 still.live }
