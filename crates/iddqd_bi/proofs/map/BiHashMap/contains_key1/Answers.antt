use Rattle.std.proofs.Common.{◌∙◌}
use Rattle.iddqd_store.specs.Map.{bag}
use Rattle.iddqd_store.proofs.BagLemmas.Unique.{is_some-found}
use Rattle.iddqd_bi.specs.Keys.{has1}
use Rattle.iddqd_bi.proofs.map.BiHashMap.contains_key1.Goals as goal

pub returns : goal.returns
returns g c = c.is_some.ensures ∙ is_some-found (has1 g.T.BiHashItem g.Q.Query.stands_for c.args.query) (bag c.args.self.now) c.get1.result c.get1.ensures
