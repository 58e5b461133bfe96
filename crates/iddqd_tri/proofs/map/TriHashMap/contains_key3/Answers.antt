-- Made by tests/widths from crates/iddqd_bi/proofs/map/BiHashMap/contains_key2/Answers.antt: change that file.
use Rattle.std.proofs.Common.{◌∙◌}
use Rattle.iddqd_store.specs.Map.{bag}
use Rattle.iddqd_store.proofs.BagLemmas.Unique.{is_some-found}
use Rattle.iddqd_tri.specs.Keys.{has3}
use Rattle.iddqd_tri.proofs.map.TriHashMap.contains_key3.Goals as goal

pub returns : goal.returns
returns g c = c.is_some.ensures ∙ is_some-found (has3 g.T.TriHashItem g.Q.Query.stands_for c.args.query) (bag c.args.self.now) c.get3.result c.get3.ensures
