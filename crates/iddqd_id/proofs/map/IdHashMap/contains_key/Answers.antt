-- Made by tests/widths from crates/iddqd_bi/proofs/map/BiHashMap/contains_key1/Answers.antt: change that file.
use Rattle.std.proofs.Common.{◌∙◌}
use Rattle.iddqd_store.specs.Map.{bag}
use Rattle.iddqd_store.proofs.BagLemmas.Unique.{is_some-found}
use Rattle.iddqd_id.specs.Keys.{has}
use Rattle.iddqd_id.proofs.map.IdHashMap.contains_key.Goals as goal

pub returns : goal.returns
returns g c = c.is_some.ensures ∙ is_some-found (has g.T.IdHashItem g.Q.Query.stands_for c.args.query) (bag c.args.self.now) c.get.result c.get.ensures
