use Rattle.std.proofs.Common.{List, ◌∙◌, subst, refl}
use Rattle.std.specs.Prelude.{IsPermutation}
use Rattle.std.specs.Vec.Iter.{into_iter_items}
use Rattle.std.proofs.IntoIterSteps.{All-taken}
use Rattle.std.proofs.lemmas.Result.{IfErr-weaker, on_ok_weaker}
use Rattle.iddqd_bi.specs.Bag.{with_items}
use Rattle.iddqd_bi.specs.Map.{bag}
use Rattle.iddqd_bi.specs.Keys.{ranks}
use Rattle.iddqd_bi.proofs.CallerLemmas.Batches.{batch-split}
use Rattle.caller_bi.proofs.building.extend_by_vec.Goals as goal

-- the iterator of a vector gives its items
pub returns-clause-all : goal.returns-clause-all
returns-clause-all g c =
    let ranks = ranks g.T.BiHashItem g.T.K1.PartialEq.eq g.T.K2.PartialEq.eq in
    on_ok_weaker c.extend.result (λ h. (subst (λ (xs : List g.row.T.Denot). IsPermutation (bag c.extend.new.self) (with_items ranks (bag c.args.map.now) xs))
    (All-taken h.0 h.1 h.3 ∙ h.2.0) h.4.items)) c.extend.ensures.all

-- the items before the one that came back are the first of the vector
pub returns-clause-refused : goal.returns-clause-refused
returns-clause-refused g c =
    let ranks = ranks g.T.BiHashItem g.T.K1.PartialEq.eq g.T.K2.PartialEq.eq in
    IfErr-weaker c.extend.result _ _ (λ e h.
    (h.1, into_iter_items h.2, batch-split ranks (bag c.args.map.now) c.args.items.items h.0 h.3.0 e.value h.1 h.1 h.2 h.4 refl, h.5.items)) c.extend.ensures.refused
