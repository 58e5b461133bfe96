use Rattle.iddqd_order.proofs.SearchLemmas.{below_passed}
use Rattle.iddqd_order.proofs.search.passed_over.Goals as goal

pub returns-clause-below : goal.returns-clause-below
returns-clause-below g c k any lt =
    below_passed (g.A.CompareAt.at c.args.compared.now) c.args.len c.requires.rises c.args.low c.args.part c.passes.result c.passes-2.result c.passes-3.result k
    c.requires.some c.requires.within c.passes.ensures.most c.passes-2.ensures.most c.passes-3.ensures.most
    c.passes.ensures.passed c.passes-2.ensures.passed c.passes-3.ensures.passed any lt
