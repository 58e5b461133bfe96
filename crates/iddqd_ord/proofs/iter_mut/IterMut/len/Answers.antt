use Rattle.iddqd_ord.proofs.StepLemmas.{length_between}
use Rattle.iddqd_ord.proofs.iter_mut.IterMut.len.Goals as goal

pub returns : goal.returns
returns g c =
    let it = c.args.self.now in
    length_between it.map.now it.front it.back it.left it.there
