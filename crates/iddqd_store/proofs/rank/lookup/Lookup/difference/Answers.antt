use Rattle.std.proofs.Common.{[], refl}
use Rattle.iddqd_store.specs.Map.{bag}
use Rattle.iddqd_store.proofs.BagLemmas.Differing.{IsPermutation-unpaired, SearchesEach-none, SearchesEach-part}
use Rattle.iddqd_store.proofs.rank.lookup.Lookup.difference.Goals as goal

pub returns-in_err-removed-clause-costs : goal.returns-in_err-removed-clause-costs
returns-in_err-removed-clause-costs g c =
    (c.pair_with.new.costs, c.pair_with.ensures.costs, SearchesEach-part _ _ [] (bag c.args.new.now) (bag c.args.new.now) _ _ refl (SearchesEach-none _ _ _))

pub returns-clause-differs : goal.returns-clause-differs
returns-clause-differs g c =
    let agree = λ (x y : g.row.T.Denot). g.R.Key.PartialEq.eq (g.R.KeyOf.key x) (g.R.KeyOf.key y) in
    let left = c.in_ok-removed.ensures in
    record {
      added = c.in_ok-added.ensures.value;
      removed = left.alone;
      agree_in_pairs = left.agree_in_pairs;
      before = left.before;
      old_items = rw (left.alone, left.before) (IsPermutation-unpaired agree (bag c.args.self.now) (bag c.args.new.now));
      new_items = rw c.in_ok-added.ensures.value left.after;
    }
