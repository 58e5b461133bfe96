use Rattle.std.specs.Prelude.{◌≡◌, Bool, true, List, Option, Some, None, filter, is_some}
use Rattle.std.specs.List.{list_any}
use Rattle.std.specs.Option.{option_and_then, option_to_list}
use Rattle.std.proofs.Common.{sym, ◌∙◌}
use Rattle.iddqd_bi.specs.Keys.{has1}
use Rattle.iddqd_bi.specs.Map.{bag}
use Rattle.iddqd_bi.specs.RefMuts.{ref_item}
use Rattle.iddqd_bi.proofs.CallerLemmas.Laws.{given-listed, none-listed}
use Rattle.caller_bi.proofs.writing.is_lent1.Goals as goal

listed : {T : Type 0} (test : T → Bool) (bag : List T) (o : Option T) → is_some o ≡ true → option_to_list o ≡ filter test bag → true ≡ list_any test bag
listed test bag (Some x) some is = sym (given-listed test bag x is)
listed test bag None some is = absurd (cc some)

-- the guard has an item
lent : {T R : Type 0} (item : R → Option T) (live : (r : R) → is_some (item r) ≡ true) (test : T → Bool) (bag : List T) (r : Option R)
    → option_to_list (option_and_then item r) ≡ filter test bag → is_some r ≡ list_any test bag
lent item live test bag (Some r) is = listed test bag (item r) (live r) is
lent item live test bag None is = sym (none-listed test bag is)

pub returns-clause-is : goal.returns-clause-is
returns-clause-is g c =
    c.is_some.ensures ∙ lent ref_item (λ r. r.live) (has1 g.T.BiHashItem g.T.K1.PartialEq.eq c.args.key.now) (bag c.args.map.now) c.get1_mut.result c.get1_mut.ensures.found
