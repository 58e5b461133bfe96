use Rattle.std.proofs.Common.{refl, sym, [], ◌++◌, ◌∷◌}
use Rattle.iddqd_bi.proofs.CallerLemmas.{passed_items-to_come}
use Rattle.iddqd_bi.specs.RefMuts.{ref_item}
use Rattle.iddqd_bi.proofs.CallerLemmas.Walks.{step_done, all_done, none_holds, some_holds}
use Rattle.caller_bi.proofs.walking.write_all.Goals as goal

pub loop-item-init : goal.loop-item-init
loop-item-init g c = rw c.new-at.ensures ([], refl, sym (passed_items-to_come c.args.map.now 0))

-- one more is written
pub loop-item-preserved : goal.loop-item-preserved
loop-item-preserved g c =
    let at = c.loop-item.invariant in
    let next = some_holds _ (ref_item c.in-Some.item) c.in-Some.item.live c.in-Some.ensures.next in
    let put : g.row.T.Denot → g.row.T.Denot = λ x. g.T.BiHashItemMut.put x c.args.d in
    let step = step_done put at.0 _ _ _ _ _ _ next.0 at.1 at.2 next.1.comes (next.1.before put) (next.1.behind put) in
    rw (c.map-1.given.1 (sym c.in-Some.ensures.same_map), c.drop-item.ensures) (at.0 ++ next.0 ∷ [], step.0, step.1)

-- none is left
pub returns : goal.returns
returns g c =
    let at = c.loop-item.invariant in
    rw (none_holds _ c.in_default.is c.next_from.follows.holds-at-none) (all_done (λ x. g.T.BiHashItemMut.put x c.args.d) c.loop-item.map c.loop-item.at at.0 _ at.1 at.2 c.in_default.ensures.end)
