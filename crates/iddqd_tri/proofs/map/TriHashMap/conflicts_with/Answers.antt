-- Made by tests/widths from crates/iddqd_bi/proofs/map/BiHashMap/conflicts_with/Answers.antt: change that file.
use Rattle.std.proofs.Common.{rules, ◌≡◌, [], ◌∷◌, sym, ap, ◌∙◌}
use Rattle.iddqd_store.specs.Bag.{conflicts_of, conflicting}
use Rattle.iddqd_store.specs.Map.{bag}
use Rattle.iddqd_store.specs.Slots.Found.{each_once, items_at}
use Rattle.iddqd_store.proofs.BagLemmas.Steps.{conflicting-empty}
use Rattle.iddqd_tri.specs.Keys.{ranks}
use Rattle.iddqd_tri.proofs.map.TriHashMap.conflicts_with.Goals as goal
use Rattle.iddqd_tri.proofs.map.TriHashMap.conflicts_with.Goals.{in-Vacant, in-Found}

pub returns : goal.returns
returns g c =
    let ranks = ranks g.T.TriHashItem g.T.K1.PartialEq.eq g.T.K2.PartialEq.eq g.T.K3.PartialEq.eq in
    let slots = c.args.self.now.slots in
    let listed : items_at slots c.match-places.found ≡ conflicting ranks (bag c.args.self.now) c.args.item.now = elim c.match-places.branch [
      | in-Vacant w ↦
          let free : conflicts_of ranks (bag c.args.self.now) c.args.item.now ≡ [] = w.in-Vacant.ensures.free in
          let empty : c.match-places.found ≡ [] = search rules in
          ap (items_at slots) empty ∙ sym (conflicting-empty ranks (bag c.args.self.now) c.args.item.now free)
      | in-Found w ↦
          let found : c.match-places.found ≡ each_once (w.in-Found.found.0.slot ∷ w.in-Found.found.1.slot ∷ w.in-Found.found.2.slot ∷ []) = search rules in
          ap (items_at slots) found ∙ w.in-Found.ensures.conflict.found.items
    ] in
    rw g.met.T.Ranked.ranks_are (c.items_of.ensures ∙ listed)
