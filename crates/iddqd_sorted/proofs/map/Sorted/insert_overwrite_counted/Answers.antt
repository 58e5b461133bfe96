use Rattle.std.proofs.Common.{◌∙◌, sym, ap, length, arith}
use Rattle.std.specs.Ordering.{is_eq}
use Rattle.std.proofs.lemmas.List.Sorted.{length_permutation}
use Rattle.iddqd_store.specs.Bag.{do_conflict}
use Rattle.iddqd_store.proofs.MapLemmas.Places.{order_none}
use Rattle.iddqd_store.proofs.RankLemmas.Placing.{placing}
use Rattle.iddqd_sorted.specs.Items.{items, bag, by_sort, with_item}
use Rattle.iddqd_sorted.proofs.Costs.{walks_none}
use Rattle.iddqd_sorted.proofs.Finding.{all_others}
use Rattle.iddqd_sorted.proofs.Overwriting.{is-overwritten}
use Rattle.iddqd_sorted.proofs.Sorting.{same_key, total}
use Rattle.iddqd_sorted.proofs.map.Sorted.insert_overwrite_counted.Goals as goal
use Rattle.iddqd_sorted.proofs.map.Sorted.insert_overwrite_counted.Goals.{in-Ok-insert_free, in-Err-insert_free}

pub returns-in-Err-clause-overwrites : goal.returns-in-Err-clause-overwrites
returns-in-Err-clause-overwrites g c =
    let m = c.args.self.now in
    let x = c.args.item in
    let ranks = g.M.SlotMap.ranks in
    let before = c.in-Err.ensures in
    let put = c.overwrite.ensures in
    record {
      lists = is-overwritten (total g.M.Item.Sortable.sort_key g.met.M.Item.SortKey.Ord.total g.M.SlotMap.first_key g.met.M.FirstKey.Ord.total) ranks x
          (λ y level. g.met.M.SlotMap.same_first x y (g.met.M.FirstKey.Eq.laws.symm (g.M.SlotMap.first_key x) (g.M.SlotMap.first_key y)
          ∙ (g.met.M.FirstKey.Ord.matches_eq (g.M.SlotMap.first_key y) (g.M.SlotMap.first_key x)
          ∙ ap is_eq (same_key g.M.Item.Sortable.sort_key g.met.M.Item.SortKey.Ord.total g.M.SlotMap.first_key g.met.M.FirstKey.Ord.total y x level))))
          (items m) (bag m) put.rest.0 (bag c.overwrite.new.self) (items c.overwrite.new.self) before.ascending put.ascending before.listed put.listed put.rest.1 put.rest.2;
      fits = omega (arith, put.fits, length_permutation _ _ put.listed);
      no_less_room = omega (arith, put.capacity);
      same_room = λ _. put.capacity;
      most = omega (arith, put.capacity);
      no_growth = λ _. put.capacity;
      same_builder = put.builder;
    }

pub returns-in-Err-clause-asked : goal.returns-in-Err-clause-asked
returns-in-Err-clause-asked g c = λ r few.
    (let before = c.in-Err.ensures in
    let put = c.overwrite.ensures in
    rw (put.displaced ∙ before.finds.same_conflicts) at (put.asked r (omega (arith, few, length_permutation _ _ before.listed))))

pub returns-in-Err-clause-costs : goal.returns-in-Err-clause-costs
returns-in-Err-clause-costs g c =
    let each = rw (← c.costs.view_is) at c.free_places.ensures.costs in
    let put = c.overwrite.ensures in
    placing each.answers _ each.searched (rw (put.displaced ∙ c.in-Err.ensures.finds.same_conflicts) at put.probed)

pub returns-clause-displaced : goal.returns-clause-displaced
returns-clause-displaced g c = elim c.match-insert_free.branch [
  | in-Ok-insert_free w ↦ rw w.result-is (w.new.ensures ∙ sym (order_none g.M.SlotMap.ranks (items c.args.self.now) c.args.item c.in-Ok.ensures.free))
  | in-Err-insert_free w ↦ rw w.result-is tt
]

pub returns-clause-overwrites : goal.returns-clause-overwrites
returns-clause-overwrites g c = elim c.match-insert_free.branch [
  | in-Ok-insert_free w ↦
      let x = c.args.item in
      let free = c.in-Ok.ensures.free in
      let gains = w.in-Ok-insert_free.ensures.gains in
      let by = by_sort g.M.Item.Sortable.sort_key g.M.Item.SortKey.Ord.cmp g.M.SlotMap.first_key g.M.FirstKey.Ord.cmp in
      rw w.result-is record {
        lists = gains.lists ∙ ap (λ q. with_item by q x) (sym (all_others (do_conflict g.M.SlotMap.ranks x) (items c.args.self.now) free));
        fits = gains.fits;
        no_less_room = gains.no_less_room;
        same_room = gains.same_room;
        most = gains.most;
        no_growth = λ some. absurd (some free);
        same_builder = gains.same_builder;
      }
  | in-Err-insert_free w ↦ rw w.result-is tt
]

pub returns-clause-costs : goal.returns-clause-costs
returns-clause-costs g c =
    let each = rw (← c.costs.view_is) at c.free_places.ensures.costs in
    let none = order_none g.M.SlotMap.ranks (items c.args.self.now) c.args.item c.in-Ok.ensures.free in
    elim c.match-insert_free.branch [
      | in-Ok-insert_free w ↦ rw none (placing each.answers _ each.searched w.in-Ok-insert_free.ensures.probed)
      | in-Err-insert_free w ↦
          let walked = w.in-Err-insert_free.ensures.probed in
          rw none (placing each.answers _ each.searched (omega (arith, walked, walks_none (length (bag c.args.self.now)) g.M.SlotMap.ranks)))
    ]
