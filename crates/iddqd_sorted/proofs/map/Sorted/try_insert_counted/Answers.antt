use Rattle.std.proofs.Common.{length, arith}
use Rattle.iddqd_store.specs.Bag.{tests_of}
use Rattle.iddqd_store.proofs.MapLemmas.Places.{none_taken}
use Rattle.iddqd_store.proofs.RankLemmas.Placing.{placing}
use Rattle.iddqd_sorted.specs.Items.{items, bag}
use Rattle.iddqd_sorted.proofs.Costs.{walks_none}
use Rattle.iddqd_sorted.proofs.Flags.{AreAny-none}
use Rattle.iddqd_sorted.proofs.map.Sorted.try_insert_counted.Goals as goal
use Rattle.iddqd_sorted.proofs.map.Sorted.try_insert_counted.Goals.{in-Ok-insert_free, in-Err-insert_free}

pub returns-in-Err-clause-granted : goal.returns-in-Err-clause-granted
returns-in-Err-clause-granted g c = λ free spare. absurd (c.in-Err.ensures.finds.conflict free)

pub returns-in-Err-clause-reason : goal.returns-in-Err-clause-reason
returns-in-Err-clause-reason g c =
    rw (c.reject.ensures.flags, c.taken.ensures) (record { taken = c.in-Err.ensures.finds.taken; full = λ none. absurd (c.in-Err.ensures.finds.some none) })

pub returns-clause-reason : goal.returns-clause-reason
returns-clause-reason g c = elim c.match-insert_free.branch [
  | in-Ok-insert_free w ↦ rw w.result-is tt
  | in-Err-insert_free w ↦
      let m = c.args.self.now in
      let x = c.args.item in
      let ranks = g.M.SlotMap.ranks in
      let free = c.in-Ok.ensures.free in
      rw (w.result-is, w.reject-in-Err-insert_free.ensures.flags, w.none_taken.ensures) (record {
        taken = AreAny-none ranks (λ agree. agree x) (items m) (none_taken (tests_of ranks x) (items m) free);
        full = λ _. record { free = free; full = w.in-Err-insert_free.ensures.full };
      })
]

pub returns-in-Err-clause-costs : goal.returns-in-Err-clause-costs
returns-in-Err-clause-costs g c =
    let each = c.free_places.ensures.costs in
    placing each.answers _ each.searched (omega (arith, walks_none (length (bag c.args.self.now)) g.M.SlotMap.ranks))

pub returns-clause-costs : goal.returns-clause-costs
returns-clause-costs g c =
    let each = rw (← c.costs.view_is) at c.free_places.ensures.costs in
    elim c.match-insert_free.branch [
      | in-Ok-insert_free w ↦ rw w.result-is (placing each.answers _ each.searched w.in-Ok-insert_free.ensures.probed)
      | in-Err-insert_free w ↦ rw w.result-is (placing each.answers _ each.searched w.in-Err-insert_free.ensures.probed)
    ]
