use Rattle.std.proofs.Common.{rules, sym, ◌∙◌}
use Rattle.iddqd_store.proofs.SlotLemmas.Contents.{content_at}
use Rattle.iddqd_store.proofs.TableLemmas.Sought.{found_costs, found_by_hash, may_ask, missed_costs, missed_by_hash, missed_vacant, sought_asked, sought_past}
use Rattle.iddqd_store.proofs.index_table.IndexTable.find_cell.Goals as goal
use Rattle.iddqd_store.proofs.index_table.IndexTable.find_cell.Goals.{else-stored-hash-via-then-stored-hash+else-matches, else-stored-hash-via-else-stored-hash}

pub loop-pair-init : goal.loop-pair-init
loop-pair-init g c = record {
  sought = record {
    probed = search rules;
    walk = search rules;
    refused = search rules;
    count = search rules;
    to_ask = λ k far below slot there. c.requires.asks slot (rw (← c.self.view_is) (content_at c.self.inside.cells _ (c.args.hash, slot) there));
  };
  kept = g.met.M.Matcher.kept_refl _;
}

pub loop-pair-preserved : goal.loop-pair-preserved
loop-pair-preserved g c =
    let i = c.loop-pair.invariant in
    let is = sym c.cell_at.ensures.value ∙ c.in-Some.is in
    let next = rw c.len-count.ensures at c.after-at.ensures in
    let own = rw (← c.self.view_is) at c.requires.own in
    elim c.else-stored-hash.branch [
      | else-stored-hash-via-then-stored-hash+else-matches w ↦
          let declines = sym (g.met.M.Matcher.accepts_kept _ _ c.in-Some.pair.1 i.kept) ∙ (sym w.matches.ensures.value ∙ w.if-matches.false) in
          let sought = sought_asked c.self.invariant.0 i.sought is c.cell_at.ensures.probe next own w.if-stored-hash.true declines w.matches.ensures.asked w.matches.ensures.others in
          rw w.matcher-is (record { sought = sought; kept = g.met.M.Matcher.kept_trans _ _ _ i.kept w.matches.ensures.is_kept })
      | else-stored-hash-via-else-stored-hash w ↦
          rw w.matcher-is (record { sought = sought_past c.self.invariant.0 i.sought is c.cell_at.ensures.probe next own w.if-stored-hash.false; kept = i.kept })
    ]

pub returns-then-matches-clause-found : goal.returns-then-matches-clause-found
returns-then-matches-clause-found g c =
    let i = c.loop-pair.invariant in
    let accepted = sym (g.met.M.Matcher.accepts_kept _ _ c.in-Some.pair.1 i.kept) ∙ (sym c.matches.ensures.value ∙ c.if-matches.true) in
    rw (← c.self.view_is) (found_by_hash c.self.invariant.0 i.sought (sym c.cell_at.ensures.value ∙ c.in-Some.is) c.if-stored-hash.true accepted)

pub returns-then-matches-clause-is_kept : goal.returns-then-matches-clause-is_kept
returns-then-matches-clause-is_kept g c = g.met.M.Matcher.kept_trans _ _ _ c.loop-pair.invariant.kept c.matches.ensures.is_kept

pub returns-then-matches-clause-costs : goal.returns-then-matches-clause-costs
returns-then-matches-clause-costs g c =
    let is = sym c.cell_at.ensures.value ∙ c.in-Some.is in
    rw (← c.self.view_is) (found_costs c.self.invariant.0 c.loop-pair.invariant.sought is c.cell_at.ensures.probe c.if-stored-hash.true c.matches.ensures.asked)

pub returns-clause-found : goal.returns-clause-found
returns-clause-found g c = rw (← c.self.view_is) (missed_by_hash c.self.invariant.0 c.loop-pair.invariant.sought (sym c.cell_at.ensures.value ∙ c.in_default.is))

pub returns-clause-vacant : goal.returns-clause-vacant
returns-clause-vacant g c =
    rw (c.new.ensures, c.len-count.ensures, ← c.self.view_is) (missed_vacant c.self.invariant.0 c.loop-pair.invariant.sought (sym c.cell_at.ensures.value ∙ c.in_default.is))

pub returns-clause-costs : goal.returns-clause-costs
returns-clause-costs g c =
    rw (← c.self.view_is) (missed_costs c.self.invariant.0 c.loop-pair.invariant.sought (sym c.cell_at.ensures.value ∙ c.in_default.is) c.cell_at.ensures.probe)

pub matches-requires : goal.matches-requires
matches-requires g c = may_ask c.self.invariant.0 c.loop-pair.invariant.sought (sym c.cell_at.ensures.value ∙ c.in-Some.is) c.if-stored-hash.true
