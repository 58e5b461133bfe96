use Rattle.std.proofs.Common.{◌+◌, ◌<◌, length, ◌∙◌, arith}
use Rattle.iddqd_order.proofs.LineLemmas.{KeepsEntries-joined}
use Rattle.iddqd_order.proofs.PlaceLemmas.{start_of-joined_before, start_of-joined_behind}
use Rattle.iddqd_order.proofs.blocks.joins.condense.Goals as goal

pub returns-then-len_at-room-clause-entries : goal.returns-then-len_at-room-clause-entries
returns-then-len_at-room-clause-entries g c =
    let i = c.loop-at.invariant.keeps in
    let more : c.loop-at.at + 1 < length c.loop-at.row.blocks = omega (arith, c.loop-at-test.true, c.loop-at.invariant.count, c.requires.within) in
    let join = c.join.ensures in
    let last = KeepsEntries-joined c.loop-at.row c.join.new.self c.loop-at.at more join.blocks join.spare join.memory join.most in
    record {
      entries = last.entries ∙ i.entries;
      total = last.total ∙ i.total;
      memory = last.memory ∙ i.memory;
      most = last.most ∙ i.most;
    }

pub returns-then-len_at-room-clause-before : goal.returns-then-len_at-room-clause-before
returns-then-len_at-room-clause-before g c k le =
    let i = c.loop-at.invariant in
    let more : c.loop-at.at + 1 < length c.loop-at.row.blocks = omega (arith, c.loop-at-test.true, i.count, c.requires.within) in
    rw c.join.ensures.blocks (start_of-joined_before c.loop-at.row.blocks c.loop-at.at k _ more (omega (arith, le, i.above)) ∙ i.before k le)

pub returns-then-len_at-room-clause-joined_behind : goal.returns-then-len_at-room-clause-joined_behind
returns-then-len_at-room-clause-joined_behind g c is k le =
    let i = c.loop-at.invariant in
    let more : c.loop-at.at + 1 < length c.loop-at.row.blocks = omega (arith, c.loop-at-test.true, i.count, c.requires.within) in
    let behind : c.loop-at.at < k = omega (arith, le, c.loop-at-test.true) in
    rw c.join.ensures.blocks (start_of-joined_behind c.loop-at.row.blocks c.loop-at.at k more behind ∙ i.behind (k + 1) (omega (arith, behind)))
