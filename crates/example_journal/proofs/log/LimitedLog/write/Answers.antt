use Rattle.example_journal.proofs.log.LimitedLog.write.Goals as goal

-- a part is behind the first bytes
pub returns-then-bytes-room-clause-torn : goal.returns-then-bytes-room-clause-torn
returns-then-bytes-room-clause-torn g c = (c.split_at.result.0.now, c.in_ok-write.ensures.written)
