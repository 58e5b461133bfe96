-- Made by tests/widths from crates/iddqd_bi/proofs/entry/VacantEntry/insert_made/Answers.antt: change that file.
use Rattle.iddqd_id.proofs.entry.VacantEntry.insert_made.Goals as goal

pub insert_free-requires-clause-none_found : goal.insert_free-requires-clause-none_found
insert_free-requires-clause-none_found g c = c.args.self.absent
