use Rattle.iddqd_bi.proofs.entry.VacantEntry.insert_mut.Goals as goal

pub insert_free-requires-clause-none_found : goal.insert_free-requires-clause-none_found
insert_free-requires-clause-none_found g c = c.args.self.absent
