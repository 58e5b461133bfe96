use Rattle.std.proofs.Common.{sym, ◌∙◌}
use Rattle.std.specs.Fn.{CalledAt}
use Rattle.iddqd_bi.specs.Keys.{ranks}
use Rattle.iddqd_bi.proofs.EntryLemmas.{stores_named}
use Rattle.caller_bi.proofs.entries.modify_both.Goals as goal

pub returns-in-Vacant : goal.returns-in-Vacant
returns-in-Vacant g c =
    let asked = c.entry.ensures in
    let stored = c.in-Vacant.ensures in
    rw (c.map-1.given.1 (sym (stored.keeps_entry.same_map ∙ asked.same_map)))
    (stores_named (CalledAt g.F.FnMut) g.T.BiHashItemMut.put (ranks g.T.BiHashItem g.T.K1.PartialEq.eq g.T.K2.PartialEq.eq) c.args.f c.entry.result _
    c.args.key1 c.args.key2 _ stored.stays_vacant stored.stores asked.keys.key1 asked.keys.key2 asked.unchanged)
