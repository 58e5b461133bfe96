use Rattle.iddqd_store.proofs.SlotLemmas.Chain.{Exchanges-set}
use Rattle.iddqd_store.proofs.item_set.ItemSet.replace.Goals as goal

pub returns-clause-members : goal.returns-clause-members
returns-clause-members g c =
    rw c.replace.ensures.after
    (Exchanges-set _ _ _ c.args.item (rw (← c.replace.ensures.value) at c.item_mut.ensures.value))
