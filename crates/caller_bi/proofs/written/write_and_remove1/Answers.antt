use Rattle.std.proofs.Common.{◌∷◌, [], drop, sym, ap, ◌∙◌}
use Rattle.std.proofs.lemmas.List.Sorted.{IsPermutation-sym, IsPermutation-trans}
use Rattle.caller_bi.proofs.EntryLemmas.{held_written}
use Rattle.caller_bi.proofs.written.write_and_remove1.Goals as goal

-- the entry still finds the slots that it found, of which the first one was written
pub returns-in-Some-clause-written : goal.returns-in-Some-clause-written
returns-in-Some-clause-written g c = λ x is.
    let asked = c.in-Occupied.ensures in
    let o = c.in-Occupied.found in
    let was = asked.is_found in
    let still = c.in-Some.ensures.has_found c.args.d in
    let first = rw (← asked.unchanged, ← asked.keys.key1) at is in
    let written = held_written o.map.now o.slot1 (o.slot2 ∷ []) (λ y. g.T.BiHashItemMut.put y c.args.d) x _ was.found.0.only first in
    rw (← asked.unchanged, ← asked.keys.key1, ← asked.keys.key2) (c.remove.ensures.taken ∙ sym still.listed ∙ written ∙ ap (λ l. g.T.BiHashItemMut.put x c.args.d ∷ drop 1 l) was.listed)

-- what is taken out is taken out of the map with the written item
pub returns-in-Some-clause-left : goal.returns-in-Some-clause-left
returns-in-Some-clause-left g c = λ x is.
    let asked = c.in-Occupied.ensures in
    let first = rw (← asked.unchanged, ← asked.keys.key1) at is in
    let swaps = c.in-Some.ensures.swaps x c.args.d first in
    rw (c.map-in-Some-1.given.1 (sym asked.same_map), ← asked.unchanged) (IsPermutation-trans _ _ _ (IsPermutation-sym _ _ swaps) c.remove.ensures.loses.items)
