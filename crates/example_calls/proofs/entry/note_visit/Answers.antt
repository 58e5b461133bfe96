use Rattle.std.proofs.Common.{◌≡◌, [], ◌∷◌, List, None, length, ap, refl, sym, ◌∙◌}
use Rattle.std.specs.Prelude.{nat_eq}
use Rattle.std.proofs.lemmas.Cmp.{nat_eq_equiv}
use Rattle.std.proofs.lemmas.List.{nil_from_length}
use Rattle.iddqd_bi.specs.Bag.{Ranks, conflicts_of, conflicting}
use Rattle.iddqd_bi.specs.Map.{bag}
use Rattle.iddqd_bi.specs.Mismatch.{error_rank}
use Rattle.iddqd_bi.specs.Rank.{agree}
use Rattle.iddqd_bi.proofs.CallerLemmas.{length-conflicts_of}
use Rattle.example_calls.specs.declared.entry.Visit.{Visit}
use Rattle.example_calls.proofs.entry.note_visit.Goals as goal

abbrev item_ranks : Ranks Visit
item_ranks = agree (λ (v : Visit). v.number) nat_eq ∷ agree (λ (v : Visit). v.page) nat_eq ∷ []

-- if nothing conflicts with the visit, its keys find nothing
none_found : (there : List Visit) (v : Visit) → conflicts_of item_ranks there v ≡ [] → conflicting item_ranks there v ≡ []
none_found there v free = nil_from_length _ (sym (length-conflicts_of item_ranks there v) ∙ ap length free)

pub returns-in-Occupied-clause-granted : goal.returns-in-Occupied-clause-granted
returns-in-Occupied-clause-granted c free room =
    let found = c.in-Occupied.ensures in
    absurd (found.is_found.some (rw (found.unchanged, found.keys.key1, found.keys.key2) (none_found (bag c.args.visits.now) c.args.visit free)))

pub returns-in-Occupied-clause-occupied : goal.returns-in-Occupied-clause-occupied
returns-in-Occupied-clause-occupied c = λ _ free.
    let found = c.in-Occupied.ensures in
    found.is_found.some (rw (found.unchanged, found.keys.key1, found.keys.key2) (none_found (bag c.args.visits.now) c.args.visit free))

-- the entry has the visit's own keys, so that an insert fails only for lack of memory
pub returns-in-Err-clause-full : goal.returns-in-Err-clause-full
returns-in-Err-clause-full c = λ _.
    let asked = c.in-Vacant.ensures in
    let back = c.in-Err.ensures.hands_back in
    let own : error_rank c.in-Err.e ≡ None = sym back.rank ∙ rw (asked.keys.key1, asked.keys.key2, nat_eq_equiv.refl c.args.visit.number, nat_eq_equiv.refl c.args.visit.page) refl in
    rw (← asked.unchanged) (back.memory own)
