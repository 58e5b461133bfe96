use Rattle.std.specs.Prelude.{◌≡◌, nat_eq, List, IsPermutation}
use Rattle.std.proofs.Common.{rules, refl, sym, ◌∙◌}
use Rattle.iddqd_bi.specs.Bag.{Ranks, swap, unique}
use Rattle.iddqd_bi.specs.Entries.{held_entry}
use Rattle.iddqd_bi.specs.Keys.{ranks}
use Rattle.iddqd_bi.specs.Map.{bag}
use Rattle.iddqd_bi.proofs.EntryLemmas.{unique_held}
use Rattle.example_calls.specs.contracts.groups.TeamBiHashItem.TheImpl as item
use Rattle.example_calls.specs.declared.groups.Team.{Team}
use Rattle.example_calls.proofs.groups.join.Goals as goal

abbrev item_ranks : Ranks Team
item_ranks = ranks item.ghosts nat_eq nat_eq

written_as : (new there old : List Team) (t u : Team) → there ≡ old → IsPermutation new (swap item_ranks there t u) → IsPermutation new (swap item_ranks old t u)
written_as new there old t u same p = rw (← same) p

-- the team that was made is inserted
pub returns-in-Ok-insert-clause-opened : goal.returns-in-Ok-insert-clause-opened
returns-in-Ok-insert-clause-opened c = λ none.
    let made = c.in-Ok.ensures in
    (c.in-Ok.team, made.0, made.1, made.2, search rules)

-- the borrowed members are those of the team with both keys
pub returns-in-Some-clause-joined : goal.returns-in-Some-clause-joined
returns-in-Some-clause-joined c = λ t is.
    let asked = c.in-Occupied.ensures in
    let into = c.into_mut-held in
    let found : held_entry into.result ≡ unique t = (into.ensures.holds asked.is_found).value ∙ rw (asked.keys.key1, asked.keys.key2, asked.unchanged) is in
    let one = unique_held into.result t found in
    let value = rw one at c.in-Some.ensures.value in
    let same : c.in-Some.members.now ≡ t.members = search rules in
    let there : bag into.result.map.now ≡ bag c.args.teams.now = rw (into.ensures.map ∙ asked.unchanged) refl in (
      record t { members = c.push.new.self },
      refl,
      refl,
      rw (c.is_ok.ensures.value, ← same) c.push.ensures.items,
      rw (c.teams-in-Some-1.given.1 (sym (into.ensures.same_map ∙ asked.same_map)))
          (written_as _ _ _ t _ there (c.in-Some.ensures.swaps t c.push.new.self one)),
    )
