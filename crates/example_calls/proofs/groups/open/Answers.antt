use Rattle.std.specs.Prelude.{◌≡◌, nat_eq, None, Err}
use Rattle.std.proofs.Common.{sym, ◌∙◌, refl, rules}
use Rattle.std.specs.declared.cmp.PartialEq as equal
use Rattle.std.specs.declared.hash.BuildHasher as builder
use Rattle.std.specs.declared.hash.Hash as hash
use Rattle.std.specs.declared.hash.Hasher as hasher
use Rattle.iddqd_store.specs.declared.query.Query as query
use Rattle.iddqd_bi.specs.Bag.{first_mismatch}
use Rattle.iddqd_bi.specs.Entries.{KeepsFound, OnOccupied, OnVacant, PutsIn, entry_key1, entry_key2, entry_map}
use Rattle.iddqd_bi.specs.Keys.{key_tests, ranks}
use Rattle.iddqd_bi.specs.Map.{IsFullFor, Map, bag}
use Rattle.iddqd_bi.specs.declared.entry.Entry.{Entry}
use Rattle.iddqd_bi.specs.declared.entry.Entry.TheVariants.{Vacant, Occupied}
use Rattle.iddqd_bi.specs.declared.error.EntryRefusal.{EntryRefusal}
use Rattle.iddqd_bi.specs.declared.item.BiHashItem as team
use Rattle.iddqd_bi.proofs.EntryLemmas.{conflicts_of-empty, conflicting-empty, stayed, went_in}
use Rattle.example_calls.specs.contracts.groups.TeamBiHashItem.TheImpl as item
use Rattle.example_calls.proofs.groups.open.Goals as goal

-- what `or_insert` says if it fails: the entry is vacant, and if it has the keys of the item, then the map is full
module _ {T S Q1 Q2 K1 K2 H : Type 0} {of : team.Ghosts T K1 K2} {eq1 : equal.Ghosts K1} {input1 : hash.Ghosts K1} {eq2 : equal.Ghosts K2}
    {input2 : hash.Ghosts K2} {build : builder.Ghosts S H} {hashes : hasher.Ghosts H} {q1 : query.Ghosts Q1 K1} {w1 : hash.Ghosts Q1}
    {e1 : equal.Ghosts Q1} {q2 : query.Ghosts Q2 K2} {w2 : hash.Ghosts Q2} {e2 : equal.Ghosts Q2} where
  refused_full : (e : Entry T S Q1 Q2 K1 K2 H of eq1 input1 eq2 input2 build hashes q1 w1 e1 q2 w2 e2) (r : EntryRefusal T S K1 K2 H) (x : T) (k1 : Q1) (k2 : Q2) (old : Map T S) →
      OnVacant e (λ v. PutsIn v x (Err r)) → OnOccupied e (λ o. KeepsFound of q1.stands_for q2.stands_for o (Err r)) → entry_key1 e ≡ k1 → entry_key2 e ≡ k2 → entry_map e ≡ old →
      first_mismatch (key_tests of q1.stands_for q2.stands_for k1 k2) x ≡ None → IsFullFor (ranks of eq1.eq eq2.eq) old x
  refused_full (Vacant v) r x k1 k2 old put kept is1 is2 is same =
      rw (← is) (put.hands_back.memory (sym put.hands_back.rank ∙ rw (← is1, ← is2) at same))
  refused_full (Occupied o) r x k1 k2 old put kept is1 is2 is same = absurd (cc kept.granted)

-- the entry is vacant if nothing conflicts with the team
pub returns-in-Ok-clause-opened : goal.returns-in-Ok-clause-opened
returns-in-Ok-clause-opened c = λ free.
    let asked = c.entry.ensures in
    let held = c.in-Ok in
    rw (c.teams-1.given.1 (sym (held.ensures.same_map ∙ asked.same_map)))
    (went_in c.entry.result held._held c.args.team _ _ c.args.teams.now held.ensures.puts_in asked.is_found asked.keys.key1 asked.keys.key2
    asked.unchanged (conflicting-empty (ranks item.ghosts nat_eq nat_eq) (bag c.args.teams.now) c.args.team free))

-- otherwise it is occupied
pub returns-in-Ok-clause-kept : goal.returns-in-Ok-clause-kept
returns-in-Ok-clause-kept c = λ taken.
    let asked = c.entry.ensures in
    let held = c.in-Ok in (
      refl,
      c.teams-1.given.1 (sym (held.ensures.same_map ∙ asked.same_map))
          ∙ stayed c.entry.result held._held _ _ c.args.teams.now held.ensures.keeps_found asked.keys.key1 asked.keys.key2 asked.unchanged
          (λ none. taken (conflicts_of-empty (ranks item.ghosts nat_eq nat_eq) (bag c.args.teams.now) c.args.team none)),
    )

-- an entry that does not take the team is vacant, and it has the keys of the team
pub returns-in-Err-clause-full : goal.returns-in-Err-clause-full
returns-in-Err-clause-full c = refused_full c.entry.result c.in-Err.e c.args.team _ _ c.args.teams.now c.in-Err.ensures.puts_in
    c.in-Err.ensures.keeps_found c.entry.ensures.keys.key1 c.entry.ensures.keys.key2 c.entry.ensures.unchanged (search rules)
