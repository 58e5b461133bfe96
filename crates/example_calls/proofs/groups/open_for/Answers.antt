use Rattle.std.specs.Prelude.{◌≡◌, List, [], ◌∷◌, Result, Ok, Err, IsPermutation}
use Rattle.std.proofs.Common.{refl, sym, ◌∙◌}
use Rattle.std.specs.declared.cmp.PartialEq as equal
use Rattle.std.specs.declared.hash.BuildHasher as builder
use Rattle.std.specs.declared.hash.Hash as hash
use Rattle.std.specs.declared.hash.Hasher as hasher
use Rattle.iddqd_store.specs.declared.query.Query as query
use Rattle.iddqd_bi.specs.Bag.{entry, entry_of, listing, vacant}
use Rattle.iddqd_bi.specs.Entries.{IsFound, OnVacant, PutsInMade, entry_key1, entry_key2, entry_map}
use Rattle.iddqd_bi.specs.Keys.{key_tests}
use Rattle.iddqd_bi.specs.Map.{Map, bag}
use Rattle.iddqd_bi.specs.declared.entry.Entry.{Entry}
use Rattle.iddqd_bi.specs.declared.entry.Entry.TheVariants.{Vacant, Occupied}
use Rattle.iddqd_bi.specs.declared.entry.OccupiedEntryMut.{OccupiedEntryMut}
use Rattle.iddqd_bi.specs.declared.item.BiHashItem as item
use Rattle.example_calls.proofs.groups.open_for.Goals as goal

module _ {T : Type 0} where
  unlisted : (listed whole : List T) → entry_of listed whole ≡ vacant → listed ≡ []
  unlisted [] whole is = refl
  unlisted (x ∷ listed) [] is = absurd (cc is)
  unlisted (x ∷ listed) (y ∷ whole) is = absurd (cc is)

-- if the keys find nothing, the item that the closure made is in the map
module _ {T S Q1 Q2 K1 K2 H E : Type 0} {of : item.Ghosts T K1 K2} {eq1 : equal.Ghosts K1} {input1 : hash.Ghosts K1} {eq2 : equal.Ghosts K2}
    {input2 : hash.Ghosts K2} {build : builder.Ghosts S H} {hashes : hasher.Ghosts H} {q1 : query.Ghosts Q1 K1} {w1 : hash.Ghosts Q1}
    {e1 : equal.Ghosts Q1} {q2 : query.Ghosts Q2 K2} {w2 : hash.Ghosts Q2} {e2 : equal.Ghosts Q2} where
  made_in : (Made : Result T E → Type 0) (e : Entry T S Q1 Q2 K1 K2 H of eq1 input1 eq2 input2 build hashes q1 w1 e1 q2 w2 e2) (m : OccupiedEntryMut T S K1 K2 H) (k1 : Q1) (k2 : Q2) (old : Map T S) →
      OnVacant e (λ v. (made : Result T E) × Made made × PutsInMade v made (Ok m)) → IsFound e → entry_key1 e ≡ k1 → entry_key2 e ≡ k2 → entry_map e ≡ old →
      listing (key_tests of q1.stands_for q2.stands_for k1 k2) (bag old) ≡ [] → (x : T) × Made (Ok x) × IsPermutation (bag m.map.now) (x ∷ bag old)
  made_in Made (Vacant v) m k1 k2 old (Ok x, made, put) found is1 is2 is none = (x, made, rw (← is) put.gains_and_holds.gains.items)
  made_in Made (Vacant v) m k1 k2 old (Err error, made, put) found is1 is2 is none = absurd put
  made_in Made (Occupied o) m k1 k2 old put found is1 is2 is none = absurd (found.some (rw (is1, is2, is) none))

pub returns-in-Ok-clause-opened : goal.returns-in-Ok-clause-opened
returns-in-Ok-clause-opened c = λ is.
    let asked = c.entry.ensures in
    let held = c.in-Ok in
    let it = made_in _ c.entry.result held._held _ _ c.args.teams.now held.ensures.puts_in asked.is_found asked.keys.key1 asked.keys.key2 asked.unchanged (unlisted _ _ is) in
    (it.0, it.1.0, it.1.1, it.1.2, rw (c.teams-1.given.1 (sym (held.ensures.same_map ∙ asked.same_map))) it.2)
