use Rattle.std.proofs.Common.{rules, ◌≡◌, ◌≢◌, ◌<◌, ◌⊎◌, inl, inr, ◌∷◌, [], length, List, ℕ, Bool, true, false, refl, arith}
use Rattle.std.specs.Bool.{OnFalse}
use Rattle.std.proofs.lemmas.List.Sorted.{IsPermutation-sym, length_permutation}
use Rattle.iddqd_bi.specs.Map.{Gains, bag}
use Rattle.iddqd_bi.proofs.CallerLemmas.{conflicts_of-none}
use Rattle.caller_bi.proofs.inserting.insert_both.Goals as goal

-- an insert that has neither reason to fail succeeds
granted : {T : Type 0} (answer : Bool) (met : List T) (held room : ℕ) → OnFalse answer ((met ≢ []) ⊎ (held ≡ room)) → met ≡ [] → held < room → answer ≡ true
granted true met held room reason free fits = refl
granted false met held room (inl some) free fits = absurd (some free)
granted false met held room (inr full) free fits = absurd (omega (arith, full, fits))

-- the second item does not conflict with the first, and there is room for it
pub returns-then-has_a-clause-granted : goal.returns-then-has_a-clause-granted
returns-then-has_a-clause-granted g c free_a free_b room =
    let middle = c.insert_or_drop-has_a.new.map in
    let gains : Gains 1 c.args.map.now c.args.a middle = search (rules, c.insert_or_drop-has_a.ensures.gains, c.if-has_a.true) in
    let as_many : length (c.args.a ∷ bag c.args.map.now) ≡ length (bag middle) = length_permutation _ _ gains.items in
    granted c.insert_or_drop-has_b.result _ (length (bag middle)) middle.capacity c.insert_or_drop-has_b.ensures.reason
    (conflicts_of-none g.T.Ranked.ranks _ _ c.args.b (IsPermutation-sym _ _ gains.items) free_b)
    (omega (arith, as_many, room, c.insert_or_drop-has_a.ensures.no_less_room))
