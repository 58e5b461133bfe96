use Rattle.std.proofs.Common.{arith, refl, rules}
use Rattle.std.proofs.lemmas.List.Sorted.{length_permutation, IsPermutation-trans}
use Rattle.iddqd_store.proofs.MapLemmas.Growing.{refuses, grows, least_of, slots_grow, slots_most, table_grows}
use Rattle.iddqd_store.proofs.RankLemmas.Invariant.{IsIndexed-reorder}
use Rattle.iddqd_bi.proofs.map.BiHashMap.grow.Goals as goal

pub returns-in_default : goal.returns-in_default
returns-in_default g c = rw (← c.self.view_is) (refuses _ refl refl refl c.self.invariant (λ all. (refl, grind arith)))

pub returns-in_err-first : goal.returns-in_err-first
returns-in_err-first g c = rw (← c.self.view_is) (refuses _ c.from_residual.ensures.0 refl refl c.self.invariant (λ all. (refl, grind arith)))

pub returns-in_err-second : goal.returns-in_err-second
returns-in_err-second g c = rw (← c.self.view_is) (refuses _ c.from_residual-in_err-second.ensures.0 refl refl c.self.invariant (λ all. (refl, grind arith)))

pub returns-in_err-try_reserve : goal.returns-in_err-try_reserve
returns-in_err-try_reserve g c = refuses _ c.from_residual-in_err-try_reserve.ensures.0 c.self.view_is c.in_err-try_reserve.ensures.slots c.self.invariant
    (λ all. rw c.in_err-try_reserve.ensures.unchanged (refl, grind arith))

pub invariant_of-self-2 : goal.invariant_of-self-2
invariant_of-self-2 g c = rw c.in_ok-try_reserve.ensures.slots (IsIndexed-reorder c.self.invariant (search rules))

pub returns : goal.returns
returns g c =
    let wanted = c.in-Some.ensures in
    let slots = c.slots_wanted.ensures in
    let len = c.len-len.ensures.value in
    let room = c.capacity.ensures.value in
    let same = c.capacity-2.ensures.value in
    let grown = c.in_ok-try_reserve.ensures.room in
    grows c.self.inside.items.capacity c.self.view_is c.in_ok-try_reserve.ensures.slots c.self.invariant (λ all. (
      λ past. c.in_ok-first.ensures.past (omega (arith, past, wanted.enough, all.0)),
      least_of (slots_grow _ slots.enough (λ fit. slots.as_asked (omega (arith, fit, len, same))) (λ far. omega (arith, slots.most far, len, same)) grown (λ fits. omega (arith, fits)))
          (least_of (table_grows _ all.0 wanted.enough c.in_ok-first.ensures.spare c.take_over.ensures.stays c.take_over.ensures.limit
          (λ exact. wanted.as_asked (omega (arith, exact, len, room))) (λ fits. omega (arith, fits)) (λ fits. omega (arith, fits)))
          (table_grows _ all.1.0 wanted.enough c.in_ok-second.ensures.spare c.take_over-2.ensures.stays c.take_over-2.ensures.limit
          (λ exact. wanted.as_asked (omega (arith, exact, len, room))) (λ fits. omega (arith, fits)) (λ fits. omega (arith, fits)))),
      λ small. omega (arith, slots_most _ slots.enough (λ far. omega (arith, slots.most far, len, same)) grown small),
    ))
