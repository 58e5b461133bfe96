-- Made by tests/widths from crates/iddqd_bi/proofs/map/BiHashMap/rebuild/Answers.antt: change that file.
use Rattle.std.proofs.Common.{arith, ◌≡◌, ◌≤◌, ◌<◌, length, ℕ}
use Rattle.std.specs.Prelude.{min, max}
use Rattle.iddqd_store.proofs.RankLemmas.Fill.{contents-compact}
use Rattle.iddqd_store.proofs.SlotLemmas.Contents.{length-contents}
use Rattle.iddqd_store.proofs.RankLemmas.Invariant.{IsIndexed-move}
use Rattle.iddqd_store.proofs.MapLemmas.{on_err}
use Rattle.iddqd_store.specs.Map.{bag}
use Rattle.iddqd_store.specs.Slots.{live_count}
use Rattle.iddqd_tri.proofs.map.TriHashMap.rebuild.Goals as goal

something : (slots : ℕ) {count len wanted : ℕ} → len ≡ count → len ≤ wanted → 0 < max count (min wanted slots) → 0 < wanted
something slots all enough is = omega arith

exact : {count len slots room wanted new first second third : ℕ} → len ≡ count → len ≤ wanted → wanted ≤ room → room ≤ slots
    → new ≡ max count (min wanted slots) → wanted ≤ first → wanted ≤ second → wanted ≤ third → min new (min first (min second third)) ≡ wanted
exact all enough below within made enough1 enough2 enough3 = omega arith

pub returns-in_err-shrink_to-clause-reason : goal.returns-in_err-shrink_to-clause-reason
returns-in_err-shrink_to-clause-reason g c =
    let all : length (bag c.args.self.now) ≡ live_count c.self.inside.items.slots = rw (← c.self.view_is) (length-contents c.self.inside.items.slots) in
    on_err _ (something _ all c.requires.enough c.in_err-shrink_to.ensures.reason)

pub invariant_of-self-2 : goal.invariant_of-self-2
invariant_of-self-2 g c =
    let same = contents-compact c.self.inside.items.slots c.shrink_to.new.self.slots c.in_ok-shrink_to.ensures.slots in
    IsIndexed-move c.self.invariant same
    (rw c.in_ok-shrink_to.ensures.slots c.fill_ahead.ensures.index, (rw c.in_ok-shrink_to.ensures.slots c.fill_ahead-2.ensures.index, (rw c.in_ok-shrink_to.ensures.slots c.fill_ahead-3.ensures.index, tt)))

pub returns-clause-items : goal.returns-clause-items
returns-clause-items g c = rw (← c.self.view_is) (contents-compact c.self.inside.items.slots c.shrink_to.new.self.slots c.in_ok-shrink_to.ensures.slots)

pub returns-clause-capacity : goal.returns-clause-capacity
returns-clause-capacity g c =
    let all : length (bag c.args.self.now) ≡ live_count c.self.inside.items.slots = rw (← c.self.view_is) (length-contents c.self.inside.items.slots) in
    let within : c.args.self.now.capacity ≤ c.self.inside.items.capacity = rw (← c.self.view_is) (omega arith) in
    exact all c.requires.enough c.requires.shrinks within c.in_ok-shrink_to.ensures.capacity
    (rw c.fill_ahead.ensures.limit (omega (arith, c.pairs_for.ensures.enough, c.in_ok-first.ensures.limit.enough)))
    (rw c.fill_ahead-2.ensures.limit (omega (arith, c.pairs_for-2.ensures.enough, c.in_ok-second.ensures.limit.enough)))
    (rw c.fill_ahead-3.ensures.limit (omega (arith, c.pairs_for-3.ensures.enough, c.in_ok-third.ensures.limit.enough)))

pub fill_ahead-requires-clause-room : goal.fill_ahead-requires-clause-room
fill_ahead-requires-clause-room g c =
    let all : length (bag c.args.self.now) ≡ live_count c.self.inside.items.slots = rw (← c.self.view_is) (length-contents c.self.inside.items.slots) in
    omega (arith, all, c.requires.enough, c.pairs_for.ensures.enough, c.in_ok-first.ensures.limit.enough)

pub fill_ahead-requires-2-clause-room : goal.fill_ahead-requires-2-clause-room
fill_ahead-requires-2-clause-room g c =
    let all : length (bag c.args.self.now) ≡ live_count c.self.inside.items.slots = rw (← c.self.view_is) (length-contents c.self.inside.items.slots) in
    omega (arith, all, c.requires.enough, c.pairs_for-2.ensures.enough, c.in_ok-second.ensures.limit.enough)

pub fill_ahead-requires-3-clause-room : goal.fill_ahead-requires-3-clause-room
fill_ahead-requires-3-clause-room g c =
    let all : length (bag c.args.self.now) ≡ live_count c.self.inside.items.slots = rw (← c.self.view_is) (length-contents c.self.inside.items.slots) in
    omega (arith, all, c.requires.enough, c.pairs_for-3.ensures.enough, c.in_ok-third.ensures.limit.enough)
