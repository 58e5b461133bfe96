use Rattle.std.proofs.Common.{◌≡◌, ◌≢◌, ℕ, ◌+◌, ◌-◌, ◌<◌, ◌++◌, List, length, set, ap, ◌∙◌, sym, subst, arith}
use Rattle.std.proofs.lemmas.List.{length-append, length-set, get_or-set_other, set_comm, set-set}
use Rattle.std.proofs.lemmas.List.Elements.{All-set}
use Rattle.iddqd_order.specs.Row.{BlockValue, entry_lists, block_at, IsHeld, IsMoved}
use Rattle.iddqd_order.proofs.LineLemmas.{block_read, length-entry_lists, All-read, IsMoved-entry_lists}
use Rattle.iddqd_order.proofs.row.BlockRow.pull.Goals as goal

-- what stood in a place for a while is gone
stood : {X : Type 0} (xs : List X) (i j : ℕ) (x y z : X) → i ≢ j → set (set (set xs j x) i y) j z ≡ set (set xs i y) j z
stood xs i j x y z other = ap (λ q. set q j z) (sym (set_comm xs i j y x other)) ∙ set-set (set xs i y) j x z

pub invariant_of-self : goal.invariant_of-self
invariant_of-self g c =
    let values = c.self.inside.blocks.items in
    let at = c.args.at in
    let i = c.self.invariant in
    let memory = c.self.inside.memory in
    let there = rw (← c.self.view_is) at c.requires.within in
    let many = rw (← c.self.view_is) at c.requires.many in
    let fits = rw (← c.self.view_is) at c.requires.room in
    let within : at + 1 < length values = omega (arith, there, length-entry_lists values) in
    let none = c.replace-next.new.dest in
    let block = c.index_mut-block.result.now in
    let next = c.index_mut.result.now in
    let full = c.pull.new.self in
    let rest = c.replace-none.new.dest in
    let read : block ≡ _ = c.index_mut-block.ensures.value ∙ get_or-set_other values (at + 1) at none block (λ e. absurd (omega (arith, e))) in
    let head = All-read (IsHeld memory) values at block (omega (arith, within)) read i.held in
    let tail = All-read (IsHeld memory) values (at + 1) next within c.index_mut.ensures.value i.held in
    let here = ap length (block_read values at block (omega (arith, within)) read) in
    let beside = ap length (block_read values (at + 1) next within c.index_mut.ensures.value) in
    let taken = c.replace-next.ensures.value in
    let put = c.replace-none.ensures.after in
    let parts = c.pull.ensures.all ∙ ap (λ (q : BlockValue g.row.E.Denot). block.entries ++ q.entries) taken in
    let sum = sym (length-append full.entries c.pull.new.next.entries) ∙ ap length parts ∙ length-append block.entries next.entries in
    let left = ap (λ (q : BlockValue g.row.E.Denot). length q.entries) put in
    let room = ap (λ (q : BlockValue g.row.E.Denot). q.room) put in
    let was = ap (λ (q : BlockValue g.row.E.Denot). q.room) taken in
    rw (stood values at (at + 1) none full rest (λ e. absurd (omega (arith, e)))) (record {
      held = All-set (IsHeld memory) (set values at full) (at + 1) rest (record {
        room = omega (arith, tail.room, room, was, c.pull.ensures.next_room);
        some = omega (arith, sum, left, many, beside, c.pull.ensures.longer);
        most = omega (arith, sum, left, tail.most, c.pull.ensures.longer);
      }) (All-set (IsHeld memory) values at full (record {
        room = omega (arith, head.room, c.pull.ensures.room);
        some = omega (arith, head.some, c.pull.ensures.longer);
        most = omega (arith, fits, here, c.pull.ensures.longer);
      }) i.held);
      unused = i.unused;
      row_fits = omega (arith, i.row_fits, length-set values at full, length-set (set values at full) (at + 1) rest);
      spare_fits = omega (arith, i.spare_fits, length-set values at full, length-set (set values at full) (at + 1) rest);
      few = λ small. absurd (omega (arith, i.few small, within));
      memory_most = i.memory_most;
      least = i.least;
      low = i.low;
      high = λ wide. absurd (omega (arith, i.high wide, within));
    })

pub returns-clause-moved : goal.returns-clause-moved
returns-clause-moved g c =
    let values = c.self.inside.blocks.items in
    let at = c.args.at in
    let there = rw (← c.self.view_is) at c.requires.within in
    let within : at + 1 < length values = omega (arith, there, length-entry_lists values) in
    let none = c.replace-next.new.dest in
    let block = c.index_mut-block.result.now in
    let next = c.index_mut.result.now in
    let full = c.pull.new.self in
    let rest = c.replace-none.new.dest in
    let read : block ≡ _ = c.index_mut-block.ensures.value ∙ get_or-set_other values (at + 1) at none block (λ e. absurd (omega (arith, e))) in
    let here = ap length (block_read values at block (omega (arith, within)) read) in
    let beside = ap length (block_read values (at + 1) next within c.index_mut.ensures.value) in
    let parts = ap (λ (q : BlockValue g.row.E.Denot). full.entries ++ q.entries) c.replace-none.ensures.after
    ∙ c.pull.ensures.all ∙ ap (λ (q : BlockValue g.row.E.Denot). block.entries ++ q.entries) c.replace-next.ensures.value in
    let sum = sym (length-append full.entries rest.entries) ∙ ap length parts ∙ length-append block.entries next.entries in
    let moved = IsMoved-entry_lists values at block next full rest within read c.index_mut.ensures.value parts _ _
    (omega (arith, here, c.pull.ensures.longer)) (omega (arith, sum, beside, c.pull.ensures.longer)) in
    let order = stood values at (at + 1) none full rest (λ e. absurd (omega (arith, e))) in
    rw (← c.self.view_is) (subst (λ (q : List (BlockValue g.row.E.Denot)). IsMoved (entry_lists values) (entry_lists q) at (length (block_at (entry_lists values) at) + c.args.count) (length (block_at (entry_lists values) (at + 1)) - c.args.count)) (sym order) moved)
