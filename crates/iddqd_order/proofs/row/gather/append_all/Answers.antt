use Rattle.std.proofs.Common.{◌≡◌, List, [], ◌∷◌, ◌++◌, length, reverse, sym, ap, ◌∙◌, arith, append_assoc}
use Rattle.std.proofs.lemmas.List.{append-nil, length-append, reverse-append, reverse-reverse, nil_from_length}
use Rattle.iddqd_order.specs.Row.{BlockValue, line, entry_lists}
use Rattle.iddqd_order.proofs.row.gather.append_all.Goals as goal

-- the last block of the list is the first of those that are left
last_first : {E : Type 0} (rest all : List (BlockValue E)) (b : BlockValue E) → all ≡ rest ++ b ∷ [] → line (entry_lists (reverse all)) ≡ b.entries ++ line (entry_lists (reverse rest))
last_first {E} rest all b is = ap (λ (q : List (BlockValue E)). line (entry_lists (reverse q))) is ∙ ap (λ (q : List (BlockValue E)). line (entry_lists q)) (reverse-append rest (b ∷ []))

pub loop-from-init : goal.loop-from-init
loop-from-init g c = record {
  all = ap (λ (q : List (BlockValue g.row.E.Denot)). c.args.wide.now.entries ++ line (entry_lists q)) (ap reverse c.reverse.ensures.items ∙ reverse-reverse c.args.from.now.items);
  room = c.reverse.ensures.capacity;
  no_less = omega arith;
}

pub append-requires : goal.append-requires
append-requires g c =
    let first = last_first c.take_last-block.new.self.items c.loop-from.from.items c.take_last-block.result c.take_last-block.ensures.items in
    let all = ap length c.loop-from.invariant.all in
    let rest = line (entry_lists (reverse c.take_last-block.new.self.items)) in
    omega (
      arith,
      all,
      c.loop-from.invariant.no_less,
      c.requires,
      ap length first,
      length-append c.take_last-block.result.entries rest,
      length-append c.loop-from.wide.entries (line (entry_lists (reverse c.loop-from.from.items))),
      length-append c.args.wide.now.entries (line (entry_lists c.args.from.now.items)),
    )

pub loop-from-preserved : goal.loop-from-preserved
loop-from-preserved g c =
    let rest = line (entry_lists (reverse c.take_last-block.new.self.items)) in
    let first = last_first c.take_last-block.new.self.items c.loop-from.from.items c.take_last-block.result c.take_last-block.ensures.items in
    record {
      all = ap (λ (q : List g.row.E.Denot). q ++ rest) c.append.ensures.all
          ∙ append_assoc c.loop-from.wide.entries c.take_last-block.result.entries rest
          ∙ ap (λ (q : List g.row.E.Denot). c.loop-from.wide.entries ++ q) (sym first)
          ∙ c.loop-from.invariant.all;
      room = c.take_last-block.ensures.capacity ∙ c.loop-from.invariant.room;
      no_less = omega (arith, c.loop-from.invariant.no_less, c.append.ensures.no_less);
    }

pub returns-clause-all : goal.returns-clause-all
returns-clause-all g c =
    let none = nil_from_length c.loop-from.from.items (omega arith) in
    sym (append-nil c.loop-from.wide.entries)
    ∙ sym (ap (λ (q : List (BlockValue g.row.E.Denot)). c.loop-from.wide.entries ++ line (entry_lists (reverse q))) none)
    ∙ c.loop-from.invariant.all
