use Rattle.std.proofs.Common.{◌∷◌, [], ◌++◌, List, length, refl, sym, ap, ◌∙◌, arith, append_assoc}
use Rattle.std.specs.Prelude.{reverse}
use Rattle.std.proofs.lemmas.List.{append-nil, reverse-append, length-append}
use Rattle.iddqd_order.proofs.block.Block.split_into.Goals as goal

pub loop-tail-init : goal.loop-tail-init
loop-tail-init g c = record {
  parts = rw c.requires.empty (append-nil c.args.self.now.entries);
  within = omega (arith, c.requires.within);
  counted = rw c.requires.empty (omega arith);
  same = refl;
  same_tail = refl;
}

pub loop-tail-preserved : goal.loop-tail-preserved
loop-tail-preserved g c =
    let i = c.loop-tail.invariant in
    let left = c.take_last.new.self.entries in
    let moved = c.loop-tail.tail.entries in
    let x = c.take_last.result in
    let long = ap length c.take_last.ensures.parts ∙ length-append left (x ∷ []) in
    record {
      parts = rw (c.push.ensures.entries, reverse-append moved (x ∷ [])) (sym (append_assoc left (x ∷ []) (reverse moved)) ∙ ap (λ (q : List g.row.E.Denot). q ++ reverse moved) (sym c.take_last.ensures.parts) ∙ i.parts);
      within = omega (arith, long, c.loop-tail-test.true);
      counted = rw (c.push.ensures.entries, length-append moved (x ∷ [])) (omega (arith, long, i.counted));
      same = c.take_last.ensures.room ∙ i.same;
      same_tail = c.push.ensures.room ∙ i.same_tail;
    }

pub push-requires : goal.push-requires
push-requires g c =
    let i = c.loop-tail.invariant in
    let long = ap length c.take_last.ensures.parts ∙ length-append c.take_last.new.self.entries (c.take_last.result ∷ []) in
    omega (arith, i.counted, i.same_tail, c.requires.room, c.loop-tail-test.true, long)
