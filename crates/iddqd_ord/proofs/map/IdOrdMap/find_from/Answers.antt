use Rattle.std.proofs.Common.{Some, length, refl, sym, ap, ◌∙◌, arith}
use Rattle.std.proofs.lemmas.Fn.{called_at}
use Rattle.std.proofs.lemmas.Option.{slice_get-get_or}
use Rattle.std.specs.Fn.{CalledAt}
use Rattle.iddqd_store.proofs.BagLemmas.Calling.{TakesEach-in_turn, takes_first, takes_others}
use Rattle.iddqd_ord.specs.Items.{items}
use Rattle.iddqd_order.specs.Row.{position, index_of}
use Rattle.iddqd_ord.proofs.ExtractLemmas.{rejected_none, rejected_on, finds, finds_none}
use Rattle.iddqd_ord.proofs.map.IdOrdMap.find_from.Goals as goal

pub loop-next-init : goal.loop-next-init
loop-next-init g c =
    let m = c.args.self.now in
    record {
      entry = c.requires.there;
      rejected = rejected_none (CalledAt g.F.FnMut) c.args.f (items m) (index_of m.blocks c.args.from);
      callable = TakesEach-in_turn g.F.FnMut c.args.f _ c.requires.callable;
    }

pub f-requires : goal.f-requires
f-requires g c =
    let at = c.loop-next in
    takes_first g.F.FnMut at.f _ c.item_in.result.now _ c.item_in.ensures.first (rw c.in-Some.is at at.invariant.callable) c.item_in.result refl

pub loop-next-preserved : goal.loop-next-preserved
loop-next-preserved g c =
    let m = c.args.self.now in
    let at = c.loop-next in
    let i = position m.blocks c.in-Some.place in
    let x = c.item_in.result.now in
    let here = c.item_in.ensures in
    let called = called_at g.F.FnMut c.f.ensures c.if-f.false in
    let found = slice_get-get_or (items m) i x here.within ∙ ap Some (sym (here.item x)) in
    record {
      entry = c.next_place-next.ensures.entry;
      rejected = rw c.next_place-next.ensures.index
          (rejected_on (CalledAt g.F.FnMut) c.args.f at.f c.f.new.self (items m) (index_of m.blocks c.args.from) i x found called (rw c.in-Some.is at at.invariant.rejected));
      callable = rw c.next_place-next.ensures.index
          (takes_others g.F.FnMut at.f _ x _ _ c.f.new.self here.first called (rw c.in-Some.is at at.invariant.callable));
    }

pub loop-next-smaller : goal.loop-next-smaller
loop-next-smaller g c = rw (c.in-Some.is, c.next_place-next.ensures.index) (omega (arith, ap length c.item_in.ensures.first))

pub returns-then-f-clause-finds : goal.returns-then-f-clause-finds
returns-then-f-clause-finds g c =
    let m = c.args.self.now in
    let at = c.loop-next in
    let i = position m.blocks c.in-Some.place in
    let x = c.item_in.result.now in
    let here = c.item_in.ensures in
    let found = slice_get-get_or (items m) i x here.within ∙ ap Some (sym (here.item x)) in
    finds (CalledAt g.F.FnMut) c.args.f at.f c.f.new.self (items m) (index_of m.blocks c.args.from) i x found (called_at g.F.FnMut c.f.ensures c.if-f.true) (rw c.in-Some.is at at.invariant.rejected)

pub returns-clause-finds : goal.returns-clause-finds
returns-clause-finds g c =
    let m = c.args.self.now in
    let at = c.loop-next in
    finds_none (CalledAt g.F.FnMut) c.args.f at.f (items m) (index_of m.blocks c.args.from) (length (items m)) (omega arith) (rw c.in_default.is at at.invariant.rejected)
