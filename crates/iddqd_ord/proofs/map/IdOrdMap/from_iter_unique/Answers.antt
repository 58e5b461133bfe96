use Rattle.std.proofs.Common.{[], rules, refl, length, sym, ap, ◌∙◌, arith}
use Rattle.std.proofs.lemmas.List.Sorted.{IsPermutation-refl}
use Rattle.iddqd_store.proofs.Plain.{by_order}
use Rattle.iddqd_ord.specs.Items.{items, with_item}
use Rattle.iddqd_ord.proofs.InsertLemmas.{IsPermutation-added}
use Rattle.iddqd_ord.proofs.ExtendLemmas.{fold-push}
use Rattle.iddqd_order.proofs.FilterLemmas.{found-split}
use Rattle.iddqd_ord.proofs.map.IdOrdMap.from_iter_unique.Goals as goal

pub loop-item-init : goal.loop-item-init
loop-item-init g c = record {
  callable = search rules;
  ending = search rules;
  added = rw c.new-map.ensures.empty record { lists = refl; all = IsPermutation-refl [] };
  ascending = rw c.new-map.ensures.empty (λ i j d lt in_range. absurd (omega (arith, in_range)));
  fits = omega (arith, ap length c.new-map.ensures.empty);
  most = omega (arith, c.new-map.ensures.capacity);
}

pub loop-item-preserved : goal.loop-item-preserved
loop-item-preserved g c =
    let at = c.loop-item in
    let of = g.T.IdOrdItem in
    let cmp = g.T.Key.Ord.cmp in
    let x = c.in-Some.item in
    let gains = c.in_default.ensures.gains in
    record {
      callable = search rules;
      ending = search rules;
      added = record {
        lists = gains.lists ∙ ap (λ l. with_item of cmp l x) at.invariant.added.lists ∙ sym (fold-push (with_item of cmp) [] at.yielded x);
        all = IsPermutation-added of cmp x (items at.map) (items c.insert_or_refuse.new.self) at.yielded at.invariant.added.all c.in_default.ensures.free gains.lists;
      };
      ascending = c.in_default.ensures.ascending;
      fits = gains.fits;
      most = by_order (length (items at.map)) at.map.capacity
          (λ spare. omega (arith, at.invariant.most, gains.same_room spare, gains.more))
          (λ full. omega (arith, gains.most, full, gains.more));
    }

pub returns-in-Ok-clause-refused : goal.returns-in-Ok-clause-refused
returns-in-Ok-clause-refused g c =
    let found = rw c.key.ensures at c.in-Ok.ensures.found in
    let only = found-split _ _ _ found _ (c.remove_in-duplicate.ensures.item _) in
    rw c.new-in-Ok.ensures (c.into_iter-item-iterator.result, c.loop-item.yielded, c.next.new.self, search rules, search rules, (items c.loop-item.map, c.loop-item.invariant.added, only))
