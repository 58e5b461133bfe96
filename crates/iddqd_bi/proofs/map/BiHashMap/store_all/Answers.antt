use Rattle.std.proofs.Common.{refl, ◌∙◌}
use Rattle.std.specs.Prelude.{nat_eq}
use Rattle.std.specs.Fn.{CalledAt}
use Rattle.std.proofs.lemmas.List.Elements.{All-tail}
use Rattle.std.proofs.lemmas.Map.Keys.{IsDistinct-tail}
use Rattle.iddqd_store.specs.Map.Written.{map_with}
use Rattle.iddqd_store.specs.Slots.{IsLive}
use Rattle.iddqd_store.specs.Slots.Found.{items_at}
use Rattle.iddqd_store.proofs.BagLemmas.Calling.{TakesEach-in_turn}
use Rattle.iddqd_store.proofs.MapLemmas.Storing.{live_elsewhere, one_store, stays_live, takes_elsewhere}
use Rattle.iddqd_store.proofs.SlotLemmas.Kept.{kept-same, kept-set}
use Rattle.iddqd_bi.specs.Keys.{ranks}
use Rattle.iddqd_bi.proofs.MapLemmas.{AreLawful-ranks, agrees-keys}
use Rattle.iddqd_bi.proofs.map.BiHashMap.store_all.Goals as goal

pub loop-slot-preserved : goal.loop-slot-preserved
loop-slot-preserved g c =
    let ranks = ranks g.T.BiHashItem g.T.K1.PartialEq.eq g.T.K2.PartialEq.eq in
    let slot = c.in-Some.slot.now in
    let rest = c.next.new.self in
    let held = c.loop-slot.self in
    let so_far = c.loop-slot.invariant in
    let stored = c.store_at.ensures.stored in
    let written = λ (x : g.row.T.Denot). g.T.BiHashItemMut.put x stored.1 in
    let next = c.in-Some.ensures.steps in
    let apart = rw next at so_far.apart in
    let live = rw next at so_far.live in
    let callable = rw next at so_far.callable in
    let completes = rw next at so_far.completes in
    rw stored.4 record {
      live = live_elsewhere held slot written rest apart (All-tail (IsLive held.slots) slot rest live);
      apart = IsDistinct-tail nat_eq slot rest apart;
      callable = takes_elsewhere g.F.FnMut c.loop-slot.f c.store_at.new.f held slot rest stored.0 stored.1 written apart stored.2 stored.3 callable;
      completes = λ new stores.
          completes new (one_store (CalledAt g.F.FnMut) g.T.BiHashItemMut.put ranks c.loop-slot.f c.store_at.new.f held
          (map_with held slot written) new slot rest stored.0 stored.1 apart stored.2 stored.3 refl (rw stored.4 at stored.5) stores);
      kept = rw stored.2 (kept-set ranks (AreLawful-ranks g.T.BiHashItem g.met.T.K1.Eq.laws g.met.T.K2.Eq.laws)
          c.args.self.now.slots held.slots slot stored.0 (written stored.0) so_far.kept stored.2
          (agrees-keys g.T.BiHashItem g.T.K1.PartialEq.eq g.T.K2.PartialEq.eq stored.0 (written stored.0)
          (g.met.T.K1.Eq.laws.symm _ _ ∙ g.met.T.BiHashItemMut.keeps_key1 stored.0 stored.1)
          (g.met.T.K2.Eq.laws.symm _ _ ∙ g.met.T.BiHashItemMut.keeps_key2 stored.0 stored.1)));
      live_still = λ k there. stays_live written held slot k (so_far.live_still k there);
      capacity = so_far.capacity;
      builder = so_far.builder;
    }

pub loop-slot-init : goal.loop-slot-init
loop-slot-init g c = rw (c.into_iter-slot-iterator.ensures.into_iter_gives, c.iter-slot-items.ensures.gives) record {
  live = c.requires.live;
  apart = c.requires.apart;
  callable = TakesEach-in_turn g.F.FnMut c.args.f (items_at c.args.self.now.slots c.args.found.now) c.requires.callable;
  completes = λ new stores. stores;
  kept = kept-same (ranks g.T.BiHashItem g.T.K1.PartialEq.eq g.T.K2.PartialEq.eq)
      (AreLawful-ranks g.T.BiHashItem g.met.T.K1.Eq.laws g.met.T.K2.Eq.laws) c.args.self.now.slots;
  live_still = λ at there. there;
  capacity = refl;
  builder = refl;
}
