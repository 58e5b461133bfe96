use Rattle.std.proofs.Common.{◌≡◌, ℕ, List}
use Rattle.std.specs.Prelude.{All, nat_eq}
use Rattle.std.specs.Fn.{CalledAt}
use Rattle.std.specs.List.{IsDistinct}
use Rattle.iddqd_store.specs.Bag.{agrees}
use Rattle.iddqd_store.specs.Bag.Storing.{Stores}
use Rattle.iddqd_store.specs.Map.{bag}
use Rattle.iddqd_store.specs.Slots.{IsLive}
use Rattle.iddqd_store.specs.Slots.Found.{items_at}
use Rattle.iddqd_store.specs.Slots.Kept.{KeepsKeys}
use Rattle.iddqd_store.proofs.BagLemmas.Calling.{TakesEach}
use Rattle.iddqd_bi.specs.Keys.{ranks}
use Rattle.iddqd_bi.proofs.map.BiHashMap.store_all.Given as goal

-- what is stored at the other slots from here completes what is stored at all of them from the start
abbrev pub invariant-loop-slot : goal.invariant-loop-slot
invariant-loop-slot g l =
    let ranks = ranks g.T.BiHashItem g.T.K1.PartialEq.eq g.T.K2.PartialEq.eq in
    let stores = Stores (CalledAt g.F.FnMut) g.T.BiHashItemMut.put ranks in
    record {
      live : All (IsLive l.self.slots) l.slot-iterator;
      apart : IsDistinct nat_eq l.slot-iterator;
      callable : TakesEach g.F.FnMut l.f (items_at l.self.slots l.slot-iterator);
      completes : (new : List g.row.T.Denot) → stores l.f (items_at l.self.slots l.slot-iterator) (bag l.self) new → stores l.fn.f (items_at l.fn.self.slots l.found) (bag l.fn.self) new;
      kept : KeepsKeys (agrees ranks) l.fn.self.slots l.self.slots;
      live_still : (at : ℕ) → IsLive l.fn.self.slots at → IsLive l.self.slots at;
      capacity : l.self.capacity ≡ l.fn.self.capacity;
      builder : l.self.builder ≡ l.fn.self.builder;
    }
