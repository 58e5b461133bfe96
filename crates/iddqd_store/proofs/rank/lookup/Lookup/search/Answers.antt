use Rattle.std.proofs.Common.{rules}
use Rattle.std.specs.Prelude.{ℕ, Bool, List, Option}
use Rattle.std.specs.Option.{option_and_then}
use Rattle.iddqd_store.specs.declared.index_table.searched.Searched.{Searched}
use Rattle.iddqd_store.specs.declared.index_table.searched.Searched.TheVariants.{Found, Vacant}
use Rattle.iddqd_store.specs.Bag.{IsOnly}
use Rattle.iddqd_store.specs.Searched.{found_of, IfFound}
use Rattle.iddqd_store.specs.Slots.Found.{FoundAt}
use Rattle.iddqd_store.specs.Slots.{IsLive, contents, get}
use Rattle.iddqd_store.proofs.rank.lookup.Lookup.search.Goals as goal

found_at : {T V : Type 0} (test : T → Bool) (slots : List (Option T)) (r : Searched ℕ V)
    → IsOnly test (contents slots) (option_and_then (get slots) (found_of r)) → IfFound r (IsLive slots) → FoundAt test slots (found_of r)
found_at test slots (Found at) only live = record { only = only; live = live }
found_at test slots (Vacant at) only live = record { only = only; live = tt }

pub returns : goal.returns
returns g c =
    let slots = c.args.self.now.slots in
    let test = λ (x : g.row.T.Denot). g.Q.Query.stands_for c.args.query (g.R.KeyOf.key x) in
    let only : IsOnly test (contents slots) (option_and_then (get slots) (found_of c.search_with.result)) = search rules in
    record {
      found = found_at test slots c.search_with.result only c.search_with.ensures.live;
      hashed = c.search_with.ensures.hashed;
      vacant = c.search_with.ensures.vacant;
      cells = c.search_with.ensures.cells;
      costs = rw (← c.costs.view_is) (rw c.new.ensures.so_far at c.search_with.ensures.costs);
    }
