-- The item that a key finds, among the items in order.
use Rattle.std.proofs.Common.{◌≡◌, ◌≢◌, IsSome, refl, ℕ, ◌<◌, Bool, true, false, not, List, [], ◌∷◌, Option, Some, None, length, get_or, set, sym, ap, ◌∙◌, arith}
use Rattle.std.specs.Prelude.{◌+◌, ◌≤◌, filter, map, IfNone, IsPermutation}
use Rattle.std.specs.List.{remove, list_any}
use Rattle.std.specs.Cmp.{IsTotalOrder}
use Rattle.std.specs.declared.cmp.Ordering.{Ordering}
use Rattle.std.proofs.lemmas.List.{get_or-set_other}
use Rattle.std.proofs.lemmas.List.Sorted.{IsPermutation-sym, list_any-IsPermutation}
use Rattle.iddqd_store.specs.Bag.{IsOnly, Ranks, conflicts_of, do_conflict}
use Rattle.iddqd_store.specs.Rank.{Costs, SearchCosts, walks_within}
use Rattle.iddqd_store.specs.Rank.All.{PlacingCosts}
use Rattle.iddqd_store.specs.Slots.{contents, get, Updates}
use Rattle.iddqd_store.specs.Slots.Found.{FoundAt}
use Rattle.iddqd_store.proofs.MapLemmas.Updating.{any_absent, any_found, found_one}
use Rattle.iddqd_store.proofs.RankLemmas.Costs.{SearchCosts-room}
use Rattle.iddqd_store.proofs.RankLemmas.Placing.{placing}
use Rattle.iddqd_store.proofs.SlotLemmas.Contents.{contents-take}
use Rattle.iddqd_sorted.specs.Batches.{with_items}
use Rattle.iddqd_sorted.specs.Keyed.{MapsOne, RemovingCosts, StoresOne}
use Rattle.iddqd_sorted.specs.declared.entry.Entry.{Entry}
use Rattle.iddqd_sorted.specs.Entries.{IsListed, items_in}
use Rattle.iddqd_sorted.proofs.Costs.{AreSearched-room}
use Rattle.iddqd_sorted.proofs.Finding.{none-permutation, IsOnly-permutation, only_passes, remove-only, all_others}
use Rattle.iddqd_sorted.proofs.Kept.{place, place_within, place_slot}
use Rattle.iddqd_sorted.proofs.Listed.{long, IsPermutation-listed}
use Rattle.iddqd_sorted.proofs.Settling.{item_at_slot, none_left, IsListed-taken, items-taken}

module _ {T K : Type 0} {by : T → T → Ordering} (o : IsTotalOrder by) (sort : T → K) {cmp : K → K → Ordering} (slots : List (Option T)) (es : List (Entry K)) (r : IsListed by sort cmp slots es) (test : T → Bool) where
  -- no item has the key
  pub only_none : FoundAt test slots None → IsOnly test (items_in slots es) None
  only_none found = IsOnly-permutation test _ _ (IsPermutation-listed o sort slots es r) None found.only

  pub others_none : FoundAt test slots None → items_in slots es ≡ filter (λ y. not (test y)) (items_in slots es)
  others_none found = sym (all_others test (items_in slots es) (sym (only_none found)))

  pub any_none : FoundAt test slots None → false ≡ list_any test (items_in slots es)
  any_none found = any_absent test slots found ∙ list_any-IsPermutation test _ _ (IsPermutation-listed o sort slots es r)

  module _ (slot : ℕ) (found : FoundAt test slots (Some slot)) where
    pub any_some : true ≡ list_any test (items_in slots es)
    any_some = any_found test slots slot found ∙ list_any-IsPermutation test _ _ (IsPermutation-listed o sort slots es r)

    module _ (x : T) (there : get slots slot ≡ Some x) where
      -- it is the only item that has the key
      pub only_some : IsOnly test (items_in slots es) (Some x)
      only_some = IsOnly-permutation test _ _ (IsPermutation-listed o sort slots es r) (Some x) (found_one test slots slot x found there)

      -- without it there are those that do not have the key
      pub others_some : (p : ℕ) → p < length es → ((d : Entry K) → (get_or es p d).slot ≡ slot) → remove (items_in slots es) p ≡ filter (λ y. not (test y)) (items_in slots es)
      others_some p lt at =
          let here : x ≡ get_or (items_in slots es) p x = item_at_slot o sort slots es r slot x there p lt at x in
          remove-only test (items_in slots es) x p only_some (omega (arith, lt, long o sort slots es r)) (ap test (sym here) ∙ only_passes test (items_in slots es) x only_some)

    -- what conflicts in another slot conflicts with one of the items that do not have the key
    pub blocked : (p : ℕ) → p < length es → ((d : Entry K) → (get_or es p d).slot ≡ slot) → (ranks : Ranks T) (y : T) → conflicts_of ranks (contents (set slots slot None)) y ≢ []
        → (x : T) × IsOnly test (items_in slots es) (Some x) × (conflicts_of ranks (filter (λ z. not (test z)) (items_in slots es)) y ≢ [])
    blocked p lt at ranks y conflict = by_slot (get slots slot) refl found.live
      where
        by_slot : (c : Option T) → get slots slot ≡ c → IsSome c → (x : T) × IsOnly test (items_in slots es) (Some x) × (conflicts_of ranks (filter (λ z. not (test z)) (items_in slots es)) y ≢ [])
        by_slot None is live = absurd (cc live)
        by_slot (Some x) is live =
            let bare = set slots slot None in
            let updates : Updates slots bare slot None = record { changed = none_left slots slot; others = λ other apart. get_or-set_other slots slot other None None apart } in
            let listed = IsListed-taken o sort slots es r slot x is p lt at bare updates (contents-take slots slot x is) in
            let left = items-taken o sort slots es r slot x is p lt at bare updates ∙ others_some x is p lt at in
            let same : IsPermutation (contents bare) (filter (λ z. not (test z)) (items_in slots es)) = rw (← left) (IsPermutation-listed o sort bare (remove es p) listed) in
            (x, only_some x is, λ none. conflict (none-permutation (do_conflict ranks y) _ _ (IsPermutation-sym _ _ same) none))

    -- the same, wherever the entry of the slot stands
    pub blocked_found : (ranks : Ranks T) (y : T) → conflicts_of ranks (contents (set slots slot None)) y ≢ []
        → (x : T) × IsOnly test (items_in slots es) (Some x) × (conflicts_of ranks (filter (λ z. not (test z)) (items_in slots es)) y ≢ [])
    blocked_found ranks y conflict = by_slot (get slots slot) refl found.live
      where
        by_slot : (c : Option T) → get slots slot ≡ c → IsSome c → (x : T) × IsOnly test (items_in slots es) (Some x) × (conflicts_of ranks (filter (λ z. not (test z)) (items_in slots es)) y ≢ [])
        by_slot None is live = absurd (cc live)
        by_slot (Some x) is live = blocked (place o sort slots es r slot x is) (place_within o sort slots es r slot x is) (place_slot o sort slots es r slot x is) ranks y conflict

module _ {T D : Type 0} (answers : T → D → Type 0) (put : T → D → T) (by : T → T → Ordering) (test : T → Bool) (old : List T) where
  -- what was stored in an item is what each function makes of it that agrees with the data
  pub maps_some : (new : List T) → StoresOne answers put by test old new → MapsOne answers put by test old new
  maps_some new one write makes =
      let wrote = makes one.item one.stored (only_passes test old one.item one.only) one.answered in
      one.lists ∙ ap (λ (xs : List T). with_items by (filter (λ y. not (test y)) old) xs) (ap (λ (x : T). x ∷ []) (sym wrote) ∙ ap (λ (xs : List T). map write xs) one.only)

  -- and nothing, if no item passes
  pub maps_none : IsOnly test old None → MapsOne answers put by test old old
  maps_none none write makes = rw (← none) (sym (all_others test old (sym none)))

-- a search for the item that is to leave, and then the searches and walks for the new one
pub rekeying : {T : Type 0} {hash_of : T → ℕ} {hashes : List (T → ℕ)} {bag : List T} {room hash : ℕ} {hs walks : List ℕ} {before middle after : Costs} {answer : Option ℕ} (less : ℕ) → less ≤ room
    → SearchCosts hash_of bag room hash answer before.asked middle.asked before.probed middle.probed → PlacingCosts hashes bag room hs walks middle after
    → PlacingCosts (hash_of ∷ hashes) bag less (hash ∷ hs) walks before after
rekeying {hashes = hashes} {bag = bag} {room = room} {hs = hs} {middle = middle} {answer = answer} less below search then =
    placing (answer ∷ then.answers) then.between (middle, SearchCosts-room less below search, AreSearched-room bag less room below hashes hs then.answers middle _ then.search) then.rest

-- a search, and then walks
pub removing : {T A : Type 0} {hash_of : T → ℕ} {bag : List T} {room hash : ℕ} {walks : List ℕ} {result : Option A} {before after : Costs} {slot : Option ℕ} (between : ℕ)
    → SearchCosts hash_of bag room hash slot before.asked after.asked before.probed between → after.probed ≤ between + walks_within (length bag) walks
    → IfNone result (after.probed ≡ between) → RemovingCosts hash_of bag room hash walks result before after
removing {slot = slot} between search rest absent = record { slot = slot; between = between; search = search; rest = rest; absent = absent }
