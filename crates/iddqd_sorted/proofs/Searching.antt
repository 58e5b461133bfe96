-- Searches in the order of a map, for an item and for a sort key.
use Rattle.std.proofs.Common.{◌≡◌, ℕ, ◌<◌, Bool, List, Option, length, get_or, sym, ap, ◌∙◌}
use Rattle.std.specs.Cmp.{IsTotalOrder}
use Rattle.std.specs.Ordering.{ordering_then}
use Rattle.std.specs.declared.cmp.Ordering.{Ordering}
use Rattle.iddqd_store.specs.Slots.{get}
use Rattle.iddqd_order.specs.Search.{IsSearchable, IsLastEqual, IsSplit, order_at, IsStartOf, is_past, side_of}
use Rattle.iddqd_sorted.specs.declared.entry.Entry.{Entry}
use Rattle.iddqd_sorted.specs.Entries.{IsListed, items_in}
use Rattle.iddqd_sorted.specs.Items.{by_sort}
use Rattle.iddqd_sorted.proofs.Listed.{long, item_at_index, key_at_index}
use Rattle.iddqd_order.proofs.StartLemmas.{IsStartOf-side}
use Rattle.iddqd_sorted.proofs.Ordering.{searchable, IsSplit-gap, IsSplit-found, IsRising-item, lower_too, higher_too}
use Rattle.iddqd_sorted.proofs.Sorting.{total, IsRising-side}

module _ {T K Key : Type 0} (sort : T → K) {cmp : K → K → Ordering} (sorts : IsTotalOrder cmp) (key : T → Key) {cmp_key : Key → Key → Ordering} (keys : IsTotalOrder cmp_key)
    (slots : List (Option T)) (es : List (Entry K)) (r : IsListed (by_sort sort cmp key cmp_key) sort cmp slots es) where
  all : IsTotalOrder (by_sort sort cmp key cmp_key)
  all = total sort sorts key keys

  as_many : length (items_in slots es) ≡ length es
  as_many = long all sort slots es r

  -- a search for an item that has these keys, in slots that have the same items where the entries lead
  module _ (x : T) (k : K) (sort_is : k ≡ sort x) (first : Key) (key_is : first ≡ key x) (seen : List (Option T))
      (same : (i : ℕ) (d : Entry K) → i < length es → get seen (get_or es i d).slot ≡ get slots (get_or es i d).slot) where
    abbrev compare : Entry K → Ordering
    compare e = ordering_then (cmp e.sort_key k) (order_at (λ z. cmp_key (key z) first) (get seen e.slot))

    alike : (i : ℕ) (d : Entry K) (y : T) → i < length es → compare (get_or es i d) ≡ by_sort sort cmp key cmp_key (get_or (items_in slots es) i y) x
    alike i d y lt =
        let here : get seen (get_or es i d).slot ≡ _ = same i d lt ∙ item_at_index all sort slots es r i d y lt in
        let level : cmp (get_or es i d).sort_key k ≡ cmp (sort (get_or (items_in slots es) i y)) (sort x) =
        sym (key_at_index all sort slots es r i d y lt k) ∙ ap (cmp (sort (get_or (items_in slots es) i y))) sort_is in
        λ t. ordering_then (level t) (order_at (λ z. cmp_key (key z) (key_is t)) (here t))

    pub item_searchable : IsSearchable compare es
    item_searchable = searchable es (items_in slots es) as_many compare (λ y. by_sort sort cmp key cmp_key y x) alike r.ascending (IsRising-item all x)

    pub item_found : (i : ℕ) → IsLastEqual compare es i → IsSplit (λ y. by_sort sort cmp key cmp_key y x) (items_in slots es) i 1
    item_found i found = IsSplit-found es (items_in slots es) as_many compare (λ y. by_sort sort cmp key cmp_key y x) alike r.ascending i found
        (λ y z lt level. lower_too all y z x lt level) (λ y z lt level. higher_too all y z x lt level)

    pub item_gap : (i : ℕ) → IsSplit compare es i 0 → IsSplit (λ y. by_sort sort cmp key cmp_key y x) (items_in slots es) i 0
    item_gap i gap = IsSplit-gap es (items_in slots es) as_many compare (λ y. by_sort sort cmp key cmp_key y x) alike i gap

  -- such a search where the first keys in the slots compare as those of the items
  module _ (x : T) (k : K) (sort_is : k ≡ sort x) (first : Key) (seen : List (Option T))
      (compared : (i : ℕ) (d : Entry K) (y : T) → i < length es → order_at (λ z. cmp_key (key z) first) (get seen (get_or es i d).slot) ≡ cmp_key (key (get_or (items_in slots es) i y)) (key x)) where
    abbrev compare_seen : Entry K → Ordering
    compare_seen e = ordering_then (cmp e.sort_key k) (order_at (λ z. cmp_key (key z) first) (get seen e.slot))

    alike_seen : (i : ℕ) (d : Entry K) (y : T) → i < length es → compare_seen (get_or es i d) ≡ by_sort sort cmp key cmp_key (get_or (items_in slots es) i y) x
    alike_seen i d y lt =
        let level : cmp (get_or es i d).sort_key k ≡ cmp (sort (get_or (items_in slots es) i y)) (sort x) =
        sym (key_at_index all sort slots es r i d y lt k) ∙ ap (cmp (sort (get_or (items_in slots es) i y))) sort_is in
        λ t. ordering_then (level t) (compared i d y lt t)

    pub seen_searchable : IsSearchable compare_seen es
    seen_searchable = searchable es (items_in slots es) as_many compare_seen (λ y. by_sort sort cmp key cmp_key y x) alike_seen r.ascending (IsRising-item all x)

    pub seen_found : (i : ℕ) → IsLastEqual compare_seen es i → IsSplit (λ y. by_sort sort cmp key cmp_key y x) (items_in slots es) i 1
    seen_found i found = IsSplit-found es (items_in slots es) as_many compare_seen (λ y. by_sort sort cmp key cmp_key y x) alike_seen r.ascending i found
        (λ y z lt level. lower_too all y z x lt level) (λ y z lt level. higher_too all y z x lt level)

    pub seen_gap : (i : ℕ) → IsSplit compare_seen es i 0 → IsSplit (λ y. by_sort sort cmp key cmp_key y x) (items_in slots es) i 0
    seen_gap i gap = IsSplit-gap es (items_in slots es) as_many compare_seen (λ y. by_sort sort cmp key cmp_key y x) alike_seen i gap

  -- a search for a side of a sort key
  module _ (past : Bool) (k : K) where
    beside : (i : ℕ) (d : Entry K) (y : T) → i < length es → side_of past (cmp (get_or es i d).sort_key k) ≡ side_of past (cmp (sort (get_or (items_in slots es) i y)) k)
    beside i d y lt = ap (side_of past) (sym (key_at_index all sort slots es r i d y lt k))

    pub side_searchable : IsSearchable (λ e. side_of past (cmp e.sort_key k)) es
    side_searchable = searchable es (items_in slots es) as_many (λ e. side_of past (cmp e.sort_key k)) (λ y. side_of past (cmp (sort y) k)) beside r.ascending (IsRising-side sort sorts key keys past k)

    pub side_start : (i : ℕ) → IsSplit (λ e. side_of past (cmp e.sort_key k)) es i 0 → IsStartOf (λ y. is_past past (cmp (sort y) k)) (items_in slots es) i
    side_start i gap = IsStartOf-side (λ y. cmp (sort y) k) past (items_in slots es) i
        (IsSplit-gap es (items_in slots es) as_many (λ e. side_of past (cmp e.sort_key k)) (λ y. side_of past (cmp (sort y) k)) beside i gap)

-- slots that are the same
pub same_slots : {T K : Type 0} (seen slots : List (Option T)) (es : List (Entry K)) → seen ≡ slots → (i : ℕ) (d : Entry K) → i < length es → get seen (get_or es i d).slot ≡ get slots (get_or es i d).slot
same_slots seen slots es same i d lt = ap (λ q. get q (get_or es i d).slot) same
