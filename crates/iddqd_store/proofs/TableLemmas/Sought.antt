-- What a search of a table has learned at each cell on its way, and what it returns and costs.
use Rattle.std.proofs.Common.{◌≡◌, ◌≢◌, ℕ, ◌+◌, ◌-◌, ◌%◌, ◌<◌, ◌≤◌, Bool, true, false, List, Option, None, Some, length, refl, sym, ap, ◌∙◌, arith}
use Rattle.std.specs.Prelude.{◌⊎◌, nat_lt, if◌then◌else◌}
use Rattle.iddqd_store.specs.Slots.{contents}
use Rattle.iddqd_store.specs.Table.{hashes, has_hash, table_of, HaveOwnSlots, IsTable}
use Rattle.iddqd_store.specs.Table.Ring.{cell, stretch}
use Rattle.iddqd_store.specs.Table.Search.{CostsByHash, FindsByHash, IsVacantForHash}
use Rattle.iddqd_store.proofs.TableLemmas.Once.{StillToAsk, or_may_always, still_to_ask}
use Rattle.iddqd_store.proofs.TableLemmas.Search.{Refused, Walk, found_there, met, met_grows, met_by_hash, met_within, refused_more, walk_end, walk_found, walk_meets, walk_more}
use Rattle.iddqd_store.proofs.TableLemmas.Spot.{walk_free}
use Rattle.iddqd_store.proofs.TableLemmas.Stretch.{place}
use Rattle.iddqd_store.proofs.TableLemmas.StretchBound.{stretch_le_pairs}

-- A search for a hash has probed each cell from its home up to `at`. It began with the matcher `was` and the count
-- `start` of probes.
pub record IsSought {M : Type 0} (row : List (Option (ℕ × ℕ))) (hash : ℕ) (accepts : M → ℕ → Bool) (asked : M → ℕ) (MayAsk : M → ℕ → Type 0) (was matcher : M) (start probes at : ℕ) : Type 0 where
  pub probed : start ≤ probes
  pub walk : Walk row (hash % length row) at (probes - start)
  pub refused : Refused row hash (accepts was) (probes - start)
  pub count : asked matcher ≤ asked was + met (has_hash hash) row (hash % length row) (probes - start)
  pub to_ask : StillToAsk row hash (MayAsk matcher) (probes - start)

module _ {M : Type 0} {row : List (Option (ℕ × ℕ))} {hash : ℕ} {accepts : M → ℕ → Bool} {asked : M → ℕ} {MayAsk : M → ℕ → Type 0} {was matcher : M}
    {start probes at : ℕ} (table : IsTable row) (sought : IsSought row hash accepts asked MayAsk was matcher start probes at) where
  home_below : hash % length row < length row
  home_below = let within = sought.walk.within in omega (arith, within)

  stands : {x : ℕ × ℕ} → cell row at ≡ Some x → cell row (place (length row) (hash % length row) (probes - start)) ≡ Some x
  stands is = sym (ap (cell row) sought.walk.at_is) ∙ is

  -- the slot in this cell may be asked about
  pub may_ask : {x : ℕ × ℕ} → cell row at ≡ Some x → x.0 ≡ hash → MayAsk matcher x.1
  may_ask {x = x} is same = sought.to_ask (probes - start) (omega arith) sought.walk.within x.1 (stands is ∙ ap (λ (h : ℕ). Some (h, x.1)) same)

  module _ {x : ℕ × ℕ} {probes_then : ℕ} (is : cell row at ≡ Some x) (probe : probes_then ≡ probes + 1) where
    occupied : cell row at ≢ None
    occupied none = cc (none, is)

    more : probes_then - start ≡ probes - start + 1
    more = omega (arith, probe, sought.probed)

    module _ {next : ℕ} (step : next ≡ (if nat_lt (at + 1) (length row) then at + 1 else 0)) (own : HaveOwnSlots (contents row) ⊎ ((m : M) (slot : ℕ) → MayAsk m slot)) where
      -- the pair in this cell has another hash
      pub sought_past : x.0 ≢ hash → IsSought row hash accepts asked MayAsk was matcher start probes_then next
      sought_past other = record {
        probed = omega (arith, probe, sought.probed);
        walk = walk_more row _ at _ table home_below sought.walk occupied next _ step more;
        refused = refused_more row hash (accepts was) _ _ at x more sought.walk is sought.refused (λ same. absurd (other same));
        count = omega (arith, sought.count, met_grows hash row _ _ x home_below sought.walk.within (stands is) _ more);
        to_ask = still_to_ask row hash _ _ x (MayAsk matcher) (MayAsk matcher) (or_may_always row MayAsk matcher own) home_below more (stands is) (λ slot differs may. may) sought.to_ask;
      }

      -- it has this hash, and the matcher was asked about its slot
      pub sought_asked : {asked_too : M} → x.0 ≡ hash → accepts was x.1 ≡ false → asked asked_too ≤ asked matcher + 1
          → ((slot : ℕ) → slot ≢ x.1 → MayAsk matcher slot → MayAsk asked_too slot)
          → IsSought row hash accepts asked MayAsk was asked_too start probes_then next
      sought_asked {asked_too = new} same declines once others = record {
        probed = omega (arith, probe, sought.probed);
        walk = walk_more row _ at _ table home_below sought.walk occupied next _ step more;
        refused = refused_more row hash (accepts was) _ _ at x more sought.walk is sought.refused (λ _. declines);
        count = omega (arith, sought.count, once, met_by_hash hash row _ _ x home_below sought.walk.within (stands is) same _ more);
        to_ask = still_to_ask row hash _ _ x (MayAsk matcher) (MayAsk new) (or_may_always row MayAsk new own) home_below more (stands is) others sought.to_ask;
      }

    pub found_costs : {asked_too : M} → x.0 ≡ hash → asked asked_too ≤ asked matcher + 1 → CostsByHash {A = ℕ × ℕ} (table_of row) hash (Some (x.1, at)) (asked was) (asked asked_too) start probes_then
    found_costs same once =
        let one_more = met_by_hash hash row _ _ x home_below sought.walk.within (stands is) same _ more in
        let far = walk_found row hash at _ _ table sought.walk occupied more in
        record {
          asked = omega (arith, sought.count, once, one_more, met_within (has_hash hash) row (hash % length row) (probes_then - start));
          probes = record {
            no_cells = λ none. absurd (omega (arith, none, home_below));
            miss = λ _. tt;
            hit_least = omega (arith, probe, sought.probed);
            hit_most = omega (arith, probe, sought.probed, far);
          };
          within = stretch_le_pairs (contents row) (length row) hash;
        }

  pub found_by_hash : {x : ℕ × ℕ} → cell row at ≡ Some x → x.0 ≡ hash → accepts was x.1 ≡ true → FindsByHash (table_of row) hash (accepts was) (Some x.1)
  found_by_hash {x = x} is same accepted = record { found = found_there row at hash x is same; accepted = accepted; none = tt }

  module _ (none : cell row at ≡ None) where
    pub missed_by_hash : FindsByHash (table_of row) hash (accepts was) None
    missed_by_hash = record {
      found = tt;
      accepted = tt;
      none = λ index there. let met_at = walk_meets row hash at _ index table sought.walk none there in sought.refused met_at.0 met_at.1 index met_at.2;
    }

    pub missed_vacant : IsVacantForHash (table_of row) hash (record { hash = hash; cells = length row; at = at })
    missed_vacant = record { hash = refl; cells = refl; vacant = walk_free row hash at _ table (omega (arith, home_below)) sought.walk none }

    pub missed_costs : {A : Type 0} {probes_then : ℕ} → probes_then ≡ probes + 1 → CostsByHash {A = A} (table_of row) hash None (asked was) (asked matcher) start probes_then
    missed_costs probe =
        let end : stretch (hashes (contents row)) (length row) hash ≡ probes - start = walk_end row hash at _ table sought.walk none in
        record {
          asked = omega (arith, sought.count, met_within (has_hash hash) row (hash % length row) (probes - start));
          probes = record { no_cells = λ none. absurd (omega (arith, none, home_below)); miss = λ _. omega (arith, probe, sought.probed, end); hit_least = tt; hit_most = tt };
          within = stretch_le_pairs (contents row) (length row) hash;
        }
