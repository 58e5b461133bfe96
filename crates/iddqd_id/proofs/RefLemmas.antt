-- Made by tests/widths from crates/iddqd_bi/proofs/RefLemmas.antt: change that file.

-- A `RefMut` does not depend on how its item is known to be live.
use Rattle.std.specs.Prelude.{◌≡◌, true, is_some}
use Rattle.std.proofs.Common.{ap}
use Rattle.std.proofs.Math.Bool.{Bool-set}
use Rattle.std.specs.declared.cmp.PartialEq as equal
use Rattle.std.specs.declared.hash.Hash as hash
use Rattle.std.specs.declared.hash.Hasher as hasher
use Rattle.std.specs.declared.hash.BuildHasher as builder
use Rattle.iddqd_store.specs.Slots.{get}
use Rattle.iddqd_id.specs.declared.item.IdHashItem as item
use Rattle.iddqd_store.specs.Map.Written.{map_with}
use Rattle.iddqd_id.specs.declared.ref_mut.RefMut.{RefMut}
use Rattle.iddqd_id.specs.RefMuts.{ref_with}

module _ {T S Key H : Type 0} {of : item.Ghosts T Key} {eq : equal.Ghosts Key} {input : hash.Ghosts Key}
    {build : builder.Ghosts S H} {hashes : hasher.Ghosts H} (r : RefMut T S Key H of eq input build hashes) where
  pub ref_written : (f : T → T) (p : is_some (get (map_with r.map.now r.slot f).slots r.slot) ≡ true)
      → record { map = record r.map { now = map_with r.map.now r.slot f }; slot = r.slot; live = p } ≡ ref_with r f
  ref_written f p = ap (λ q. record (ref_with r f) { live = q }) (Bool-set _ _ p (ref_with r f).live)
