-- Made by tests/widths from crates/iddqd_bi/proofs/RefLemmas.antt: change that file.

-- A `RefMut` does not depend on how its item is known to be live.
use Rattle.std.specs.Prelude.{◌≡◌, true, is_some}
use Rattle.std.proofs.Common.{ap}
use Rattle.std.proofs.Math.Bool.{Bool-set}
use Rattle.std.specs.declared.cmp.PartialEq as equal
use Rattle.std.specs.declared.hash.Hash as hash
use Rattle.std.specs.declared.hash.Hasher as hasher
use Rattle.std.specs.declared.hash.BuildHasher as builder
use Rattle.iddqd_store.specs.Slots.{get}
use Rattle.iddqd_tri.specs.declared.item.TriHashItem as item
use Rattle.iddqd_store.specs.Map.Written.{map_with}
use Rattle.iddqd_tri.specs.declared.ref_mut.RefMut.{RefMut}
use Rattle.iddqd_tri.specs.RefMuts.{ref_with}

module _ {T S K1 K2 K3 H : Type 0} {of : item.Ghosts T K1 K2 K3} {eq1 : equal.Ghosts K1} {input1 : hash.Ghosts K1} {eq2 : equal.Ghosts K2}
    {input2 : hash.Ghosts K2} {eq3 : equal.Ghosts K3}
    {input3 : hash.Ghosts K3} {build : builder.Ghosts S H} {hashes : hasher.Ghosts H} (r : RefMut T S K1 K2 K3 H of eq1 input1 eq2 input2 eq3 input3 build hashes) where
  pub ref_written : (f : T → T) (p : is_some (get (map_with r.map.now r.slot f).slots r.slot) ≡ true)
      → record { map = record r.map { now = map_with r.map.now r.slot f }; slot = r.slot; live = p } ≡ ref_with r f
  ref_written f p = ap (λ q. record (ref_with r f) { live = q }) (Bool-set _ _ p (ref_with r f).live)
