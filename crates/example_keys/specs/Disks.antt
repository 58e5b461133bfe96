-- The keys of a disk, whichever kind it is.
use Rattle.std.specs.Prelude.{ℕ}
use Rattle.example_keys.specs.declared.disks.Disk.{Disk}
use Rattle.example_keys.specs.declared.disks.Disk.TheVariants.{Real, Synthetic}
use Rattle.example_keys.specs.declared.disks.DiskIdentity.{DiskIdentity}

abbrev pub identity_of : Disk → DiskIdentity
identity_of (Real identity slot bytes) = identity
identity_of (Synthetic identity slot) = identity

abbrev pub slot_of : Disk → ℕ
slot_of (Real identity slot bytes) = slot
slot_of (Synthetic identity slot) = slot
