-- The keys of an address, whichever kind it is.
use Rattle.std.specs.Prelude.{ℕ}
use Rattle.example_keys.specs.declared.addresses.External.{External}
use Rattle.example_keys.specs.declared.addresses.External.TheVariants.{Floating, Shared}
use Rattle.example_keys.specs.declared.addresses.Ports.{Ports}

abbrev pub id_of : External → ℕ
id_of (Floating id address) = id
id_of (Shared id address first last) = id

abbrev pub ports_of : External → Ports
ports_of (Floating id address) = record { address = address; first = 0; last = 65535 }
ports_of (Shared id address first last) = record { address = address; first = first; last = last }
