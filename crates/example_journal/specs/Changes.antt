-- What the lines of a journal say, and which devices they leave.
use Rattle.std.specs.Prelude.{◌≡◌, ◌<◌, ◌^◌, ℕ, Bool, ◌==◌, false, List, [], ◌∷◌, ◌++◌, Some, codes, flat_map, IsPermutation}
use Rattle.std.specs.Fmt.{decimal}
use Rattle.std.specs.List.{AllByRecursion, list_any}
use Rattle.iddqd_bi.specs.Bag.{IsOnly}
use Rattle.example_journal.specs.declared.changes.Device.{Device}
use Rattle.example_journal.specs.declared.changes.Change.{Change}
use Rattle.example_journal.specs.declared.changes.Change.TheVariants.{Plug, Unplug}

-- One of the bytes is the end of a line.
abbrev pub has_end : List ℕ → Bool
has_end bytes = list_any (λ b. b == 10) bytes

abbrev pub numbers : Device → List ℕ
numbers d = decimal d.serial ++ (codes " " ++ (decimal d.port ++ codes "\n"))

-- `line_of` is the line of a change, with its end.
-- Example: For the device 1001, plugged into port 7, it is `plug 1001 7` and the end of a line.
abbrev pub line_of : Change → List ℕ
line_of (Plug d) = codes "plug " ++ numbers d
line_of (Unplug d) = codes "unplug " ++ numbers d

abbrev pub device_of : Change → Device
device_of (Plug d) = d
device_of (Unplug d) = d

-- Its numbers are those of a `u64` and of a `u16`.
abbrev pub InRange : Change → Type 0
InRange c = ((device_of c).serial < 2 ^ 64) × ((device_of c).port < 2 ^ 16)

-- The bytes are the first ones of a line, or all of it.
-- Example: `unplug 10` begins the line `unplug 1001 7`. `plug in` and `plug 007` begin none.
abbrev pub Begins : List ℕ → Type 0
Begins bytes = (change : Change) × (rest : List ℕ) × (bytes ++ rest ≡ line_of change) × InRange change

-- The bytes are what a crash may leave of a line that was being written: the first ones, without its end.
abbrev pub IsTorn : List ℕ → Type 0
IsTorn bytes = (has_end bytes ≡ false) × Begins bytes

-- The change leads from these devices to those, in any order.
abbrev pub Makes : List Device → Change → List Device → Type 0
Makes old (Plug d) new = IsPermutation new (d ∷ old)
Makes old (Unplug d) new = IsOnly (λ e. d.serial == e.serial) old (Some d) × IsPermutation old (d ∷ new)

-- The changes, made in order, lead from these devices to those.
-- Example: Plugging in 1001 and 1002 and unplugging 1001 leads from none to 1002.
abbrev pub Leads : List Device → List Change → List Device → Type 0
Leads old [] new = new ≡ old
Leads old (c ∷ cs) new = (next : List Device) × Makes old c next × Leads next cs new

-- The text is the lines of changes that leave these devices.
pub record Tells (lines : List ℕ) (devices : List Device) : Type 0 where
  pub changes : List Change
  pub in_range : AllByRecursion InRange changes
  pub written : lines ≡ flat_map line_of changes
  pub left : Leads [] changes devices
