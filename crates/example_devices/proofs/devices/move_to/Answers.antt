use Rattle.std.specs.Prelude.{nat_eq, IsPermutation, Some, filter, true, false}
use Rattle.std.specs.List.{list_any}
use Rattle.std.proofs.Common.{◌≡◌, ◌≢◌, [], ◌∷◌, ℕ, suc, List, Bool, length, refl, sym, ap, subst, arith}
use Rattle.std.proofs.lemmas.Bool.{eqb-true}
use Rattle.std.proofs.lemmas.List.{nil_from_length}
use Rattle.std.proofs.lemmas.List.Sorted.{length_permutation}
use Rattle.iddqd_bi.specs.Bag.{IsOnly, Ranks, conflicts_of}
use Rattle.iddqd_bi.specs.Map.{bag}
use Rattle.iddqd_bi.specs.Rank.{agree}
use Rattle.iddqd_bi.specs.Rekeyed.{TellsWhyNot}
use Rattle.iddqd_bi.proofs.CallerLemmas.Asking.{none-conflicts_of}
use Rattle.iddqd_bi.proofs.CallerLemmas.Laws.{given-has, none-listed}
use Rattle.iddqd_store.proofs.BagLemmas.Exchanges.{IsPermutation-filter}
use Rattle.example_devices.specs.declared.devices.Device.{Device}
use Rattle.example_devices.proofs.devices.move_to.Goals as goal

abbrev item_ranks : Ranks Device
item_ranks = agree (λ (d : Device). d.serial) nat_eq ∷ agree (λ (d : Device). d.port) nat_eq ∷ []

-- if only one item passes, no other item passes
alone : (test : Device → Bool) (old rest : List Device) (x : Device) → x ∷ [] ≡ filter test old → IsPermutation old (x ∷ rest) → list_any test rest ≡ false
alone test old rest x only taken =
    let one : 1 ≡ length (filter test old) = ap length only in
    let passes : test x ≡ true = given-has test old x only in
    let whole : length (filter test (x ∷ rest)) ≡ suc (length (filter test rest)) = rw passes refl in
    none-listed test rest (sym (nil_from_length (filter test rest) (omega (arith, one, whole, length_permutation _ _ (IsPermutation-filter test old (x ∷ rest) taken)))))

-- so the conflicting item is the one at the port
at_port : (rest : List Device) (y : Device) (b : Bool) → list_any (λ d. nat_eq y.port d.port) rest ≡ b
    → list_any (λ d. nat_eq y.serial d.serial) rest ≡ false → conflicts_of item_ranks rest y ≢ [] → list_any (λ d. nat_eq y.port d.port) rest ≡ true
at_port rest y true is none some = is
at_port rest y false is none some = absurd (some (none-conflicts_of item_ranks rest y (none, (is, tt))))

same : (n : ℕ) (old : List Device) (x : Device) → IsOnly (λ d. nat_eq n d.serial) old (Some x) → x.serial ≡ n
same n old x only = sym (eqb-true n x.serial (given-has (λ d. nat_eq n d.serial) old x only))

pub returns-in-Ok-clause-was : goal.returns-in-Ok-clause-was
returns-in-Ok-clause-was c =
    let old = bag c.args.devices.now in
    subst (λ n. IsOnly (λ (d : Device). nat_eq c.args.serial d.serial) old (Some (record { serial = n; port = c.in-Ok.device.port })))
    (same c.args.serial old c.in-Ok.device c.in-Ok.ensures.found) c.in-Ok.ensures.found

pub returns-in-Ok-clause-moved : goal.returns-in-Ok-clause-moved
returns-in-Ok-clause-moved c =
    let old = bag c.args.devices.now in
    subst (λ n. IsPermutation (record { serial = n; port = c.in-Ok.device.port } ∷ bag c.rekey1.new.self)
    (record { serial = c.args.serial; port = c.args.port } ∷ old)) (same c.args.serial old c.in-Ok.device c.in-Ok.ensures.found) c.in-Ok.ensures.puts.items

pub returns-in-Err-Absent-clause-no_device : goal.returns-in-Err-Absent-clause-no_device
returns-in-Err-Absent-clause-no_device c = λ _.
    let old = bag c.args.devices.now in
    let test = λ (d : Device). nat_eq c.args.serial d.serial in
    none-listed test old (subst (λ e. TellsWhyNot item_ranks test old (record { serial = c.args.serial; port = c.args.port }) e) c.in-Err-Absent.field-0-is c.in-Err-Absent.ensures.reason)

pub returns-in-Err-Duplicate-clause-port_taken : goal.returns-in-Err-Duplicate-clause-port_taken
returns-in-Err-Duplicate-clause-port_taken c = λ _.
    let old = bag c.args.devices.now in
    let test = λ (d : Device). nat_eq c.args.serial d.serial in
    let why = subst (λ e. TellsWhyNot item_ranks test old (record { serial = c.args.serial; port = c.args.port }) e) c.in-Err-Duplicate.field-0-is c.in-Err-Duplicate.ensures.reason in
    (why.0, why.1, same c.args.serial old why.0 why.2, why.3, at_port why.1 (record { serial = c.args.serial; port = c.args.port }) _ refl (alone test old why.1 why.0 why.2 why.3) why.4)
