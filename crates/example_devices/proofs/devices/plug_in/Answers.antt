use Rattle.std.specs.Prelude.{nat_eq}
use Rattle.std.proofs.Common.{◌≡◌, ◌∷◌, ◌∙◌, [], List, Bor, length, map, sym, ap, arith, rules}
use Rattle.std.proofs.lemmas.List.{nil_from_length, length-map}
use Rattle.iddqd_bi.specs.Bag.{Ranks, conflicts_of, conflicting}
use Rattle.iddqd_bi.specs.Map.{bag}
use Rattle.iddqd_bi.specs.Rank.{agree}
use Rattle.iddqd_bi.proofs.CallerLemmas.{length-conflicts_of}
use Rattle.example_devices.specs.declared.devices.Device.{Device}
use Rattle.example_devices.proofs.devices.plug_in.Goals as goal
use Rattle.example_devices.proofs.devices.plug_in.Goals.{else-len-capacity-via-then-len-capacity+else-is_empty, else-len-capacity-via-else-len-capacity}

abbrev item_ranks : Ranks Device
item_ranks = agree (λ (d : Device). d.serial) nat_eq ∷ agree (λ (d : Device). d.port) nat_eq ∷ []

-- as many items conflict as are listed
as_many : (there : List Device) (x : Device) (found : List (Bor Device)) → map (λ r. r.now) found ≡ conflicting item_ranks there x → length (conflicts_of item_ranks there x) ≡ length found
as_many there x found is = length-conflicts_of item_ranks there x ∙ ap length (sym is) ∙ length-map found (λ r. r.now)

-- if the limit is reached and nothing conflicts, the map is full for the device
pub returns-then-is_empty-clause-full : goal.returns-then-is_empty-clause-full
returns-then-is_empty-clause-full c = λ _.
    let none : length c.conflicts_with.result ≡ 0 = search (rules, c.if-is_empty.true, c.if-is_empty.ensures) in
    record {
      free = nil_from_length _ (as_many (bag c.args.devices.now) c.args.device c.conflicts_with.result c.conflicts_with.ensures ∙ none);
      full = sym c.len.ensures.value ∙ c.if-len-capacity.true ∙ c.capacity.ensures.value;
    }

-- a device is inserted only below the limit
pub returns-in-Ok-clause-same_limit : goal.returns-in-Ok-clause-same_limit
returns-in-Ok-clause-same_limit c =
    let room = c.capacity.ensures in
    let free = c.in-Ok.ensures.free in
    elim c.else-len-capacity.branch [
      | else-len-capacity-via-then-len-capacity+else-is_empty w ↦
          let none : length w.conflicts_with.result ≡ 0 = sym (as_many (bag c.args.devices.now) c.args.device w.conflicts_with.result w.conflicts_with.ensures) ∙ ap length free in
          absurd (search (rules, none))
      | else-len-capacity-via-else-len-capacity w ↦ c.in-Ok.ensures.gains.same_room (omega (arith, room.fits, room.value, c.len.ensures.value, w.if-len-capacity.false))
    ]
