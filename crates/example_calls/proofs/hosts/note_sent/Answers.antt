use Rattle.std.proofs.Common.{sym}
use Rattle.iddqd_bi.specs.Keys.{ranks}
use Rattle.iddqd_bi.specs.Map.{bag}
use Rattle.iddqd_bi.specs.RefMuts.{ref_item, ref_map, ref_with}
use Rattle.iddqd_bi.proofs.CallerLemmas.Named.{only_written}
use Rattle.example_calls.specs.contracts.hosts.HostBiHashItem.TheImpl as item
use Rattle.std.specs.contracts.net.ipv4_addr.Ipv4AddrPartialEq.TheImpl as address
use Rattle.example_calls.specs.contracts.hosts.DutyPartialEq.TheImpl as duty
use Rattle.example_calls.specs.declared.hosts.Host.{Host}
use Rattle.example_calls.proofs.hosts.note_sent.Goals as goal

-- the borrowed item is the one that the address names
pub returns-in-Some-clause-present : goal.returns-in-Some-clause-present
returns-in-Some-clause-present c = λ s is.
    (let one = c.in-Some.ensures in
    let write : Host → Host = λ h. record h { sent = c.args.sent } in
    rw (c.hosts-1.given.1 (sym one.same_map), c.drop-host.ensures)
    (only_written (ranks item.ghosts (address.ghosts).eq (duty.ghosts).eq) write c.args.hosts.now (ref_map c.in-Some.host)
    (bag (ref_map (ref_with c.in-Some.host write))) (ref_item c.in-Some.host) s _ one.unchanged one.found is (c.data_mut.ensures.swaps c.args.sent)))
