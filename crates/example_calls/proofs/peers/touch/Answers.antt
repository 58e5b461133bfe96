use Rattle.std.specs.Prelude.{nat_eq}
use Rattle.std.proofs.Common.{sym}
use Rattle.iddqd_bi.specs.Keys.{ranks}
use Rattle.iddqd_bi.specs.Map.{bag}
use Rattle.iddqd_bi.specs.RefMuts.{ref_item, ref_map, ref_with}
use Rattle.iddqd_bi.proofs.CallerLemmas.Named.{only_written}
use Rattle.example_calls.specs.contracts.peers.SessionBiHashItem.TheImpl as item
use Rattle.example_calls.specs.contracts.peers.PeerPartialEq.TheImpl as peer
use Rattle.example_calls.specs.declared.peers.Session.{Session}
use Rattle.example_calls.proofs.peers.touch.Goals as goal

-- the borrowed item is the one that the token names
pub returns-in-Some-clause-present : goal.returns-in-Some-clause-present
returns-in-Some-clause-present c = λ s is.
    (let one = c.in-Some.ensures in
    let write : Session → Session = λ s. record s { seen = c.args.now } in
    rw (c.sessions-1.given.1 (sym one.same_map), c.drop-session.ensures) (only_written (ranks item.ghosts nat_eq (peer.ghosts).eq) write
    c.args.sessions.now (ref_map c.in-Some.session) (bag (ref_map (ref_with c.in-Some.session write)))
    (ref_item c.in-Some.session) s _ one.unchanged one.found is (c.data_mut.ensures.swaps c.args.now)))
