use Rattle.std.proofs.Common.{◌≡◌, ◌++◌, ◌-◌}
use Rattle.la_wire.specs.Joined.{spaced}
use Rattle.la_wire.specs.Status.{peers_from}
use Rattle.la_wire.proofs.status.put_peers.Given as goal

abbrev pub invariant-loop-peer : goal.invariant-loop-peer
invariant-loop-peer l =
    l.out.items ++ spaced 32 (peers_from l.known l.own l.peer (l.replicas - l.peer))
    ≡ l.initial.out.items ++ spaced 32 (peers_from l.known l.own 0 l.replicas)
