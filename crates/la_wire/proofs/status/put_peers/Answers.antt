use Rattle.std.proofs.Common.{◌≡◌, ◌++◌, rules, arith}
use Rattle.la_wire.specs.Joined.{spaced}
use Rattle.la_wire.specs.Status.{peer_words}
use Rattle.la_wire.proofs.NoteParts.{put_peer_next, all_peers}
use Rattle.la_wire.proofs.status.put_peers.Goals as goal

pub loop-peer-preserved : goal.loop-peer-preserved
loop-peer-preserved c =
    let put : c.put_peer.new.out.items
    ≡ c.loop-peer.out.items ++ spaced 32 (peer_words c.args.known.now c.args.own c.loop-peer.peer) = search rules in
    put_peer_next c.args.known.now c.args.own c.loop-peer.peer c.args.replicas c.loop-peer.out.items
    c.put_peer.new.out.items _ (search rules) put c.loop-peer.invariant

pub returns : goal.returns
returns c =
    all_peers c.args.known.now c.args.own c.loop-peer.peer c.args.replicas c.loop-peer.out.items _
    (omega (arith, c.loop-peer-test.false)) c.loop-peer.invariant
