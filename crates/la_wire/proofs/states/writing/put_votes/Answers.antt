use Rattle.std.proofs.Common.{◌≡◌, ◌++◌, ◌∷◌, Some, rules}
use Rattle.std.specs.Fmt.{decimal}
use Rattle.std.specs.List.{slice_get}
use Rattle.la_proposer.specs.Majority.{votes_of}
use Rattle.la_wire.proofs.UpdateLists.{put_next}
use Rattle.la_wire.proofs.states.writing.put_votes.Goals as goal

pub loop-replica-preserved : goal.loop-replica-preserved
loop-replica-preserved c =
    let got : slice_get (votes_of c.args.votes.now) c.loop-replica.replica ≡ Some c.in-Some.count = search rules in
    let put : c.put_number.new.out.items ≡ c.loop-replica.out.items ++ 32 ∷ decimal c.in-Some.count = search rules in
    put_next 32 decimal (votes_of c.args.votes.now) c.loop-replica.replica c.in-Some.count c.loop-replica.out.items
    c.put_number.new.out.items _ got put c.loop-replica.invariant
