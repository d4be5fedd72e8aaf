use Rattle.std.proofs.Common.{◌≡◌, map}
use Rattle.la_proposer.specs.Majority.{votes_of}
use Rattle.la_runner.specs.Instances.{state_of}
use Rattle.la_runner.specs.Starting.{newcomer}
use Rattle.la_runner.proofs.Fresh.{AreNew}
use Rattle.la_runner.proofs.starting.member.Given as goal

abbrev pub invariant-loop-at : goal.invariant-loop-at
invariant-loop-at l =
    AreNew (map (λ r. r.acceptors.items) l.rows) (votes_of l.votes) l.own l.cap l.at (map state_of l.instances.items)
    × (map (λ f. f.passes.items) l.firsts.items ≡ map (λ r. map newcomer r.acceptors.items) l.rows)
