use Rattle.std.proofs.Common.{◌≡◌, ◌-◌, map, length, reverse}
use Rattle.la_proposer.specs.Majority.{votes_of}
use Rattle.la_runner.specs.Starting.{newcomer, AreMembersFrom}
use Rattle.la_runner.proofs.starting.members.Given as goal

abbrev pub invariant-loop-before : goal.invariant-loop-before
invariant-loop-before l =
    (length l.made.items ≡ l.before)
    × AreMembersFrom (record { votes = votes_of l.votes; acceptors = map (λ r. r.acceptors.items) l.rows }) l.cap (l.replicas - l.before) (reverse l.made.items)
    × (map (λ f. f.passes.items) l.firsts.items ≡ map (λ r. map newcomer r.acceptors.items) l.rows)
