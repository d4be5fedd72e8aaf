use Rattle.std.proofs.Common.{◌≡◌, ◌++◌, drop}
use Rattle.la_proposer.specs.Majority.{votes_of}
use Rattle.la_script.specs.Text.{spaced_text}
use Rattle.la_durable.proofs.head.put_votes.Given as goal

abbrev pub invariant-loop-replica : goal.invariant-loop-replica
invariant-loop-replica l =
    l.text.items ++ spaced_text (drop l.replica (votes_of l.votes))
    ≡ l.initial.text.items ++ spaced_text (votes_of l.votes)
