use Rattle.std.proofs.Common.{◌≡◌, [], filter}
use Rattle.la_commit.proofs.Reading.{votes_before}
use Rattle.la_commit.proofs.learnt.first_sole.Given as goal

abbrev pub invariant-loop-at : goal.invariant-loop-at
invariant-loop-at l = filter (λ v. v.sole) (votes_before l.set l.at) ≡ []
