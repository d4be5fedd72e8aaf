use Rattle.std.proofs.Common.{◌≡◌, ◌==◌, true}
use Rattle.std.specs.List.{list_all}
use Rattle.la_commit.proofs.Reading.{votes_before}
use Rattle.la_commit.proofs.learnt.all_have.Given as goal

abbrev pub invariant-loop-place : goal.invariant-loop-place
invariant-loop-place l = list_all (λ v. v.value == l.value) (votes_before l.set l.place) ≡ true
