use Rattle.std.proofs.Common.{◌≡◌, length}
use Rattle.la_proposer.specs.Resuming.{agree_in_pairs}
use Rattle.la_proposer.proofs.parts.agree_in_pairs.Given as goal

abbrev pub invariant-loop-first : goal.invariant-loop-first
invariant-loop-first l = agree_in_pairs l.tally ≡ agree_in_pairs l.rest

abbrev pub decreases-loop-first : goal.decreases-loop-first
decreases-loop-first l = length l.rest
