use Rattle.la_proposer.proofs.Reporting.{verdicts_alike}
use Rattle.la_proposer.proofs.laws.verdicts_look_at_no_set.Goals as goal

pub returns : goal.returns
returns c p from s t = verdicts_alike p.tally from s t p.votes
