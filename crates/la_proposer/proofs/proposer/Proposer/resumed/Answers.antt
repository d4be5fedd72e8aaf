use Rattle.std.proofs.Common.{sym, ◌∙◌}
use Rattle.la_proposer.proofs.Resuming.{resumes}
use Rattle.la_proposer.proofs.proposer.Proposer.resumed.Goals as goal

pub invariant_of-result : goal.invariant_of-result
invariant_of-result c = resumes c.args.parts (sym c.may_resume.ensures ∙ c.if-not-may_resume.false)
