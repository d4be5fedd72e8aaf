use Rattle.std.proofs.Common.{◌≡◌, true, subst, ap, ◌∙◌}
use Rattle.la_proposer.specs.Fields.{stands_for}
use Rattle.la_proposer.specs.Resuming.{may_resume, submissions_of}
use Rattle.la_proposer.proofs.Resuming.{proposers_resume}
use Rattle.la_proposer.proofs.proposer.Proposer.submissions.Goals as goal

pub returns-clause-submissions : goal.returns-clause-submissions
returns-clause-submissions c = c.self.invariant.0.held ∙ ap submissions_of c.self.view_is

pub returns-clause-resumable : goal.returns-clause-resumable
returns-clause-resumable c =
    subst (λ p. may_resume p ≡ true) c.self.view_is
    (proposers_resume (stands_for c.self.inside) c.self.inside.submissions c.self.invariant)
