use Rattle.std.proofs.Common.{refl, ap}
use Rattle.la_proposer.specs.Resuming.{submissions_of}
use Rattle.la_proposer.proofs.Submissions.{waits}
use Rattle.la_proposer.proofs.Resuming.{all_submitted-Decides}
use Rattle.la_proposer.proofs.laws.parts_are_a_proposers.Goals as goal

pub returns-clause-whole : goal.returns-clause-whole
returns-clause-whole c p = (all_submitted-Decides p (submissions_of p)).1 refl

pub returns-clause-same : goal.returns-clause-same
returns-clause-same c p known =
    ap (λ ws. record p { waiting = ws }) (waits p.own known p.updates (submissions_of p) p.waiting refl)
