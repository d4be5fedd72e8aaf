use Rattle.std.proofs.Common.{rules}
use Rattle.la_world.proofs.world.World.decide.Goals as goal

pub returns-in_err-admit_proposal-clause-error : goal.returns-in_err-admit_proposal-clause-error
returns-in_err-admit_proposal-clause-error g c events stands =
    let refused = c.in_err-admit_proposal.ensures.error events stands c.args.value in
    search rules

pub take_proposal-requires-clause-allowed : goal.take_proposal-requires-clause-allowed
take_proposal-requires-clause-allowed g c κs live events stands =
    c.in_ok-admit_proposal.ensures.allowed events stands c.args.value

pub returns-in_err-take_proposal-clause-error : goal.returns-in_err-take_proposal-clause-error
returns-in_err-take_proposal-clause-error g c events stands =
    let allowed = c.in_ok-admit_proposal.ensures.allowed events stands c.args.value in
    search rules
