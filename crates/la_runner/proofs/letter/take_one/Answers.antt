use Rattle.la_runner.proofs.letter.take_one.Goals as goal

pub returns-clause-same : goal.returns-clause-same
returns-clause-same c = c.meet.ensures.met.same
