use Rattle.la_commit.proofs.lemmas.Agreeing.{outcomes-agree}
use Rattle.la_commit.proofs.laws.outcomes_agree.Goals as goal

pub returns : goal.returns
returns c = outcomes-agree
