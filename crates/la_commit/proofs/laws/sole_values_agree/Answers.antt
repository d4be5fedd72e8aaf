use Rattle.la_commit.proofs.lemmas.Agreeing.{sole_values-agree}
use Rattle.la_commit.proofs.laws.sole_values_agree.Goals as goal

pub returns : goal.returns
returns c = sole_values-agree
