use Rattle.la_commit.proofs.lemmas.Casting.{votes-subset}
use Rattle.la_commit.proofs.laws.votes_stay.Goals as goal

pub returns : goal.returns
returns c = votes-subset
