use Rattle.la_commit.proofs.lemmas.Casting.{own_vote-votes}
use Rattle.la_commit.proofs.laws.own_votes_are_votes.Goals as goal

pub returns : goal.returns
returns c = own_vote-votes
