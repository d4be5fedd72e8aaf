use Rattle.la_commit.proofs.lemmas.Agreeing.{unanimous-commit}
use Rattle.la_commit.proofs.laws.unanimous_commit.Goals as goal

pub returns : goal.returns
returns c = unanimous-commit
