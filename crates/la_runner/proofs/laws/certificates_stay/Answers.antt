use Rattle.la_runner.proofs.Standing.{stay}
use Rattle.la_runner.proofs.laws.certificates_stay.Goals as goal

pub returns : goal.returns
returns c = stay
