use Rattle.la_runner.proofs.Standing.{own_are}
use Rattle.la_runner.proofs.laws.own_certificates_are_certificates.Goals as goal

pub returns : goal.returns
returns c = own_are
