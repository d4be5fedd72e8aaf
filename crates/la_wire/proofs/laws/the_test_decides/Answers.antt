use Rattle.la_wire.proofs.Tests.{decides-call}
use Rattle.la_wire.proofs.laws.the_test_decides.Goals as goal

pub returns : goal.returns
returns c = λ call. decides-call call
