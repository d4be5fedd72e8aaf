use Rattle.std.proofs.Common.{ap}
use Rattle.la_wire.specs.CallLines.{said_ok}
use Rattle.la_wire.proofs.CallsBack.{call-back}
use Rattle.la_wire.proofs.laws.calls_are_read_back.Goals as goal

pub returns : goal.returns
returns c = λ call is. ap said_ok (call-back call is)
