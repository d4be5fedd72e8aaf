use Rattle.la_wire.proofs.Clean.{call-stands}
use Rattle.la_wire.proofs.laws.calls_may_stand_in_files.Goals as goal

pub returns : goal.returns
returns c = λ call is. call-stands call is
