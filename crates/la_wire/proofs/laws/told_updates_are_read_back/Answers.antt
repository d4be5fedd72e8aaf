use Rattle.std.proofs.Common.{refl}
use Rattle.la_wire.proofs.ToldBack.{nameless-back, named-back}
use Rattle.la_wire.proofs.laws.told_updates_are_read_back.Goals as goal

pub returns-clause-line : goal.returns-clause-line
returns-clause-line c own u name = refl

pub returns-clause-nameless : goal.returns-clause-nameless
returns-clause-nameless c own u few is = nameless-back own u few is

pub returns-clause-named : goal.returns-clause-named
returns-clause-named c own u name few is named = named-back own u few is name named
