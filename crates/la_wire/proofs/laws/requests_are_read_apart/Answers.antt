use Rattle.la_wire.proofs.RequestLines.{named_apart, nameless_apart}
use Rattle.la_wire.proofs.laws.requests_are_read_apart.Goals as goal

pub returns-clause-named : goal.returns-clause-named
returns-clause-named c line name none is not = named_apart line none name is not

pub returns-clause-nameless : goal.returns-clause-nameless
returns-clause-nameless c line none = nameless_apart line none
