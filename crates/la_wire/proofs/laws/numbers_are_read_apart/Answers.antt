use Rattle.la_wire.proofs.NumberedLines.{submission_apart, plain_apart, numbered_submits, written_submits}
use Rattle.la_wire.proofs.laws.numbers_are_read_apart.Goals as goal

pub returns-clause-numbered : goal.returns-clause-numbered
returns-clause-numbered c id object op is = submission_apart id object op is

pub returns-clause-plain : goal.returns-clause-plain
returns-clause-plain c line call is = plain_apart line call is

pub returns-clause-submits : goal.returns-clause-submits
returns-clause-submits c line n call is says = numbered_submits line n call is says

pub returns-clause-written : goal.returns-clause-written
returns-clause-written c replica object op call says = written_submits replica object op call says
