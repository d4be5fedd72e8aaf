use Rattle.la_durable.proofs.Lines.{is_named}
use Rattle.la_durable.proofs.machine.NodeMachineMachine.read.Goals as goal

pub returns-in-Some : goal.returns-in-Some
returns-in-Some c = is_named c.args.line.now c.of.result c.of.ensures.some c.of.ensures.none
