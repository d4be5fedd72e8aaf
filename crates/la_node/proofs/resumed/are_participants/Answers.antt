use Rattle.std.proofs.Common.{sym, ◌∙◌}
use Rattle.la_node.proofs.Resuming.{instances_participate, none_participate, none_of}
use Rattle.la_node.proofs.resumed.are_participants.Goals as goal

pub returns-in-None : goal.returns-in-None
returns-in-None c = none_participate c.args.instances.now (none_of c.args.instances.now c.in-None.ensures.cases)

pub returns-in-Some : goal.returns-in-Some
returns-in-Some c =
    c.are_of_objects.ensures
    ∙ sym
    (instances_participate c.in-Some.field-0-0.now c.in-Some.others.now c.args.instances.now c.in-Some.ensures.cases.0)
