use Rattle.std.proofs.Common.{sym, ◌∙◌}
use Rattle.la_node.proofs.Resuming.{node_from}
use Rattle.la_node.proofs.node.Node.resumed.Goals as goal

pub invariant_of-result : goal.invariant_of-result
invariant_of-result g c =
    node_from (record { replica = c.args.replica; shelf = c.args.shelf })
    (sym c.may_resume.ensures ∙ c.if-not-may_resume.false)
