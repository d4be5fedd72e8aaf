use Rattle.std.proofs.Common.{sym, ◌∙◌, reverse}
use Rattle.la_runner.proofs.Fresh.{popped, taken}
use Rattle.la_runner.proofs.group.Members.take.Goals as goal

pub returns-clause-next : goal.returns-clause-next
returns-clause-next c =
    sym c.self.view_is ∙ popped c.pop.result c.self.inside.members.items c.pop.new.self.items c.pop.ensures.items

pub returns-clause-member : goal.returns-clause-member
returns-clause-member c group cap replica are =
    taken group cap replica c.pop.result c.args.self.now (reverse c.pop.new.self.items) (returns-clause-next c) are
