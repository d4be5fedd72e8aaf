use Rattle.la_set.proofs.Representation.{cut-limit}
use Rattle.la_set.proofs.set.UpdateSet.allocator.Goals as goal

pub returns : goal.returns
returns c = cut-limit c.self.inside.of c.args.self.now c.self.invariant c.self.view_is
