use Rattle.std.proofs.Common.{◌∙◌}
use Rattle.la_set.proofs.Representation.{represented-edited, IsRepresentation-edited}
use Rattle.la_set.proofs.set.UpdateSet.put.Goals as goal

pub keeping-requires : goal.keeping-requires
keeping-requires c =
    IsRepresentation-edited c.in_ok-of.of c.args.self.now c.args.replica c.args.list c.requires.known
    c.in_ok-of.ensures.eight c.in_ok-of.ensures.each c.requires.numbered c.requires.within c.allocator.ensures

pub returns-clause-ok : goal.returns-clause-ok
returns-clause-ok c =
    c.in_ok-self.ensures
    ∙ represented-edited c.in_ok-of.of c.args.self.now c.args.replica c.args.list c.requires.known
    c.in_ok-of.ensures.eight c.in_ok-of.ensures.each c.requires.numbered
