use Rattle.std.proofs.Common.{length, ap, ◌∙◌, arith}
use Rattle.std.specs.Option.{option_copied}
use Rattle.la_set.specs.Links.{items_of}
use Rattle.la_set.proofs.Walks.{longer_is, shorter_is}
use Rattle.la_set.proofs.history.History.extend_from.Goals as goal

pub returns-then-len_of-clause-ok : goal.returns-then-len_of-clause-ok
returns-then-len_of-clause-ok g c =
    shorter_is c.args.self.now (items_of (option_copied c.args.other)) (omega (arith, ap length c.link.ensures))

pub returns-clause-ok : goal.returns-clause-ok
returns-clause-ok g c =
    c.in_ok-longer.ensures
    ∙ longer_is c.args.self.now (items_of (option_copied c.args.other)) c.requires
    (omega (arith, ap length c.link.ensures))
