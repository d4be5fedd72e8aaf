use Rattle.std.proofs.Common.{◌∙◌, ap}
use Rattle.std.specs.FinMap as map
use Rattle.la_types.proofs.lemmas.FiniteMaps.{one_put}
use Rattle.la_list.specs.Orders.{moment_total, moment_tied}
use Rattle.la_list.proofs.inserts.Inserts.keep.Goals as goal

pub returns-clause-ok : goal.returns-clause-ok
returns-clause-ok c =
    one_put moment_total moment_tied c.self.inside.of.entries c.insert.new.self.entries c.args.moment c.args.insertion
    c.in_ok-insert.ensures.updates.0 ∙ ap (λ m. map.insert m c.args.moment c.args.insertion) c.self.view_is
