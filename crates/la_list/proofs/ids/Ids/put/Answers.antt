use Rattle.std.proofs.Common.{ap, ◌∙◌}
use Rattle.std.specs.FinSet as set
use Rattle.la_list.proofs.IdSets.{one_more_id}
use Rattle.la_list.proofs.ids.Ids.put.Goals as goal

pub returns-clause-ok : goal.returns-clause-ok
returns-clause-ok c =
    one_more_id c.self.inside.of.keys c.insert.new.self.keys c.args.id c.in_ok-insert.ensures.updates.0
    ∙ ap (λ s. set.insert s c.args.id) c.self.view_is
