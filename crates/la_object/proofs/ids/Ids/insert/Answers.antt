use Rattle.std.proofs.Common.{◌∙◌, ap, not, sym}
use Rattle.std.specs.FinSet as set
use Rattle.la_object.proofs.lemmas.IdOrder.{id_cmp_total}
use Rattle.la_object.proofs.lemmas.IdMaps.{one_more}
use Rattle.la_object.proofs.ids.Ids.insert.Goals as goal

pub returns-clause-ok : goal.returns-clause-ok
returns-clause-ok c =
    one_more c.self.inside.ids.keys c.insert.new.self.keys c.args.id c.in_ok-insert.ensures.updates.0
    ∙ ap (λ s. set.insert s c.args.id) c.self.view_is

pub returns-clause-new : goal.returns-clause-new
returns-clause-new c =
    c.in_ok-insert.ensures.added
    ∙ ap not
    (sym (set.contains-from_list id_cmp_total c.self.inside.ids.keys c.args.id)
    ∙ ap (λ s. set.contains s c.args.id) c.self.view_is)
