use Rattle.std.proofs.Common.{◌∙◌, ap}
use Rattle.std.specs.FinSet as set
use Rattle.la_object.proofs.lemmas.IdMaps.{one_less}
use Rattle.la_object.proofs.ids.Ids.remove.Goals as goal

pub returns : goal.returns
returns c =
    one_less c.self.inside.ids.keys c.remove.new.self.keys c.args.id c.remove.ensures.updates.0
    ∙ ap (λ s. set.remove s c.args.id) c.self.view_is
