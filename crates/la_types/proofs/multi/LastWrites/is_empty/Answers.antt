use Rattle.std.proofs.Common.{sym, ◌∙◌}
use Rattle.la_types.proofs.MultiBytes.{none_there}
use Rattle.la_types.proofs.multi.LastWrites.is_empty.Goals as goal

pub returns : goal.returns
returns c =
    let none = none_there _ 8 c.self.inside.of in
    ((λ e. sym c.self.view_is ∙ none.0 (sym c.eq.ensures ∙ e)), (λ e. c.eq.ensures ∙ none.1 (c.self.view_is ∙ e)))
