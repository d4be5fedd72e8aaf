use Rattle.std.proofs.Common.{Option, unwrap_or, ap, ◌∙◌}
use Rattle.std.proofs.lemmas.Option.{unwrap_or-slice_get}
use Rattle.la_set.specs.declared.update.UpdateId.{UpdateId}
use Rattle.la_own.specs.Own.{no_tag}
use Rattle.la_own.proofs.own.tag_at.Goals as goal

pub returns-in-None : goal.returns-in-None
returns-in-None c =
    ap (λ (tag : Option UpdateId). unwrap_or tag no_tag) c.in-None.ensures
    ∙ unwrap_or-slice_get c.args.tags.now c.args.place no_tag
