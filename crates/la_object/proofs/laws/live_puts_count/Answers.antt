use Rattle.std.proofs.Common.{None, if◌then◌else◌, ap, ◌∙◌}
use Rattle.la_object.specs.declared.query.Answer.TheVariants.{Has as HasIs}
use Rattle.la_object.specs.OrSet.{element}
use Rattle.la_object.proofs.LivePuts.{put-present}
use Rattle.la_object.proofs.laws.live_puts_count.Goals as goal

pub returns : goal.returns
returns c us u x has is stays =
    ap HasIs (put-present us u x has (ap (λ b. if b then None else element u.op) stays ∙ ap element is))
