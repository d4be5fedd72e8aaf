use Rattle.std.proofs.Common.{◌≡◌, true, ap, ◌∙◌, cond}
use Rattle.la_set.specs.Tags.{with_tag}
use Rattle.la_own.proofs.Tags.{with_last, not_among}
use Rattle.la_own.proofs.own.put_last.Goals as goal

pub returns-in-Ok-clause-ok : goal.returns-in-Ok-clause-ok
returns-in-Ok-clause-ok c =
    let new : c.in-Ok.field-0 ≡ true = c.in-Ok.ensures.new.1 (not_among c.args.tag c.args.tags.now c.requires.above) in
    c.in-Ok.ensures.ok ∙ ap (λ b. cond b (with_tag c.args.tag c.args.tags.now) c.args.tags.now) new
    ∙ with_last c.args.tag c.args.tags.now c.requires.above
