use Rattle.std.proofs.Common.{Some, take, ap, sym, ◌∙◌}
use Rattle.la_journal.specs.Machine.{steps_from}
use Rattle.la_journal.proofs.StepsMore.{from_append}
use Rattle.la_journal.proofs.laws.lives_follow_one_another.Goals as goal

pub returns : goal.returns
returns g c start first next calls later f h one led two = (
  one.0,
  two.0,
  two.2
      ∙ ap (steps_from g.M.Machine.step (take two.0 later)) (sym led ∙ one.2)
      ∙ sym (from_append g.M.Machine.step (take one.0 calls) (take two.0 later) (Some first)),
)
