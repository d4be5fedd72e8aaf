use Rattle.std.proofs.Common.{rules, ap, ◌∙◌}
use Rattle.la_shared.proofs.Keeps.{looks}
use Rattle.la_shared.proofs.table.Core.wait_turn.Goals as goal

pub load-requires : goal.load-requires
load-requires g c =
    (search rules, search rules, looks _ _ _ _ (ap (λ m. m.0.stage) c.loop.invariant.2 ∙ c.requires.drawn.1))
