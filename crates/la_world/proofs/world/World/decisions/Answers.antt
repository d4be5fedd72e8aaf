use Rattle.std.proofs.Common.{ap, ap₂, ◌++◌, sym, ◌∙◌}
use Rattle.la_world.specs.Calls.{decisions_at}
use Rattle.la_world.proofs.Returned.{decisions_more}
use Rattle.la_world.proofs.world.World.decisions.Goals as goal

pub loop-commit-preserved : goal.loop-commit-preserved
loop-commit-preserved g c =
    c.in_ok-add_decisions.ensures
    ∙ ap₂ (λ xs ms. xs ++ decisions_at ms c.loop-commit.commit) c.loop-commit.invariant
    (ap (λ w. w.replica_states) c.self.view_is)
    ∙ sym (decisions_more c.args.self.now.replica_states c.loop-commit.commit)
