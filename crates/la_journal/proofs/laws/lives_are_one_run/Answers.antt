use Rattle.la_journal.specs.Machine.{state_after}
use Rattle.la_journal.proofs.ManyLives.{one_run}
use Rattle.la_journal.proofs.laws.lives_are_one_run.Goals as goal

pub returns : goal.returns
returns g c start = one_run (state_after g.M.Machine.head g.M.Machine.named_state g.M.Machine.named g.M.Machine.step
    start) g.M.Machine.step
