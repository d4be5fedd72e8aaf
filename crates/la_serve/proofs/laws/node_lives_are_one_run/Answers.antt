use Rattle.la_serve.proofs.Lives.{one_run}
use Rattle.la_serve.proofs.laws.node_lives_are_one_run.Goals as goal

pub returns : goal.returns
returns g c =
    one_run g.D.Disk.seen g.D.Disk.may_leave g.D.Disk.moment g.D.Disk.left_since
    (λ fresh. c.lives_are_one_run.ensures fresh)
