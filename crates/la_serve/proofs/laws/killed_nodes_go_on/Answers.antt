use Rattle.la_serve.proofs.Lives.{killed_go_on}
use Rattle.la_serve.proofs.laws.killed_nodes_go_on.Goals as goal

pub returns : goal.returns
returns g c = killed_go_on g.D.Disk.seen g.D.Disk.may_leave g.D.Disk.moment g.D.Disk.left_since
