use Rattle.std.proofs.Common.{◌++◌}
use Rattle.la_journal.specs.Machine.{state_after, LeadsToSome}
use Rattle.la_journal.proofs.Leading.{first_of_all, later_of_all}
use Rattle.la_journal.proofs.Moments.{joined}
use Rattle.la_journal.proofs.Takes.{weaker}
use Rattle.la_journal.proofs.laws.calls_follow_one_another.Goals as goal

pub returns : goal.returns
returns g c old mid new start first next taken later one led two =
    let leads = state_after g.M.Machine.head g.M.Machine.named_state g.M.Machine.named g.M.Machine.step start in
    let P = LeadsToSome leads g.M.Machine.step (taken ++ later) first in
    joined g.D.Disk.moment g.D.Disk.left_since P old mid new
    (weaker g.D.Disk.moment g.D.Disk.left_since old mid _ P
    (λ f some. first_of_all leads g.M.Machine.step taken later first next f some) one)
    (weaker g.D.Disk.moment g.D.Disk.left_since mid new _ P
    (λ f some. later_of_all leads g.M.Machine.step taken later first next f led some) two)
