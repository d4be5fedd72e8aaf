use Rattle.std.proofs.Common.{[], subst}
use Rattle.la_journal.specs.Disk.{IsUnread}
use Rattle.la_journal.proofs.Files.{stays_lines}
use Rattle.la_journal.proofs.Leading.{leads_on}
use Rattle.la_journal.proofs.laws.unread_bytes_change_nothing.Goals as goal

pub returns : goal.returns
returns g c start file torn ends unread =
    let those = subst (λ o. IsUnread o torn) ends.read unread in
    leads_on g.M.Machine.head g.M.Machine.named_state g.M.Machine.named g.M.Machine.step g.M.Machine.text
    g.met.M.Machine.round_trip g.met.M.Machine.clean start file _ []
    (stays_lines file ends.has ends.read ends.whole torn those.0 those.1)
