use Rattle.la_orset.proofs.Hashed.{nat_same}
use Rattle.la_orset.proofs.live_table.trim.Goals as goal

pub returns-then-capacity-len : goal.returns-then-capacity-len
returns-then-capacity-len c =
    nat_same c.args.by_element.now.entries c.shrink_to.new.self.entries c.shrink_to.ensures.entries.2
