use Rattle.la_orset.proofs.Hashed.{nat_put}
use Rattle.la_orset.proofs.live_tree.put.Goals as goal

pub returns : goal.returns
returns c =
    nat_put c.args.by_element.now.entries c.insert.new.self.entries c.args.element c.args.tags
    c.in_ok-insert.ensures.updates.0
