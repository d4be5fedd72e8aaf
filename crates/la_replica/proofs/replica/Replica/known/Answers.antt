use Rattle.la_replica.specs.Whole.{lent_message}
use Rattle.la_replica.proofs.Known.{nothing_known_in}
use Rattle.la_replica.proofs.replica.Replica.known.Goals as goal

pub returns-in_default : goal.returns-in_default
returns-in_default c =
    nothing_known_in c.args.self.now c.args.message.instance c.args.verdict (lent_message c.args.message) c.zero.result
    c.requires.there c.zero.ensures
