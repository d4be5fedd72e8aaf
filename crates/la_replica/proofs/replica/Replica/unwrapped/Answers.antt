use Rattle.la_replica.proofs.lemmas.Parcelling.{seen_over}
use Rattle.la_replica.proofs.replica.Replica.unwrapped.Goals as goal

pub returns-in-Ok-clause-seen : goal.returns-in-Ok-clause-seen
returns-in-Ok-clause-seen c =
    seen_over c.args.self.now c.args.parcel c.in-Ok.message c.view_of-seen.result.now c.view_of-seen.ensures
    c.in-Ok.ensures.ok c.in-Ok.ensures.stands
