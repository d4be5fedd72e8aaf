use Rattle.std.proofs.Common.{◌≡◌, Option, Some, None, IfSome, slice_get, sym, subst}
use Rattle.la_set.specs.declared.counts.Counts.{Counts}
use Rattle.la_set.specs.AgreeWithin.{AgreeWithin}
use Rattle.la_set.specs.Counts.{zero_counts}
use Rattle.la_set.proofs.lemmas.WithinCounts.{none_agreed}
use Rattle.la_replica.specs.declared.instance.Instance.{Instance}
use Rattle.la_replica.proofs.replica.Replica.agreed_in.Goals as goal

none_in : (none : Counts) (o : Option Instance) → none ≡ zero_counts
    → IfSome o (λ x. AgreeWithin none x.acceptor x.proposer.updates)
none_in none None is = tt
none_in none (Some x) is =
    subst (λ b. AgreeWithin b x.acceptor x.proposer.updates) (sym is) (none_agreed x.acceptor x.proposer.updates)

pub returns-else-instance-eq0 : goal.returns-else-instance-eq0
returns-else-instance-eq0 c =
    none_in c.zero.result (slice_get c.args.self.now.instances c.args.instance) c.zero.ensures
