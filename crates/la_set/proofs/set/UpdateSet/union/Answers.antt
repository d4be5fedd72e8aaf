use Rattle.std.proofs.lemmas.Bool.{false≢true}
use Rattle.la_set.proofs.lemmas.Inclusions.{subset-count, compatible-superset}
use Rattle.la_set.proofs.lemmas.Agreements.{clash_compatible}
use Rattle.la_set.proofs.set.UpdateSet.union.Goals as goal

pub returns-in-Some-clause-room : goal.returns-in-Some-clause-room
returns-in-Some-clause-room c sub =
    absurd
    (clash_compatible c.args.self.now c.args.other.now c.in-Some.id c.in-Some.ensures.clashes
    (compatible-superset c.args.self.now c.args.other.now sub))

pub returns-in_err-join_compatible-clause-room : goal.returns-in_err-join_compatible-clause-room
returns-in_err-join_compatible-clause-room c sub =
    absurd (false≢true (c.in_err-join_compatible.ensures.room (subset-count c.args.other.now c.args.self.now sub)))

pub returns-clause-nothing : goal.returns-clause-nothing
returns-clause-nothing c sub =
    c.in_ok-join_compatible.ensures.nothing (subset-count c.args.other.now c.args.self.now sub)
