use Rattle.std.proofs.Common.{◌≡◌, flat_map}
use Rattle.std.specs.List.{range_with_len}
use Rattle.la_set.specs.declared.counts.Counts.{Counts}
use Rattle.la_replica.specs.Whole.{whole_mail}
use Rattle.la_replica.specs.Bases.{AreToldIn}
use Rattle.la_replica.specs.Again.{again_at}
use Rattle.la_replica.proofs.replica.Replica.again.Given as goal

abbrev pub invariant-loop-instance : goal.invariant-loop-instance
invariant-loop-instance l =
    (whole_mail l.mail ≡ flat_map (again_at l.self) (range_with_len 0 l.instance))
    × ((offered : Counts) → AreToldIn l.self offered l.mail)
