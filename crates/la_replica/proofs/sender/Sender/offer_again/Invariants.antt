use Rattle.std.proofs.Common.{◌≡◌, ◌++◌}
use Rattle.std.specs.List.{range_with_len}
use Rattle.std.specs.Prelude.{map, filter}
use Rattle.la_replica.specs.Whole.{whole_mail}
use Rattle.la_replica.specs.Messages.{offer_to}
use Rattle.la_replica.specs.Again.{is_unanswered, last_ballot}
use Rattle.la_set.specs.declared.counts.Counts.{Counts}
use Rattle.la_replica.specs.Bases.{AddsTold}
use Rattle.la_replica.proofs.sender.Sender.offer_again.Given as goal

abbrev pub invariant-loop-to : goal.invariant-loop-to
invariant-loop-to l =
    (whole_mail l.mail
    ≡ whole_mail l.fn.mail
    ++ filter (is_unanswered l.proposer) (map (offer_to l.self (last_ballot l.proposer)) (range_with_len 0 l.to)))
    × ((offered : Counts) → AddsTold l.proposer l.self.instance offered l.fn.mail l.mail)
