-- How far a replica is in instance 0: by the counts of what it has accepted, and of its view.
use Rattle.std.specs.Prelude.{max, Option, Some, None, slice_get}
use Rattle.la_set.specs.declared.counts.Counts.{Counts}
use Rattle.la_set.specs.Histories.{Histories, empty}
use Rattle.la_set.specs.Counts.{count_in, counts_of, from_counts, zero_counts}
use Rattle.la_replica.specs.declared.instance.Instance.{Instance}
use Rattle.la_replica.specs.declared.progress.Progress.{Progress}
use Rattle.la_replica.specs.ReplicaState.{ReplicaState}

-- of each replica the larger of two counts
abbrev pub larger : Counts → Counts → Counts
larger c d = from_counts (λ r. max (count_in c r) (count_in d r))

abbrev pub no_progress : Progress
no_progress = record { accepted = zero_counts; view = zero_counts }

-- what is known by both
abbrev pub further_on : Progress → Progress → Progress
further_on p q = record { accepted = larger p.accepted q.accepted; view = larger p.view q.view }

-- what is accepted in an instance; nothing, where there is none
abbrev pub accepted_at : Option Instance → Histories
accepted_at None = empty
accepted_at (Some x) = x.acceptor

abbrev pub progress_of : ReplicaState → Progress
progress_of r = record {
  accepted = counts_of (accepted_at (slice_get r.instances 0));
  view = counts_of r.view;
}
