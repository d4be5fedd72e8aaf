-- What the participants of adopt-commit objects return: each by the set that it learnt in the
-- object's second instance.
use Rattle.std.specs.Prelude.{ℕ, List, filter_map, flat_map, Option, option_map, option_and_then}
use Rattle.std.specs.List.{range_with_len}
use Rattle.la_commit.specs.declared.outcome.Outcome.{Outcome}
use Rattle.la_commit.specs.Outcomes.{outcome_of, outcome_in}
use Rattle.la_commit.specs.Instances.{second_instance}
use Rattle.la_replica.specs.Messages.{group}
use Rattle.la_world.specs.declared.report.Decision.{Decision}
use Rattle.la_world.specs.declared.step.Opening.{Opening}
use Rattle.la_world.specs.Groups.{Group, replicas}
use Rattle.la_world.specs.Trace.{Trace}
use Rattle.la_world.specs.Learnings.{trace_learnt}

-- the outcome by a learnt ballot, where this is of a second instance
abbrev pub outcome_learnt : Opening → Option Outcome
outcome_learnt b = outcome_in b.instance b.replica b.updates

-- what r returned from object k, if it has
abbrev pub returned : Trace → (k r : ℕ) → Option Outcome
returned t k r = option_and_then (λ s. outcome_of s r) (trace_learnt t (second_instance k) r)

abbrev pub decision_of : (k r : ℕ) → Outcome → Decision
decision_of k r o = record { commit = k; replica = r; outcome = o }

-- the same, as a report lists it: by object, and then by replica
abbrev pub decisions_on : Group → Trace → (k : ℕ) → List Decision
decisions_on g t k =
    filter_map (λ r. option_map (decision_of k r) (returned t k r)) (group (replicas g))

abbrev pub decisions : Group → Trace → List Decision
decisions g t = flat_map (decisions_on g t) (range_with_len 0 g.commits)
