-- The events by which a replica submits: in instance 0, or a proposal in a first instance.
use Rattle.std.proofs.Common.{◌≡◌, ℕ, ◌<◌, None, ap, subst, arith}
use Rattle.std.proofs.lemmas.Option.{same_Some, none-some}
use Rattle.la_set.specs.ObjectOps.{ObjectOp}
use Rattle.la_world.specs.Groups.{Group, replicas, instances}
use Rattle.la_world.specs.Events.{Event, Submit, Deliver, Decide, Ask}
use Rattle.la_world.specs.Trace.{Counted, Trace}
use Rattle.la_node.specs.SecondVotes.{Submission}
use Rattle.la_world.specs.Playing.{does_submit, event_entry}
use Rattle.la_world.specs.Report.{refused}
use Rattle.la_world.specs.Calls.{IsEventSubmission}
use Rattle.la_world.proofs.Allowing.{submitter_known, proposer_known, object_known}
use Rattle.la_world.proofs.EventCases.{entry_of}

module _ (g : Group) (t : Trace) (i r : ℕ) (object_op : ObjectOp) where
  abbrev made : Submission
  made = record { instance = i; replica = r; object_op = object_op }

  -- what such an event does
  pub submission_entry : (e : Event) → IsEventSubmission e i r object_op
      → event_entry g t e ≡ entry_of e None (does_submit t i r object_op)
  submission_entry (Submit q d) by =
      ap (λ (s : Submission). entry_of (Submit q d) None (does_submit t s.instance s.replica s.object_op))
      (same_Some _ made (by Counted))
  submission_entry (Decide q k value) by =
      ap (λ (s : Submission). entry_of (Decide q k value) None (does_submit t s.instance s.replica s.object_op))
      (same_Some _ made (by Counted))
  submission_entry (Deliver k) by = absurd (none-some made (by Counted))
  submission_entry (Ask q object query) by = absurd (none-some made (by Counted))

  -- and where it is not refused
  pub submission_replica : (e : Event) → IsEventSubmission e i r object_op → refused g t e ≡ None → r < replicas g
  submission_replica (Submit q d) by allowed =
      subst (λ (s : Submission). s.replica < replicas g) (same_Some _ made (by Counted)) (submitter_known g t q d allowed)
  submission_replica (Decide q k value) by allowed =
      subst (λ (s : Submission). s.replica < replicas g) (same_Some _ made (by Counted))
      (proposer_known g t q k value allowed)
  submission_replica (Deliver k) by allowed = absurd (none-some made (by Counted))
  submission_replica (Ask q object query) by allowed = absurd (none-some made (by Counted))

  pub submission_instance : (e : Event) → IsEventSubmission e i r object_op → refused g t e ≡ None → i < instances g
  submission_instance (Submit q d) by allowed =
      subst (λ (s : Submission). s.instance < instances g) (same_Some _ made (by Counted)) (omega arith)
  submission_instance (Decide q k value) by allowed =
      let lt = object_known g t q k value allowed in
      subst (λ (s : Submission). s.instance < instances g) (same_Some _ made (by Counted)) (omega arith)
  submission_instance (Deliver k) by allowed = absurd (none-some made (by Counted))
  submission_instance (Ask q object query) by allowed = absurd (none-some made (by Counted))
