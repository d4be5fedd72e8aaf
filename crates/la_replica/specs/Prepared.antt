-- What is prepared: where it leads, and what it was prepared from.
use Rattle.std.specs.Prelude.{◌≡◌, ℕ, ◌<◌, Bool, length, Option, None}
use Rattle.la_set.specs.declared.counts.Counts.{Counts}
use Rattle.la_set.specs.Histories.{Histories}
use Rattle.la_set.specs.ObjectOps.{ObjectOp}
use Rattle.la_proposer.specs.declared.tally.Verdict.{Verdict}
use Rattle.la_proposer.specs.ProposerState.{ProposerState}
use Rattle.la_proposer.specs.Refusals.{IsVerdictOf, IsHearable}
use Rattle.la_replica.specs.declared.change.Change.{Change}
use Rattle.la_replica.specs.declared.instance.Instance.{Instance}
use Rattle.la_replica.specs.declared.out.Out.{Out}
use Rattle.la_replica.specs.declared.sender.Sender.{Sender}
use Rattle.la_replica.specs.Whole.{Message, whole_out}
use Rattle.la_replica.specs.Messages.{reply_of}
use Rattle.la_replica.specs.Steps as steps
use Rattle.la_replica.specs.Steps.{Step, hears, is_told}
use Rattle.la_replica.specs.ReplicaState.{ReplicaState, receives}
use Rattle.la_replica.specs.Refusals.{FitsMessage, SparesMessage}
use Rattle.la_replica.specs.Changes.{proposer_after, step_by, IsProposerFrom, SaysWhatIsLearnt, IsPreparedFrom, led}
use Rattle.la_replica.specs.Changes.{LeadsThere, candidate, learnt_in_view, told_in_view, is_taken, IsVerdictOn}
use Rattle.la_replica.specs.Bases.{offered_by, AreToldBy, AreToldAfter, AreToldThere}

-- ## In an instance

-- a message from a replica of the group that fits, and leaves a number for a ballot that opens; and this
-- is the verdict on it
pub record IsAdmittedAt (x : Instance) (m : Message) (v : Option Verdict) : Type 0 where
  pub known : m.from < length x.proposer.votes
  pub verdict : IsVerdictOn x m v m.body
  pub fits : FitsMessage x m
  pub spares : SparesMessage x m

-- the reply that a message is would be heard, and this is the verdict on it
pub record AdmitsReply (p : ProposerState) (m : Message) (v : Option Verdict) : Type 0 where
  pub verdict : IsVerdictOf p m.from m.ballot (reply_of m) v
  pub hearable : IsHearable p m.from m.ballot (reply_of m)

-- what holds from each view by which it was decided so whether this set is taken as the view
abbrev pub WhereDecided : (taken : Bool) → Option Histories → (Histories → Type 0) → Type 0
WhereDecided taken s P = (view : Histories) → taken ≡ is_taken view s → P view

-- what is prepared of a message: it leads where these steps do, from each view by which it was decided
-- so whether this set is taken; and it was prepared from what stands in this instance
pub record PreparesReceiptAt (x : Instance) (i : ℕ) (taken : Bool) (s : Option Histories) (does : Histories → Step)
    (prepared : Out × Change) : Type 0 where
  pub step : WhereDecided taken s (λ view. does view ≡ step_by x view (whole_out prepared.0) prepared.1)
  pub from : IsProposerFrom x.proposer prepared.1.proposer
  pub instance : prepared.1.instance ≡ i
  pub agreed : SaysWhatIsLearnt x.proposer prepared.1

-- of any message with this verdict; of a reply with this verdict; of a told set
abbrev pub PreparesMessageAt :
    Sender → Instance → Option Verdict → (taken : Bool) → Message → Out × Change → Type 0
PreparesMessageAt s x v taken m prepared =
    PreparesReceiptAt x m.instance taken (candidate x v m) (λ view. steps.receives s x view m) prepared

abbrev pub PreparesReplyAt :
    Sender → Instance → Option Verdict → (taken : Bool) → Message → Out × Change → Type 0
PreparesReplyAt s x v taken m prepared =
    PreparesReceiptAt x s.instance taken (learnt_in_view s.instance x.proposer v)
    (λ view. hears s x view m (reply_of m)) prepared

abbrev pub PreparesTellAt : Sender → Instance → (taken : Bool) → Histories → Out × Change → Type 0
PreparesTellAt s x taken told prepared =
    PreparesReceiptAt x s.instance taken (told_in_view s.instance told) (λ view. is_told s x view told) prepared

-- mail is told by what the proposer becomes
abbrev pub AreToldNext : Instance → (instance : ℕ) → (offered : Counts) → Out × Change → Type 0
AreToldNext x i offered prepared =
    AreToldBy (proposer_after x.proposer prepared.1.proposer) i offered prepared.0.mail

-- what is prepared of a submission: it leads where the step does, from any view, and was prepared from
-- what stands in this instance, where nothing is learnt by it; its mail is told so
pub record PreparesSubmissionAt (s : Sender) (x : Instance) (d : ObjectOp) (prepared : Out × Change) : Type 0 where
  pub step : (view : Histories) → steps.submits s x view d ≡ step_by x view (whole_out prepared.0) prepared.1
  pub from : IsProposerFrom x.proposer prepared.1.proposer
  pub told : (offered : Counts) → AreToldNext x s.instance offered prepared
  pub instance : prepared.1.instance ≡ s.instance
  pub agreed : prepared.1.agreed ≡ None

-- a change in an instance that leaves its proposer, and by which nothing is learnt
pub record KeepsProposer (i : ℕ) (c : Change) : Type 0 where
  pub proposer : c.proposer ≡ None
  pub instance : c.instance ≡ i
  pub agreed : c.agreed ≡ None

-- ## In a replica

-- what is prepared of a message as it is received: it leads where the step does, it was prepared from this
-- very replica, and once it is committed its mail is told so
pub record PreparesReceiptIn (r : ReplicaState) (m : Message) (prepared : Out × Change) : Type 0 where
  pub step : receives r m ≡ led r (whole_out prepared.0) prepared.1
  pub from : IsPreparedFrom r prepared.1
  pub told : AreToldAfter r prepared.1 (offered_by m) prepared.0.mail
  pub instance : prepared.1.instance ≡ m.instance

-- of a submission in an instance: the same, from whatever state of this replica has the same there
pub record PreparesSubmissionIn (r : ReplicaState) (i : ℕ) (d : ObjectOp) (prepared : Out × Change) : Type 0 where
  pub leads : LeadsThere r i d (whole_out prepared.0) prepared.1
  pub told : AreToldThere r i prepared.1 prepared.0.mail
  pub instance : prepared.1.instance ≡ i
