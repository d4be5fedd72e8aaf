-- What a prepared change is to a replica: what stands once it is committed, and when it was prepared
-- from this very replica.
use Rattle.std.specs.Prelude.{◌≡◌, ℕ, ◌==◌, Bool, false, slice_get, Option, Some, None, option_map, unwrap_or, IfSome, if◌then◌else◌}
use Rattle.la_set.specs.declared.counts.Counts.{Counts}
use Rattle.la_set.specs.AgreeWithin.{AgreeWithin}
use Rattle.la_set.specs.Counts.{counts_of}
use Rattle.la_set.specs.ObjectOps.{ObjectOp}
use Rattle.la_set.specs.Histories.{Histories}
use Rattle.la_set.specs.Inclusion.{IsSubset, is_larger}
use Rattle.la_acceptor.specs.Answer.{accepted_next}
use Rattle.la_acceptor.specs.declared.reply.Reply.TheVariants as replied
use Rattle.la_proposer.specs.declared.ballot.Ballot.{Ballot}
use Rattle.la_proposer.specs.declared.change.Change as proposer_change
use Rattle.la_proposer.specs.declared.tally.Verdict.{Verdict}
use Rattle.la_proposer.specs.declared.tally.Verdict.TheVariants.{Waits, Refines, Learns}
use Rattle.la_proposer.specs.ProposerState.{ProposerState}
use Rattle.la_proposer.specs.Changes as proposer_changes
use Rattle.la_proposer.specs.Refusals.{IsVerdictOf}
use Rattle.la_replica.specs.declared.change.Change.{Change}
use Rattle.la_replica.specs.declared.instance.Instance.{Instance}
use Rattle.la_replica.specs.Whole.{Message, Body, Offer, Yes, No, Tell, Out}
use Rattle.la_replica.specs.Steps.{Step, step_of}
use Rattle.la_replica.specs.ReplicaState.{ReplicaState, InInstance, with_instance, submits}

-- ## In an instance

abbrev pub proposer_after : ProposerState → Option proposer_change.Change → ProposerState
proposer_after p None = p
proposer_after p (Some c) = proposer_changes.after_commit p c

abbrev pub IsProposerFrom : ProposerState → Option proposer_change.Change → Type 0
IsProposerFrom p None = Unit {0}
IsProposerFrom p (Some c) = proposer_changes.IsPreparedFrom p c

-- what is given in the place of what was, or that
abbrev pub learnt_next : Option Ballot → Option Ballot → Option Ballot
learnt_next before None = before
learnt_next before (Some b) = Some b

abbrev pub view_next : Histories → Option Histories → Histories
view_next view None = view
view_next view (Some s) = s

abbrev pub at_after : Instance → Change → Instance
at_after x c = record {
  acceptor = accepted_next x.acceptor c.accepted;
  proposer = proposer_after x.proposer c.proposer;
  learnt = learnt_next x.learnt c.learnt;
}

-- the step that leaves this, once the change is committed
abbrev pub step_by : Instance → (view : Histories) → Out → Change → Step
step_by x view out c = step_of out (at_after x c) (view_next view c.view)

-- ## How far the view agrees with the sets of instance 0's ballots

-- what a change leaves: the view, what is accepted and the ballot's set have only grown; and where it
-- says how far the view and the ballot's set agree, so far they do
pub record LeavesAgreeing (view : Histories) (x : Instance) (c : Change) : Type 0 where
  pub accepted_grows : IsSubset x.acceptor (accepted_next x.acceptor c.accepted)
  pub view_grows : IsSubset view (view_next view c.view)
  pub updates_grow : IsSubset x.proposer.updates (proposer_after x.proposer c.proposer).updates
  pub agreed : IfSome c.agreed (λ b.
      AgreeWithin b (view_next view c.view) (proposer_after x.proposer c.proposer).updates)

-- it says so where the view becomes the set of the ballot that is learnt: as far as that goes
abbrev pub SaysWhatIsLearnt : ProposerState → Change → Type 0
SaysWhatIsLearnt p c =
    IfSome c.agreed (λ b. (b ≡ counts_of p.updates) × (c.view ≡ Some p.updates))

-- how far they are known to agree, once it is committed
abbrev pub agreed_next : Counts → (instance : ℕ) → Option Counts → Counts
agreed_next b i agreed = if i == 0 then unwrap_or agreed b else b

-- ## In a replica

-- it was prepared from this very replica: from what stands in its instance, and from its view
abbrev pub IsPreparedFrom : ReplicaState → Change → Type 0
IsPreparedFrom r c = InInstance r c.instance
    (λ x. IsProposerFrom x.proposer c.proposer × LeavesAgreeing r.view x c)

-- what stands once it is committed; nothing, where there is no such instance
abbrev pub after_commit : ReplicaState → Change → Option ReplicaState
after_commit r c =
    option_map (λ x. with_instance r c.instance (at_after x c) (view_next r.view c.view))
    (slice_get r.instances c.instance)

-- the same, with what is answered
abbrev pub led : ReplicaState → Out → Change → Option (Out × ReplicaState)
led r out c = option_map (λ (after : ReplicaState). (out, after)) (after_commit r c)

-- two states of a replica that have the same in an instance
pub record AreSameIn (i : ℕ) (r s : ReplicaState) : Type 0 where
  pub votes : s.votes ≡ r.votes
  pub own : s.own ≡ r.own
  pub there : slice_get s.instances i ≡ slice_get r.instances i

-- a submission in an instance that was prepared: the same from whatever state of this replica has
-- the same there
abbrev pub LeadsThere : ReplicaState → (instance : ℕ) → ObjectOp → Out → Change → Type 0
LeadsThere r i d out c =
    (s : ReplicaState) → AreSameIn i r s → IsPreparedFrom s c × (submits s i d ≡ led s out c)

-- ## What may become the view

abbrev pub learnt_by : ProposerState → Option Verdict → Option Histories
learnt_by p None = None
learnt_by p (Some Waits) = None
learnt_by p (Some Refines) = None
learnt_by p (Some Learns) = Some p.updates

abbrev pub seen_in : Instance → (verdict : Option Verdict) → Body → Option Histories
seen_in x verdict (Offer offered) = None
seen_in x verdict Yes = learnt_by x.proposer verdict
seen_in x verdict (No accepted) = learnt_by x.proposer verdict
seen_in x verdict (Tell told) = Some told

-- in instance 0, the set that may become the view by a message on which this is the verdict
abbrev pub candidate : Instance → (verdict : Option Verdict) → Message → Option Histories
candidate x verdict m = if m.instance == 0 then seen_in x verdict m.body else None

-- the same of a reply with this verdict, and of a told set
abbrev pub learnt_in_view : (instance : ℕ) → ProposerState → Option Verdict → Option Histories
learnt_in_view i p verdict = if i == 0 then learnt_by p verdict else None

abbrev pub told_in_view : (instance : ℕ) → Histories → Option Histories
told_in_view i told = if i == 0 then Some told else None

-- whether it does
abbrev pub is_taken : (view : Histories) → Option Histories → Bool
is_taken view None = false
is_taken view (Some s) = is_larger view s

-- this is the verdict on a message; there is one on a reply alone
abbrev pub IsVerdictOn : Instance → Message → Option Verdict → Body → Type 0
IsVerdictOn x m verdict (Offer offered) = verdict ≡ None
IsVerdictOn x m verdict (Tell told) = verdict ≡ None
IsVerdictOn x m verdict Yes = IsVerdictOf x.proposer m.from m.ballot replied.Yes verdict
IsVerdictOn x m verdict (No accepted) =
    IsVerdictOf x.proposer m.from m.ballot (replied.No accepted) verdict

-- the same in the message's instance of a replica
abbrev pub IsVerdictIn : ReplicaState → Message → Option Verdict → Type 0
IsVerdictIn r m verdict = InInstance r m.instance (λ x. IsVerdictOn x m verdict m.body)

-- whether the view is taken by a message on which this is the verdict, as it was decided
abbrev pub IsDecidedIn : ReplicaState → Message → Option Verdict → (taken : Bool) → Type 0
IsDecidedIn r m verdict taken =
    InInstance r m.instance (λ x. taken ≡ is_taken r.view (candidate x verdict m))
