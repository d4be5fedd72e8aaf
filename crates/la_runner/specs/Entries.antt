-- What the entries of a log say of the jobs that they answer.
use Rattle.std.specs.Prelude.{◌≡◌, ◌⊎◌, ℕ, ◌+◌, ◌<◌, Bool, true, false, List, length, take, count_by, slice_get, cond, Option, Some, None, IfSome, IfNone}
use Rattle.la_commit.specs.declared.outcome.Outcome.{Outcome}
use Rattle.la_commit.specs.Instances.{first_instance, second_instance}
use Rattle.la_commit.specs.Outcomes.{outcome}
use Rattle.la_commit.specs.Votes.{HoldsVote, first_vote_for, second_vote_for}
use Rattle.la_object.specs.declared.kind.Kind.{Kind}
use Rattle.la_object.specs.declared.query.Query.{Query}
use Rattle.la_object.specs.Shelves.{answer_at}
use Rattle.la_proposer.specs.ProposerState.{op_on}
use Rattle.la_set.specs.declared.update.Op.{Op}
use Rattle.la_set.specs.Histories.{Histories, ContainsUpdate, empty}
use Rattle.la_set.specs.Inclusion.{IsSubset}
use Rattle.la_set.specs.ObjectOps.{update_of}
use Rattle.la_runner.specs.declared.jobs.Entry.{Entry}
use Rattle.la_runner.specs.declared.jobs.Entry.TheVariants.{Learned, Decided, Answer}
use Rattle.la_runner.specs.declared.jobs.Job.{Job}
use Rattle.la_runner.specs.declared.jobs.Job.TheVariants.{Update, Decide, Ask}
use Rattle.la_runner.specs.declared.jobs.Stopped.{Stopped}
use Rattle.la_runner.specs.Members.{MemberState, member_submitted, member_view, IsCertified, IsOwnCertified}
use Rattle.la_runner.specs.Stops.{StopFits}

-- whether a job submits an update for an object
abbrev pub is_update_job : Job → Bool
is_update_job (Update object op) = true
is_update_job (Decide commit value) = false
is_update_job (Ask object query) = false

-- how many of these jobs do
abbrev pub update_jobs : List Job → ℕ
update_jobs jobs = count_by is_update_job jobs

-- the set of updates for objects that an entry names: the learnt set, or the view of an answer
abbrev pub entry_set : Entry → Option Histories
entry_set (Learned l) = Some l.updates
entry_set (Decided first second reached) = None
entry_set (Answer seen answer) = Some seen

-- empty, or acknowledged by a majority as far as the member's passes have seen
abbrev pub IsKnownTo : MemberState → Histories → Type 0
IsKnownTo m s = (s ≡ empty) ⊎ IsCertified m 0 s

-- a decision, by a set of each instance: both were acknowledged to the member itself, the first has
-- its vote for its value, the second the vote to which the first leads
pub record IsDecided (m : MemberState) (commit value : ℕ) (first second : Histories) (reached : Outcome) : Type 0 where
  pub first_own : IsOwnCertified m (first_instance commit) first
  pub first_vote : HoldsVote first m.replica (first_vote_for value)
  pub second_own : IsOwnCertified m (second_instance commit) second
  pub second_vote : HoldsVote second m.replica (second_vote_for first value)
  pub outcome_is : reached ≡ outcome second value

-- an update is answered by a set that holds it under this number, and that a majority acknowledged
-- to the member itself
abbrev pub AnswersUpdate : MemberState → (number object : ℕ) → Op → Entry → Type 0
AnswersUpdate m number object op (Learned l) =
    IsOwnCertified m 0 l.updates
    × ContainsUpdate l.updates (update_of m.replica number (op_on object op))
AnswersUpdate m number object op (Decided first second reached) = ⊥
AnswersUpdate m number object op (Answer seen answer) = ⊥

-- a proposal by a decision
abbrev pub AnswersDecide : MemberState → (commit value : ℕ) → Entry → Type 0
AnswersDecide m commit value (Learned l) = ⊥
AnswersDecide m commit value (Decided first second reached) =
    IsDecided m commit value first second reached
AnswersDecide m commit value (Answer seen answer) = ⊥

-- a question by what the object answers by the view that is named
abbrev pub AnswersAsk : MemberState → List (ℕ × Kind) → (object : ℕ) → Query → Entry → Type 0
AnswersAsk m objects object query (Learned l) = ⊥
AnswersAsk m objects object query (Decided first second reached) = ⊥
AnswersAsk m objects object query (Answer seen answer) =
    IsKnownTo m seen
    × (answer_at (record { view = seen; objects = objects }) object query ≡ Some answer)

-- an entry answers a job of a member whose next update has this number, beside these objects
abbrev pub AnswersJob : MemberState → (number : ℕ) → List (ℕ × Kind) → Job → Entry → Type 0
AnswersJob m number objects (Update object op) e = AnswersUpdate m number object op e
AnswersJob m number objects (Decide commit value) e = AnswersDecide m commit value e
AnswersJob m number objects (Ask object query) e = AnswersAsk m objects object query e

-- the number of a member's next update, once these jobs are done
abbrev pub next_number : MemberState → List Job → ℕ
next_number first jobs = length (member_submitted first 0) + update_jobs jobs + 1

-- the entries answer the first jobs, in order, and each names a set that contains those before it;
-- the view contains all
pub record HasDone (first : MemberState) (objects : List (ℕ × Kind)) (jobs : List Job) (entries : List Entry)
    (now : MemberState) : Type 0 where
  pub answers :
      (k : ℕ) (e : Entry) → slice_get entries k ≡ Some e
      → (j : Job) × (slice_get jobs k ≡ Some j)
      × AnswersJob now (next_number first (take k jobs)) objects j e
  pub growing :
      (k m : ℕ) (e f : Entry) (s t : Histories) → k < m
      → slice_get entries k ≡ Some e → slice_get entries m ≡ Some f
      → entry_set e ≡ Some s → entry_set f ≡ Some t → IsSubset s t
  pub within :
      (k : ℕ) (e : Entry) (s : Histories) → slice_get entries k ≡ Some e
      → entry_set e ≡ Some s → IsSubset s (member_view now)

-- the first job that is not done is there, and the reason fits it
abbrev pub StopsAt : List (ℕ × Kind) → MemberState → List Job → (done : ℕ) → Stopped → Type 0
StopsAt objects m jobs done why =
    (j : Job) × (slice_get jobs done ≡ Some j) × StopFits objects m j why

-- ## One job, and all of them

-- an update was submitted, and its entry answers it: the set that the entry names is the view
pub record DoesUpdate (old new : MemberState) (object : ℕ) (op : Op) (e : Entry) : Type 0 where
  pub answers : AnswersUpdate new (length (member_submitted old 0) + 1) object op e
  pub names : entry_set e ≡ Some (member_view new)
  pub submitted : length (member_submitted new 0) ≡ length (member_submitted old 0) + 1

-- an entry answers a job: the set that it names, if any, is the view, and only an update was submitted
pub record DoesJob (old : MemberState) (objects : List (ℕ × Kind)) (job : Job) (new : MemberState) (e : Entry) :
    Type 0 where
  pub answers : AnswersJob new (length (member_submitted old 0) + 1) objects job e
  pub names : IfSome (entry_set e) (λ s. s ≡ member_view new)
  pub submitted :
      length (member_submitted new 0) ≡ length (member_submitted old 0) + cond (is_update_job job) 1 0

-- where nothing stopped them, as many entries answer the jobs as there are; else the reason fits the next job
pub record EndsJobs (stopped : Option Stopped) (objects : List (ℕ × Kind)) (m : MemberState) (jobs : List Job)
    (done : ℕ) : Type 0 where
  pub all : IfNone stopped (done ≡ length jobs)
  pub stop : IfSome stopped (StopsAt objects m jobs done)
