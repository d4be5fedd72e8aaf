-- What a reader of a list of events that was handed in, and of its lines, sees there.
use Rattle.std.specs.Prelude.{◌≡◌, ◌⊎◌, ℕ, ◌+◌, ◌-◌, ◌<◌, nat_lt, List, ◌∷◌, ◌++◌, length, take, slice_get, Option, Some, None, IsSome, if◌then◌else◌, []}
use Rattle.la_set.specs.declared.update.UpdateId.{UpdateId}
use Rattle.la_set.specs.Histories.{Histories, get}
use Rattle.la_set.specs.Inclusion.{IsSubset}
use Rattle.la_world.specs.declared.report.Line.{Line}
use Rattle.la_world.specs.declared.report.Line.TheVariants.{Done, Refused}
use Rattle.la_world.specs.declared.step.Did.{Did}
use Rattle.la_world.specs.declared.step.Learnt.{Learnt}
use Rattle.la_world.specs.declared.step.Step.{Step}
use Rattle.la_world.specs.Groups.{Group, replicas, kinds_on}
use Rattle.la_world.specs.Events.{Event, Deliver, Submit, Decide, Ask}
use Rattle.la_node.specs.SecondVotes.{Submission, second_vote_in}
use Rattle.la_world.specs.Submissions.{object_op_in}
use Rattle.la_world.specs.Views.{trace_view}
use Rattle.la_world.specs.Report.{trace_of}
use Rattle.la_set.specs.declared.update.Update.{Update}
use Rattle.la_set.specs.ObjectOps.{ObjectOp, object_op_of}
use Rattle.la_object.specs.declared.query.Query.{Query}
use Rattle.la_object.specs.declared.query.Answer.{Answer}
use Rattle.la_object.specs.Shelves.{answer_at}
use Rattle.la_commit.specs.Instances.{first_instance}
use Rattle.la_commit.specs.Votes.{first_vote}
use Rattle.la_world.specs.declared.step.Opening.{Opening}
use Rattle.la_commit.specs.declared.outcome.Outcome.{Outcome}
use Rattle.la_world.specs.declared.step.Did.TheVariants.{Replied}
use Rattle.la_world.specs.declared.step.Did.TheVariants as shown

-- ## What lines show

-- the set that a step learnt, if it did
abbrev pub learnt_by_did : Did → Option Learnt
learnt_by_did (shown.Learnt learnt told outcome next) = Some learnt
learnt_by_did _ = None

-- the set that a line shows as learnt, if it does
abbrev pub learnt_on : Line → Option Learnt
learnt_on (Done step) = learnt_by_did step.did
learnt_on (Refused name) = None

-- what became of the event at this place: it learnt this set
pub record IsLearntAt (steps : List Line) (place : ℕ) (x : Learnt) : Type 0 where
  pub step : Step
  pub done : slice_get steps place ≡ Some (Done step)
  pub learnt : learnt_by_did step.did ≡ Some x

-- the outcome that a step shows, if it does
abbrev pub outcome_told : Did → Option Outcome
outcome_told (shown.Learnt learnt told outcome next) = outcome
outcome_told _ = None

-- what became of the event at this place: this set was learnt, and this outcome returned by it
pub record IsReturnedAt (steps : List Line) (place : ℕ) (x : Learnt) (o : Outcome) : Type 0 where
  pub step : Step
  pub done : slice_get steps place ≡ Some (Done step)
  pub learnt : learnt_by_did step.did ≡ Some x
  pub outcome : outcome_told step.did ≡ Some o

-- the update with this id stood in a set of instance 0 that was learnt before a place
pub record WasLearntBefore (steps : List Line) (place : ℕ) (id : UpdateId) : Type 0 where
  pub earlier : ℕ
  pub before : earlier < place
  pub learnt_as : Learnt
  pub was : IsLearntAt steps earlier learnt_as
  pub of_objects : learnt_as.instance ≡ 0
  pub holds : IsSome (get learnt_as.updates id)

-- ## What is submitted

-- what is submitted where this set was learnt: in a first instance of an adopt-commit object the
-- learner's second vote
abbrev pub vote_after : (learnt : Option Learnt) → Option Submission
vote_after None = None
vote_after (Some x) = second_vote_in x.instance x.replica x.updates

-- what an event submits that did this, if anything
abbrev pub submission_in : Event → Did → Option Submission
submission_in (Submit r object_op) did =
    Some (record { instance = 0; replica = r; object_op = object_op })
submission_in (Decide r k value) did =
    Some (record { instance = first_instance k; replica = r; object_op = first_vote k value })
submission_in (Deliver number) did = vote_after (learnt_by_did did)
submission_in (Ask r object query) did = None

-- what an event submits that has this line: nothing, where it was refused
abbrev pub submission_at : Event → Line → Option Submission
submission_at event (Done step) = submission_in event step.did
submission_at event (Refused name) = None

-- all that r submits in i, in order
unfoldable pub ops_at : List Event → List Line → (i r : ℕ) → List ObjectOp
ops_at [] steps i r = []
ops_at (event ∷ events) [] i r = []
ops_at (event ∷ events) (line ∷ steps) i r =
    object_op_in i r (submission_at event line) ++ ops_at events steps i r

-- at this place the update is submitted in instance i; its number counts what its replica had
-- submitted there before
pub record Submits (events : List Event) (steps : List Line) (place i : ℕ) (update : Update) :
    Type 0 where
  pub event : Event
  pub handed_in : slice_get events place ≡ Some event
  pub line : Line
  pub became : slice_get steps place ≡ Some line
  pub submits : submission_at event line ≡ Some (record {
    instance = i;
    replica = update.id.replica;
    object_op = object_op_of update;
  })
  pub number : update.id.number
      ≡ length (ops_at (take place events) (take place steps) i update.id.replica) + 1

-- the id of what r submits in instance 0 at this place
abbrev pub id_at : List Event → List Line → (place r : ℕ) → UpdateId
id_at events steps place r =
    record { replica = r; number = length (ops_at (take place events) (take place steps) 0 r) + 1 }

-- the ballot that a step opened with all that its replica had submitted, if it did: a refinement
-- opens with what the ballot before it had taken
abbrev pub taker_in : Did → Option Opening
taker_in (shown.Opened b) = Some b
taker_in (shown.Learnt learnt told outcome next) = next
taker_in _ = None

-- what became of the event at this place: it opened this ballot, which is no refinement
pub record IsOpenedAt (steps : List Line) (place : ℕ) (b : Opening) : Type 0 where
  pub step : Step
  pub done : slice_get steps place ≡ Some (Done step)
  pub opened : taker_in step.did ≡ Some b

-- ## What a replica sees

-- which of the replicas other than p r is, from 0 on
abbrev pub place_beside : (p r : ℕ) → ℕ
place_beside p r = if nat_lt r p then r else r - 1

-- at this place r is told x. The first messages that a learning in instance 0 sends are its tells, one
-- to each other replica, in order: the one to r is delivered here
pub record IsToldAt (g : Group) (events : List Event) (steps : List Line) (place r : ℕ)
    (x : Learnt) : Type 0 where
  pub told : Step
  pub done : slice_get steps place ≡ Some (Done told)
  pub learnt_at : ℕ
  pub teller : Step
  pub tells : slice_get steps learnt_at ≡ Some (Done teller)
  pub learnt : learnt_by_did teller.did ≡ Some x
  pub of_objects : x.instance ≡ 0
  pub in_group : r < replicas g
  pub other : ¬ (r ≡ x.replica)
  pub delivered : slice_get events place
      ≡ Some (Deliver (teller.first + place_beside x.replica r))

-- at this place r learns x in instance 0
pub record LearnsAt (steps : List Line) (place r : ℕ) (x : Learnt) : Type 0 where
  pub learnt : IsLearntAt steps place x
  pub of_objects : x.instance ≡ 0
  pub replica : x.replica ≡ r

-- it learns x there, or is told it
abbrev pub IsSeenAt : Group → List Event → List Line → (place r : ℕ) → Learnt → Type 0
IsSeenAt g events steps place r x =
    LearnsAt steps place r x ⊎ IsToldAt g events steps place r x

-- lines show that r saw this set
pub record WasSeen (g : Group) (events : List Event) (steps : List Line) (r : ℕ) (s : Histories)
    : Type 0 where
  pub place : ℕ
  pub learnt_as : Learnt
  pub seen : IsSeenAt g events steps place r learnt_as
  pub set : learnt_as.updates ≡ s

-- ## Questions

-- at this place of the events that were handed in stands a question, and it was answered so
pub record IsAnsweredLine (events : List Event) (steps : List Line) (place : ℕ)
    (r object : ℕ) (query : Query) (answer : Answer) : Type 0 where
  pub asked : slice_get events place ≡ Some (Ask r object query)
  pub step : Step
  pub done : slice_get steps place ≡ Some (Done step)
  pub replied : step.did ≡ Replied answer

-- r's view once the events before this place have been played
abbrev pub view_at_place : Group → (events : List Event) → (place r : ℕ) → Histories
view_at_place g events place r = trace_view (trace_of g (take place events)) r

-- the answer to a question to r at a place: it is the query's value over a set that had been learnt
-- in instance 0 by then. This contains all that r itself had learnt there, and all that anyone had
-- before the place `until`
pub record IsReadOf (g : Group) (steps : List Line) (until place r object : ℕ) (query : Query)
    (answer : Answer) : Type 0 where
  pub earlier : ℕ
  pub before : earlier < place
  pub read : Learnt
  pub was : IsLearntAt steps earlier read
  pub of_objects : read.instance ≡ 0
  pub value : answer_at (record { view = read.updates; objects = kinds_on g r }) object query
      ≡ Some answer
  pub own : (j : ℕ) (x : Learnt) → IsLearntAt steps j x → j < place →
      x.instance ≡ 0 → x.replica ≡ r → IsSubset x.updates read.updates
  pub current : (j : ℕ) (x : Learnt) → IsLearntAt steps j x → j < until →
      x.instance ≡ 0 → IsSubset x.updates read.updates
