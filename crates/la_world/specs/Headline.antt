-- What the README promises of every list of events, whatever is lost, repeated or delivered late, and in its
-- order. `KeepsAll` has it of a report: of a line for each event that was handed in, of what was learnt, of each
-- replica's view at the end, and of what was returned from adopt-commit objects. Two promises are of a world while
-- it is played: that no view shrinks, and that outcomes stay. Reading has the words.
use Rattle.std.specs.Prelude.{◌≡◌, ◌⊎◌, ℕ, ◌<◌, List, filter_map, slice_get, Some, IsSome, Contains, ◌≤◌, true}
use Rattle.la_set.specs.declared.update.UpdateId.{UpdateId}
use Rattle.la_set.specs.declared.update.Op.TheVariants.{Remove}
use Rattle.la_set.specs.Histories.{Histories, empty, get, ContainsUpdate}
use Rattle.la_set.specs.Inclusion.{IsSubset, AreComparable}
use Rattle.la_world.specs.declared.report.Line.{Line}
use Rattle.la_world.specs.declared.report.Line.TheVariants.{Done}
use Rattle.la_world.specs.declared.step.Learnt.{Learnt}
use Rattle.la_world.specs.declared.step.Step.{Step}
use Rattle.la_node.specs.Configs.{IsConfig}
use Rattle.la_world.specs.Groups.{Group, kinds_on, group_of}
use Rattle.la_world.specs.Events.{Event, submission_of, Decide}
use Rattle.la_world.specs.Report.{accepted_among, report}
use Rattle.la_world.specs.StandsFor.{World}
use Rattle.la_world.specs.Calls.{view_in, returned_in}
use Rattle.la_set.specs.declared.update.Update.{Update}
use Rattle.la_object.specs.declared.query.Query.{Query}
use Rattle.la_object.specs.declared.query.Answer.{Answer}
use Rattle.la_world.specs.declared.step.Opening.{Opening}
use Rattle.la_commit.specs.declared.outcome.Outcome.{Outcome}
use Rattle.la_commit.specs.Instances.{second_instance}
use Rattle.la_world.specs.declared.report.Decision.{Decision}
use Rattle.la_world.specs.Outcomes.{decision_of}
use Rattle.la_object.specs.declared.kind.Kind.{Kind}
use Rattle.la_object.specs.Shelves.{kind_at}
use Rattle.la_commit.specs.declared.outcome.Outcome.TheVariants.{Commit}
use Rattle.la_commit.specs.Outcomes.{value_of, is_commit}
use Rattle.la_node.specs.declared.config.Config.{Config}
use Rattle.la_world.specs.declared.report.Report.{Report}
use Rattle.la_world.specs.Reading.{learnt_on, IsLearntAt, WasLearntBefore, id_at, WasSeen, Submits, IsOpenedAt, IsReadOf, IsReturnedAt, IsAnsweredLine, view_at_place}

-- ## What is learnt

-- the second contains the first, and has more
abbrev pub IsStrictSubset : Histories → Histories → Type 0
IsStrictSubset a b = IsSubset a b × ¬ IsSubset b a

-- where two lines show what was learnt in one instance, one set contains the other
abbrev pub LinesAreComparable : (steps : List Line) → Type 0
LinesAreComparable steps = (j k : ℕ) (x y : Learnt) →
    IsLearntAt steps j x → IsLearntAt steps k y → x.instance ≡ y.instance →
    AreComparable x.updates y.updates

-- where two lines show what one replica learnt in one instance, the later set is strictly larger
abbrev pub LinesGrow : (steps : List Line) → Type 0
LinesGrow steps = (j k : ℕ) (x y : Learnt) →
    IsLearntAt steps j x → IsLearntAt steps k y → x.instance ≡ y.instance →
    x.replica ≡ y.replica → j < k → IsStrictSubset x.updates y.updates

-- the learnt sets are exactly those that the lines show, in order
abbrev pub AreListed : (steps : List Line) → (learnt : List Learnt) → Type 0
AreListed steps learnt = learnt ≡ filter_map learnt_on steps

-- ## Views

-- of any two views one contains the other
abbrev pub AreOneHistory : (views : List Histories) → Type 0
AreOneHistory views = (a b : Histories) → Contains views a → Contains views b → AreComparable a b

-- a view contains each set that lines show its replica to have seen, and is one of them, or empty
-- where there is none
pub record IsLargestSeen (g : Group) (events : List Event) (steps : List Line) (r : ℕ)
    (view : Histories) : Type 0 where
  pub contains : (s : Histories) → WasSeen g events steps r s → IsSubset s view
  pub is_one : WasSeen g events steps r view
      ⊎ (((s : Histories) → ¬ WasSeen g events steps r s) × (view ≡ empty))

abbrev pub AreLargestSeen : Group → List Event → List Line → (views : List Histories) → Type 0
AreLargestSeen g events steps views = (r : ℕ) (view : Histories) →
    slice_get views r ≡ Some view → IsLargestSeen g events steps r view

-- no view of the world after lacks an update that it had before
abbrev pub NoViewShrinks : (w after : World) → Type 0
NoViewShrinks w after =
    (r : ℕ) (before now : Histories) → view_in w r ≡ Some before → view_in after r ≡ Some now →
    IsSubset before now

-- ## What a learnt set holds

-- each update of a learnt set was submitted in its instance, at the set's own place at the latest
abbrev pub LearntWereSubmitted : List Event → List Line → Type 0
LearntWereSubmitted events steps =
    (place : ℕ) (x : Learnt) (update : Update) →
    IsLearntAt steps place x → ContainsUpdate x.updates update →
    (k : ℕ) × (k ≤ place) × Submits events steps k x.instance update

-- where a replica opened a ballot, and later learnt a set in its instance, this set holds each
-- update that the replica had submitted there by then. So an update that is submitted while none of
-- its replica's ballots is open, which opens one at its own place, is in the next set that the
-- replica learns
abbrev pub LearntHoldTheirOwn : List Event → List Line → Type 0
LearntHoldTheirOwn events steps =
    (began place k : ℕ) (b : Opening) (x : Learnt) (update : Update) →
    IsOpenedAt steps began b → IsLearntAt steps place x → began < place →
    b.instance ≡ x.instance → b.replica ≡ x.replica →
    Submits events steps k x.instance update → update.id.replica ≡ x.replica → k ≤ began →
    ContainsUpdate x.updates update

-- where a line shows a set as learnt, each one that shows a set of its instance with an update which
-- was submitted at a place after the first line has a set that contains the first one. So a learnt
-- set with a Mark, which changes no object, has all that anyone had learnt before the Mark was
-- submitted
abbrev pub ArePlacesInOrder : List Event → List Line → Type 0
ArePlacesInOrder events steps =
    (j k l : ℕ) (x y : Learnt) (update : Update) →
    IsLearntAt steps j x → Submits events steps k x.instance update → j < k →
    IsLearntAt steps l y → x.instance ≡ y.instance → IsSome (get y.updates update.id) →
    IsSubset x.updates y.updates

-- a read by a Mark, which changes no object, or by any other update: where it was submitted in
-- instance 0 at the place m, and a replica learnt a set with it there and is asked at a later place
-- k, its answer is current as of m
abbrev pub MarksAreRead : Group → List Event → List Line → Type 0
MarksAreRead g events steps =
    (m j k object : ℕ) (mark : Update) (x : Learnt) (query : Query) (answer : Answer) →
    Submits events steps m 0 mark →
    IsLearntAt steps j x → x.instance ≡ 0 → IsSome (get x.updates mark.id) → j < k →
    IsAnsweredLine events steps k x.replica object query answer →
    IsReadOf g steps m k x.replica object query answer

-- where each id that an accepted Remove names stood in a set of instance 0 that was learnt before
-- the Remove's place, each view that holds the Remove holds the updates that it names
abbrev pub RemovedAreShown : List Event → List Line → (views : List Histories) → Type 0
RemovedAreShown events steps views =
    (place r object : ℕ) (tags : List UpdateId) (step : Step) (view : Histories) →
    slice_get events place ≡ Some (submission_of r object (Remove tags)) →
    slice_get steps place ≡ Some (Done step) →
    ((tag : UpdateId) → Contains tags tag → WasLearntBefore steps place tag) →
    Contains views view → IsSome (get view (id_at events steps place r)) →
    (tag : UpdateId) → Contains tags tag → IsSome (get view tag)

-- ## Adopt-commit

-- where one participant of an object commits, every participant of it that returns has its value
abbrev pub CommitsAgree : (returned : List Decision) → Type 0
CommitsAgree returned =
    (x y : Decision) → Contains returned x → Contains returned y → x.commit ≡ y.commit →
    is_commit x.outcome ≡ true → value_of y.outcome ≡ value_of x.outcome

-- what is returned from an object was proposed to it
abbrev pub ReturnsAreProposed : (accepted : List Event) → (returned : List Decision) → Type 0
ReturnsAreProposed accepted returned =
    (x : Decision) → Contains returned x →
    (r : ℕ) × Contains accepted (Decide r x.commit (value_of x.outcome))

-- where all proposals to an object have one value, every participant that returns commits it
abbrev pub UnanimousProposalsCommit : (accepted : List Event) → (returned : List Decision) → Type 0
UnanimousProposalsCommit accepted returned =
    (k value : ℕ) →
    ((r other : ℕ) → Contains accepted (Decide r k other) → other ≡ value) →
    (x : Decision) → Contains returned x → x.commit ≡ k → x.outcome ≡ Commit value

-- the three safety properties of adopt-commit, of accepted events and of what was returned
pub record IsAdoptCommit (accepted : List Event) (returned : List Decision) : Type 0 where
  pub agree : CommitsAgree returned
  pub proposed : ReturnsAreProposed accepted returned
  pub unanimous : UnanimousProposalsCommit accepted returned

-- what a world answers of an outcome it still answers afterwards
abbrev pub OutcomesStayThere : (w after : World) → Type 0
OutcomesStayThere w after = (k r : ℕ) (o : Outcome) →
    returned_in w k r ≡ Some o → returned_in after k r ≡ Some o

-- each outcome that a line shows is listed
abbrev pub OutcomesAreListed : (steps : List Line) → (outcomes : List Decision) → Type 0
OutcomesAreListed steps outcomes = (place k : ℕ) (x : Learnt) (o : Outcome) →
    IsReturnedAt steps place x o → x.instance ≡ second_instance k →
    Contains outcomes (decision_of k x.replica o)

-- ## Questions

-- two answered questions to replicas with equal views, and objects of one kind under the number,
-- have equal answers
abbrev pub EqualViewsAnswerAlike : Group → (events : List Event) → (steps : List Line) → Type 0
EqualViewsAnswerAlike g events steps =
    (j k r q object : ℕ) (query : Query) (a b : Answer) →
    IsAnsweredLine events steps j r object query a → IsAnsweredLine events steps k q object query b →
    kind_at (kinds_on g r) object ≡ kind_at (kinds_on g q) object →
    view_at_place g events j r ≡ view_at_place g events k q → a ≡ b

-- ## All of it

-- the report of a list of events keeps what is promised of its lines, views, outcomes and answers
pub record KeepsAll (g : Group) (events : List Event) (made : Report) : Type 0 where
  pub comparable : LinesAreComparable made.steps
  pub grows : LinesGrow made.steps
  pub listed : AreListed made.steps made.learnt
  pub one_history : AreOneHistory made.views
  pub largest : AreLargestSeen g events made.steps made.views
  pub submitted : LearntWereSubmitted events made.steps
  pub own : LearntHoldTheirOwn events made.steps
  pub order : ArePlacesInOrder events made.steps
  pub reads : MarksAreRead g events made.steps
  pub removed : RemovedAreShown events made.steps made.views
  pub safe : IsAdoptCommit (accepted_among events made.steps) made.outcomes
  pub outcomes : OutcomesAreListed made.steps made.outcomes
  pub answers : EqualViewsAnswerAlike g events made.steps

-- of every group and every list of events the report does, whoever made it
abbrev pub ReportsKeepPromises : Type 0
ReportsKeepPromises = (c : Config) (kinds : List (List (ℕ × Kind))) (events : List Event) →
    IsConfig c → KeepsAll (group_of c kinds) events (report c kinds events)
