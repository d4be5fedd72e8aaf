-- What a group promises after events that were accepted: of what it has learnt, shows and returned. It is what
-- Headline says of a report, where there are no lines: a world, or nodes over a transport of their own.
use Rattle.std.specs.Prelude.{◌≡◌, ◌⊎◌, ℕ, ◌+◌, ◌<◌, List, [], ◌∷◌, ◌++◌, length, take, drop, slice_get, Some, IsSome, Contains}
use Rattle.la_set.specs.declared.update.UpdateId.{UpdateId}
use Rattle.la_set.specs.declared.update.Op.TheVariants.{Remove}
use Rattle.la_set.specs.Histories.{Histories, empty, get}
use Rattle.la_set.specs.Inclusion.{IsSubset, AreComparable}
use Rattle.la_world.specs.declared.step.Learnt.{Learnt}
use Rattle.la_world.specs.declared.report.Decision.{Decision}
use Rattle.la_world.specs.Groups.{Group}
use Rattle.la_world.specs.Events.{Event, Past, submission_of}
use Rattle.la_world.specs.Trace.{Trace}
use Rattle.la_world.specs.Submissions.{submitted_ops, updates_alone, whole, taken}
use Rattle.la_world.specs.Views.{seen}
use Rattle.la_world.specs.Playing.{trace}
use Rattle.la_world.specs.Learnings.{learnt}
use Rattle.la_world.specs.Report.{report_lines, trace_of}
use Rattle.la_world.specs.StandsFor.{World, group_in}
use Rattle.la_world.specs.Calls.{views_of, decisions_in}
use Rattle.la_world.specs.Headline.{IsStrictSubset, AreOneHistory, IsAdoptCommit}
use Rattle.la_world.specs.Reading.{IsLearntAt}

-- ## What is learnt and shown

-- of any two learnt sets of one instance one contains the other
abbrev pub AreAllComparable : (learnt : List Learnt) → Type 0
AreAllComparable learnt =
    (x y : Learnt) → Contains learnt x → Contains learnt y → x.instance ≡ y.instance →
    AreComparable x.updates y.updates

-- of the sets that one replica learnt in one instance the later is strictly larger
abbrev pub AreGrowing : (learnt : List Learnt) → Type 0
AreGrowing learnt =
    (j k : ℕ) (x y : Learnt) → slice_get learnt j ≡ Some x → slice_get learnt k ≡ Some y →
    x.instance ≡ y.instance → x.replica ≡ y.replica → j < k → IsStrictSubset x.updates y.updates

-- a learnt set holds what its replica had submitted when the series of refinements opened, and only
-- what was submitted until its place
pub record IsValid (g : Group) (events : List Event) (x : Learnt) : Type 0 where
  pub own :
      IsSubset (updates_alone x.replica (taken (trace g events) x.instance x.replica x.ballot)) x.updates
  -- how many events came after its place
  pub later : ℕ
  pub until_place : length (drop later events) ≡ x.place + 1
  pub submitted : IsSubset x.updates (whole (trace g (drop later events)) x.instance)

-- each learnt set does
abbrev pub AreValid : Group → (accepted : Past) → (learnt : List Learnt) → Type 0
AreValid g accepted learnt = (x : Learnt) → Contains learnt x → IsValid g accepted x

-- a view is the largest of the sets that were seen: it contains each, and is one of them, or empty
-- where there is none
pub record IsLargest (sets : List Histories) (s : Histories) : Type 0 where
  pub contains : (seen : Histories) → Contains sets seen → IsSubset seen s
  pub is_one : Contains sets s ⊎ ((sets ≡ []) × (s ≡ empty))

-- each view is the largest of the sets of instance 0 that its replica learnt or was told
abbrev pub AreLargest : Group → (accepted : Past) → (views : List Histories) → Type 0
AreLargest g accepted views = (r : ℕ) (view : Histories) → slice_get views r ≡ Some view →
    IsLargest (seen (trace g accepted) r) view

-- the update with this id was not yet submitted in instance i: it comes later, if ever
abbrev pub IsSubmittedLater : Trace → (i : ℕ) → UpdateId → Type 0
IsSubmittedLater t i id = length (submitted_ops t i id.replica) < id.number

-- where a set was learnt at a place, each learnt set of its instance that holds an update which was
-- submitted after this place contains it
abbrev pub AreInOrder : Group → (accepted : Past) → (learnt : List Learnt) → Type 0
AreInOrder g accepted learnt =
    (x y : Learnt) (later : ℕ) (id : UpdateId) →
    Contains learnt x → Contains learnt y → x.instance ≡ y.instance →
    length (drop later accepted) ≡ x.place + 1 →
    IsSubmittedLater (trace g (drop later accepted)) x.instance id →
    IsSome (get y.updates id) → IsSubset x.updates y.updates

-- the id of what r submits next in instance 0
abbrev pub next_id : Trace → (r : ℕ) → UpdateId
next_id t r = record { replica = r; number = length (submitted_ops t 0 r) + 1 }

-- the update with this id stood in a learnt set of instance 0
pub record WasLearnt (t : Trace) (id : UpdateId) : Type 0 where
  pub learnt_as : Learnt
  pub was : Contains (learnt t) learnt_as
  pub of_objects : learnt_as.instance ≡ 0
  pub holds : IsSome (get learnt_as.updates id)

-- where each id that a Remove names stood in a set of instance 0 that was learnt before the Remove
-- was submitted, each view that holds the Remove holds the updates that it names
abbrev pub RemovedAreInViews : Group → (accepted : Past) → (views : List Histories) → Type 0
RemovedAreInViews g accepted views =
    (more before : Past) (r object : ℕ) (tags : List UpdateId) (view : Histories) →
    accepted ≡ more ++ submission_of r object (Remove tags) ∷ before →
    ((tag : UpdateId) → Contains tags tag → WasLearnt (trace g before) tag) →
    Contains views view → IsSome (get view (next_id (trace g before) r)) →
    (tag : UpdateId) → Contains tags tag → IsSome (get view tag)

-- all of them, of the events that were accepted, the newest first, of the sets that were learnt, of each
-- replica's view, and of what was returned from adopt-commit objects
pub record GroupKeepsAll (g : Group) (accepted : Past) (learnt : List Learnt)
    (views : List Histories) (outcomes : List Decision) : Type 0 where
  pub comparable : AreAllComparable learnt
  pub grows : AreGrowing learnt
  pub valid : AreValid g accepted learnt
  pub largest : AreLargest g accepted views
  pub one_history : AreOneHistory views
  pub order : AreInOrder g accepted learnt
  pub removed : RemovedAreInViews g accepted views
  pub safe : IsAdoptCommit accepted outcomes

-- of a world that these events led to
abbrev pub WorldKeepsAll : World → (accepted : Past) → Type 0
WorldKeepsAll w accepted =
    GroupKeepsAll (group_in w) accepted w.learnt (views_of w.replica_states) (decisions_in w)

-- ## Places

-- the trace of the events before a place, of which those count that are accepted
abbrev pub trace_before : Group → (events : List Event) → (place : ℕ) → Trace
trace_before g events place = trace_of g (take place events)

-- the place of a learnt set counts the accepted events alone: those before the place at which it was
-- learnt
abbrev pub PlacesCountAccepted : Type 0
PlacesCountAccepted = (g : Group) (events : List Event) (place : ℕ) (x : Learnt) →
    IsLearntAt (report_lines g events) place x → x.place ≡ length (trace_before g events place)
