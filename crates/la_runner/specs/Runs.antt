-- What a member's worker does in a run.
use Rattle.std.specs.Prelude.{◌≡◌, ◌⊎◌, ℕ, ◌+◌, List, [], ◌∷◌, All, length, slice_get, slice_index_or, Option, Some, None, IfSome}
use Rattle.la_object.specs.Shelves.{ShelfState}
use Rattle.la_set.specs.Histories.{Histories, empty}
use Rattle.la_set.specs.Inclusion.{IsSubset}
use Rattle.la_runner.specs.declared.jobs.Entry.{Entry}
use Rattle.la_runner.specs.declared.jobs.Job.{Job}
use Rattle.la_runner.specs.declared.jobs.Stopped.{Stopped}
use Rattle.la_runner.specs.declared.jobs.Stopped.TheVariants.{Memory}
use Rattle.la_runner.specs.declared.letter.Naming as letter
use Rattle.la_runner.specs.declared.log.Log.{Log}
use Rattle.la_runner.specs.declared.log.RunError.{RunError}
use Rattle.la_runner.specs.declared.work.Work.{Work}
use Rattle.la_runner.specs.declared.log.RunError.TheVariants.{BadConfig, NoThread, Memory as RunMemory}
use Rattle.la_runner.specs.Entries.{HasDone, StopsAt}
use Rattle.la_runner.specs.Invariant.{IsMember}
use Rattle.la_runner.specs.Members.{MemberState, GroupState, IsOfGroup, MemberGoesOn, member_view}

-- a member of the group, and a shelf that has absorbed no more than the member's view
pub record IsReadyMember (group : GroupState) (m : MemberState) (shelf : ShelfState) : Type 0 where
  pub of : IsOfGroup group m
  pub behind : IsSubset shelf.view (member_view m)

-- the member goes on beside its shelf, which keeps its objects and absorbs no more than the member's view
pub record GoesOnBeside (m : MemberState) (shelf : ShelfState) (n : MemberState) (last : ShelfState) : Type 0 where
  pub goes : MemberGoesOn m n
  pub objects : last.objects ≡ shelf.objects
  pub within : IsSubset last.view (member_view n)

-- it has gone on so, and the entries answer the first jobs
pub record HasWorked (first : MemberState) (shelf : ShelfState) (jobs : List Job) (entries : List Entry)
    (m : MemberState) (last : ShelfState) : Type 0 where
  pub goes : MemberGoesOn first m
  pub objects : last.objects ≡ shelf.objects
  pub within : IsSubset last.view (member_view m)
  pub done : HasDone first shelf.objects jobs entries m

-- what comes back of a member, its shelf and its jobs: the member has gone on, the entries answer the
-- first jobs in order; without a reason to stop they answer all, and the shelf's view is the
-- member's; a reason is want of memory, or fits the first job that is not done
pub record IsWorked (first : MemberState) (shelf : ShelfState) (jobs : List Job) (replica : ℕ) (member : MemberState)
    (last : ShelfState) (entries : List Entry) (stopped : Option Stopped) : Type 0 where
  pub is : IsMember member
  pub named : replica ≡ member.replica
  pub goes : MemberGoesOn first member
  pub done : HasDone first shelf.objects jobs entries member
  pub objects : last.objects ≡ shelf.objects
  pub all : stopped ≡ None → length entries ≡ length jobs
  pub shown : stopped ≡ None → last.view ≡ member_view member
  pub stop :
      IfSome stopped
      (λ why. (why ≡ Memory) ⊎ StopsAt shelf.objects member jobs (length entries) why)

-- a work has the member, the shelf and the jobs that were given
pub record IsWorkOf (given : MemberState) (with_shelf : ShelfState) (with_jobs : List Job) (its_member : MemberState)
    (its_shelf : ShelfState) (its_jobs : List Job) : Type 0 where
  pub member : its_member ≡ given
  pub shelf : its_shelf ≡ with_shelf
  pub jobs : its_jobs ≡ with_jobs

-- ## A whole run

-- what a run is given at one place
pub record Place : Type 0 where
  pub member : MemberState
  pub shelf : ShelfState
  pub jobs : List Job

abbrev pub place_of : MemberState → ShelfState → List Job → Place
place_of m s js = record { member = m; shelf = s; jobs = js }

-- place by place, as long as there are all three
abbrev pub places : List MemberState → List ShelfState → List (List Job) → List Place
places [] ss jss = []
places (m ∷ ms) [] jss = []
places (m ∷ ms) (s ∷ ss) [] = []
places (m ∷ ms) (s ∷ ss) (js ∷ jss) = place_of m s js ∷ places ms ss jss

-- a log, without what is counted after the joins
pub record Back : Type 0 where
  pub replica : ℕ
  pub member : MemberState
  pub shelf : ShelfState
  pub entries : List Entry
  pub stopped : Option Stopped

abbrev pub back_of : (replica : ℕ) → MemberState → ShelfState → List Entry → Option Stopped → Back
back_of r m s es why = record { replica = r; member = m; shelf = s; entries = es; stopped = why }

-- of a log as the code has it
abbrev pub log_back : {B : Type 0} → Log B → Back
log_back l = back_of l.replica l.member l.shelf l.entries l.stopped

-- the log that a worker hands back of its work
abbrev pub IsLogOf : {J B : Type 0} {named : letter.Ghosts J} → Work J B named → Log B → Type 0
IsLogOf w l = IsWorked w.member w.shelf w.jobs.items l.replica l.member l.shelf l.entries l.stopped

-- the log of a member, a shelf and jobs
abbrev pub IsBackOf : Place → Back → Type 0
IsBackOf p b = IsWorked p.member p.shelf p.jobs b.replica b.member b.shelf b.entries b.stopped

-- the view at a place contains all
abbrev pub ContainsAll : List Histories → (at : ℕ) → Type 0
ContainsAll views at = All (λ v. IsSubset v (slice_index_or views at empty)) views

-- where all peers' notes are counted the view contains all views
abbrev pub ViewsHold : (notes : List ℕ) → List Histories → Type 0
ViewsHold notes views =
    (at n : ℕ) → slice_get notes at ≡ Some n → n + 1 ≡ length views → ContainsAll views at

-- as many members, shelves and jobs as the group has replicas, and no shelf has absorbed anything
pub record IsRunConfig (replicas members jobs : ℕ) (shelves : List ShelfState) : Type 0 where
  pub each_member : members ≡ replicas
  pub each_jobs : jobs ≡ replicas
  pub each_shelf : length shelves ≡ replicas
  pub unused : All (λ (s : ShelfState). s.view ≡ empty) shelves

-- these are of a run of the group
abbrev pub IsRunOf : GroupState → List MemberState → List ShelfState → (jobs : List (List Job)) → Type 0
IsRunOf group members shelves jobs = IsRunConfig (length group.votes) (length members) (length jobs) shelves

abbrev pub IsRunRefusal : (config : Type 0) → RunError → Type 0
IsRunRefusal config BadConfig = ¬ config
IsRunRefusal config NoThread = config
IsRunRefusal config RunMemory = config
