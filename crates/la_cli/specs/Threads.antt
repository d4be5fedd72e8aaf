-- What `threads` prints: of a run of replicas in threads, by what its logs hold.
use Rattle.std.specs.Prelude.{◌≡◌, ◌↔◌, ℕ, ◌+◌, Bool, true, false, List, [], ◌∷◌, ◌++◌, length, take, replicate, All, codes, IsTrue, Option, Some, None}
use Rattle.std.specs.Fmt.{decimal}
use Rattle.std.specs.List.{AllZip}
use Rattle.std.specs.Io.KnownBytes.{Appends, Keeps}
use Rattle.la_set.specs.declared.update.Op.TheVariants.{Inc}
use Rattle.la_set.specs.Histories.{Histories, updates}
use Rattle.la_object.specs.declared.query.Answer.{Answer}
use Rattle.la_object.specs.declared.query.Query.TheVariants.{Total}
use Rattle.la_object.specs.Shelves.{ShelfState, answer_at}
use Rattle.la_runner.specs.declared.jobs.Job.{Job}
use Rattle.la_runner.specs.declared.jobs.Job.TheVariants.{Update}
use Rattle.la_runner.specs.declared.jobs.Stopped.{Stopped}
use Rattle.la_runner.specs.declared.jobs.Stopped.TheVariants.{Full, NoSuchObject, NoSuchCommit, AlreadyProposed, Clash, BallotsSpent, NoMajority, TryAgain, Memory}
use Rattle.la_runner.specs.Members.{MemberState, GroupState, member_view}
use Rattle.la_runner.specs.Runs.{Back, IsBackOf, places}
use Rattle.la_runner.specs.Starting.{AreMembersFrom, IsAcceptorGroup}
use Rattle.la_runner.specs.Together.{AllComparable}
use Rattle.la_script.specs.Text.{answer_text}
use Rattle.la_cli.specs.declared.error.PlayFault.{PlayFault}
use Rattle.la_cli.specs.declared.error.PlayFault.TheVariants as fault
use Rattle.la_cli.specs.Play.{FitAnyGroup}
use Rattle.la_io.specs.Streams.{AppendsPrefix}

-- ## The run

-- so many updates that add 1 to object 1
abbrev pub increments : ℕ → List Job
increments each = replicate each (Update 1 (Inc 1))

-- logs of a run of a new group of so many members, each with so many such updates and one of the
-- first shelves: each answers for its member, shelf and updates, and all sets in them are comparable
pub record AreLogs
    (shelves : List ShelfState) (replicas each : ℕ) (logs : List Back) : Type 0 where
  pub group : GroupState
  pub members : List MemberState
  pub is_group : IsAcceptorGroup replicas 0 (replicate replicas 1) group
  pub count : length members ≡ replicas
  pub new : AreMembersFrom group each 0 members
  pub answers :
      AllZip IsBackOf
      (places members (take replicas shelves) (replicate replicas (increments each))) logs
  pub comparable : AllComparable logs

-- no log was stopped, and all final views are the same
pub record LogsAgree (logs : List Back) : Type 0 where
  pub none_stopped : All (λ (b : Back). b.stopped ≡ None) logs
  pub one_view :
      All (λ (b : Back). All (λ (c : Back). member_view b.member ≡ member_view c.member) logs) logs

-- ## The text

abbrev pub stop_name : Stopped → List ℕ
stop_name Full = codes "Full"
stop_name NoSuchObject = codes "NoSuchObject"
stop_name NoSuchCommit = codes "NoSuchCommit"
stop_name AlreadyProposed = codes "AlreadyProposed"
stop_name (Clash id) = codes "Clash"
stop_name BallotsSpent = codes "BallotsSpent"
stop_name NoMajority = codes "NoMajority"
stop_name TryAgain = codes "TryAgain"
stop_name Memory = codes "Memory"

abbrev pub answered_text : Option Answer → List ℕ
answered_text (Some answer) = answer_text answer
answered_text None = codes "refused NoSuchObject"

-- what a shelf answers to a question for the total of object 1
abbrev pub total_text : ShelfState → List ℕ
total_text shelf = answered_text (answer_at shelf 1 Total)

-- why a log was stopped, or how many updates its final view has and what its shelf answers
abbrev pub end_text : Option Stopped → Histories → ShelfState → List ℕ
end_text (Some why) final shelf = codes " stopped " ++ stop_name why
end_text None final shelf =
    codes " updates " ++ decimal (length (updates final)) ++ codes " " ++ total_text shelf

abbrev pub log_text : ℕ → Back → List ℕ
log_text r b =
    codes "replica " ++ decimal r ++ end_text b.stopped (member_view b.member) b.shelf ++ codes "\n"

-- a line for each log, the first of which is that of replica r
abbrev pub logs_text : ℕ → List Back → List ℕ
logs_text r [] = []
logs_text r (b ∷ logs) = log_text r b ++ logs_text (r + 1) logs

abbrev pub head_text : (replicas each : ℕ) → List ℕ
head_text replicas each =
    codes "threads " ++ decimal replicas ++ codes " each " ++ decimal each ++ codes "\n"

abbrev pub verdict_text : Bool → List ℕ
verdict_text true = codes "agree\n"
verdict_text false = codes "differ\n"

abbrev pub threads_text : (replicas each : ℕ) → List Back → (agreed : Bool) → List ℕ
threads_text replicas each logs agreed =
    head_text replicas each ++ logs_text 0 logs ++ verdict_text agreed

-- ## From a run to a writer

-- there are logs of a run, and their text was written
pub record RunsThreads
    (shelves : List ShelfState) (replicas each : ℕ) (agreed : Bool)
    (written written_after : Option (List ℕ)) : Type 0 where
  pub fit : FitAnyGroup shelves
  pub logs : List Back
  pub are : AreLogs shelves replicas each logs
  pub verdict : IsTrue agreed ↔ LogsAgree logs
  pub wrote : Appends written written_after (threads_text replicas each logs agreed)

-- the same, where only the first bytes of the text were written, some, all or none
pub record RunsThreadsPrefix
    (shelves : List ShelfState) (replicas each : ℕ)
    (written written_after : Option (List ℕ)) : Type 0 where
  pub fit : FitAnyGroup shelves
  pub logs : List Back
  pub agreed : Bool
  pub are : AreLogs shelves replicas each logs
  pub verdict : IsTrue agreed ↔ LogsAgree logs
  pub wrote : AppendsPrefix written written_after (threads_text replicas each logs agreed)

-- what stands after a refusal: shelves that do not fit any group come first, and nothing else is
-- refused where they do not; there is nothing to read, and no script
abbrev pub IsThreadsRefusal :
    (shelves : List ShelfState) → (replicas each : ℕ) →
    (written written_after : Option (List ℕ)) → PlayFault → Type 0
IsThreadsRefusal shelves replicas each written written_after fault.Memory =
    FitAnyGroup shelves × Keeps written written_after
IsThreadsRefusal shelves replicas each written written_after fault.NoThread =
    FitAnyGroup shelves × Keeps written written_after
IsThreadsRefusal shelves replicas each written written_after fault.BadConfig =
    (¬ FitAnyGroup shelves) × Keeps written written_after
IsThreadsRefusal shelves replicas each written written_after fault.WriteFault =
    RunsThreadsPrefix shelves replicas each written written_after
IsThreadsRefusal shelves replicas each written written_after (fault.Script f) = ⊥
IsThreadsRefusal shelves replicas each written written_after fault.TooLong = ⊥
IsThreadsRefusal shelves replicas each written written_after fault.ReadFault = ⊥
