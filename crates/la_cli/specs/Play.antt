-- What is written for what is read, or for what is drawn.
use Rattle.std.specs.Prelude.{◌≡◌, ℕ, ◌+◌, ◌≤◌, List, length, map, take, replicate, All, Option, Ok, Err}
use Rattle.std.specs.Io.KnownBytes.{Appends, Keeps}
use Rattle.la_set.specs.Histories.{empty}
use Rattle.la_object.specs.Shelves.{ShelfState}
use Rattle.la_proposer.specs.Majority.{votes_of}
use Rattle.la_node.specs.declared.config.Config.{Config}
use Rattle.la_world.specs.declared.event.Event.{Event}
use Rattle.la_world.specs.declared.report.Report.{Report}
use Rattle.la_node.specs.Configs.{IsConfig}
use Rattle.la_world.specs.Groups.{group_of}
use Rattle.la_world.specs.Events.{event_of}
use Rattle.la_world.specs.Report.{report}
use Rattle.la_world.specs.Headline.{KeepsAll}
use Rattle.la_world.specs.StandsFor.{kinds_of}
use Rattle.la_script.specs.declared.error.ScriptFault.{ScriptFault}
use Rattle.la_script.specs.declared.script.Script.{Script}
use Rattle.la_script.specs.declared.script.Version.{Version}
use Rattle.la_script.specs.declared.script.Version.TheVariants.{One}
use Rattle.la_script.specs.RandomEvents.{random_events}
use Rattle.la_script.specs.Scripts.{script_of, said_by}
use Rattle.la_script.specs.Text.{text_of}
use Rattle.la_cli.specs.declared.error.PlayFault.{PlayFault}
use Rattle.la_cli.specs.declared.error.PlayFault.TheVariants as fault
use Rattle.la_io.specs.declared.streams.TheConstants.{LIMIT}
use Rattle.la_io.specs.Streams.{ReadsLines, TakesBytes, TakesAtMost, AppendsPrefix}

-- ## Shelves

-- a shelf for each replica that a group may have, none of which has absorbed anything
pub record FitAnyGroup (shelves : List ShelfState) : Type 0 where
  pub eight : length shelves ≡ 8
  pub unused : All (λ (s : ShelfState). s.view ≡ empty) shelves

-- those of a group: as many of the first as it has replicas
abbrev pub group_shelves : Config → List ShelfState → List ShelfState
group_shelves c shelves = take c.replicas shelves

-- the text that the report of events in a group with these shelves has in a version
abbrev pub text_by : Version → Config → List Event → List ShelfState → List ℕ
text_by version c events shelves =
    text_of version (report c (kinds_of (group_shelves c shelves)) (map event_of events))

-- ## A script

-- the text of the report of a script, in its version
abbrev pub report_text : Script → List ShelfState → List ℕ
report_text s shelves = text_by s.version s.config s.events shelves

-- the bytes are a script, which is this
pub record SaysScript (input : List ℕ) (s : Script) : Type 0 where
  pub said : script_of input ≡ Ok (said_by s)
  pub config : IsConfig s.config

-- the bytes are a script, and the text is its report's: there is one text for the bytes
pub record AnswersScript (shelves : List ShelfState) (input text : List ℕ) : Type 0 where
  pub script : Script
  pub says : SaysScript input script
  pub is_text : text ≡ report_text script shelves
  pub only : (other : Script) → SaysScript input other → text ≡ report_text other shelves

-- the bytes are a script, and the text is that of a report of its events, in its version, which keeps
-- all that is promised of reports
pub record IsTextOfKept (shelves : List ShelfState) (input text : List ℕ) : Type 0 where
  pub script : Script
  pub says : SaysScript input script
  pub made : Report
  pub is_text : text ≡ text_of script.version made
  pub keeps_all :
      KeepsAll (group_of script.config (kinds_of (group_shelves script.config shelves)))
      (map event_of script.events) made

-- of every text that bytes are answered with
abbrev pub TextsKeepPromises : Type 0
TextsKeepPromises = (shelves : List ShelfState) (input text : List ℕ) →
    AnswersScript shelves input text → IsTextOfKept shelves input text

-- why there is no text for the bytes: their fault, or else memory may run out
abbrev pub IsScriptRefusal : List ℕ → PlayFault → Type 0
IsScriptRefusal input (fault.Script f) = script_of input ≡ Err f
IsScriptRefusal input fault.Memory = Unit {0}
IsScriptRefusal input fault.BadConfig = ⊥
IsScriptRefusal input fault.ReadFault = ⊥
IsScriptRefusal input fault.TooLong = ⊥
IsScriptRefusal input fault.WriteFault = ⊥
IsScriptRefusal input fault.NoThread = ⊥

-- ## A draw

-- a group of so many replicas with a vote each, one adopt-commit object and the largest cap
pub record IsRandomGroup (n : ℕ) (c : Config) : Type 0 where
  pub replicas : c.replicas ≡ n
  pub votes : votes_of c.votes ≡ replicate n 1
  pub commits : c.commits ≡ 1
  pub cap : c.cap ≡ 1000000

-- the text is that of the report, in version 1, of the events that a seed draws
pub record AnswersDraw
    (shelves : List ShelfState) (seed replicas events : ℕ) (text : List ℕ) : Type 0 where
  pub config : Config
  pub group : IsRandomGroup replicas config
  pub is_text : text ≡ text_by One config (random_events seed replicas events) shelves

-- ## From a reader to a writer, by the bytes that were left and that were written, before and after

-- all was read, and it is within the limit
pub record ReadsInput (left left_after : Option (List ℕ)) (input : List ℕ) : Type 0 where
  pub all : ReadsLines left left_after input
  pub short : length input ≤ LIMIT

-- all was read, and it is a script; the text of its report was written
pub record PlaysBytes
    (shelves : List ShelfState) (left left_after written written_after : Option (List ℕ))
    : Type 0 where
  pub fit : FitAnyGroup shelves
  pub input : List ℕ
  pub text : List ℕ
  pub read : ReadsInput left left_after input
  pub answers : AnswersScript shelves input text
  pub wrote : Appends written written_after text

-- the same, where only the first bytes of the text were written, some, all or none
pub record PlaysPrefix
    (shelves : List ShelfState) (left left_after written written_after : Option (List ℕ))
    : Type 0 where
  pub fit : FitAnyGroup shelves
  pub input : List ℕ
  pub text : List ℕ
  pub read : ReadsInput left left_after input
  pub answers : AnswersScript shelves input text
  pub wrote : AppendsPrefix written written_after text

-- all was read, and it is no script
pub record IsFaulty (left left_after : Option (List ℕ)) (f : ScriptFault) : Type 0 where
  pub input : List ℕ
  pub read : ReadsInput left left_after input
  pub fault : script_of input ≡ Err f

-- what stands after a refusal: shelves that do not fit any group come first, and nothing else is
-- refused where they do not; but for a writer that failed, nothing was written
abbrev pub IsPlayedRefusal :
    (shelves : List ShelfState) → (left left_after written written_after : Option (List ℕ)) →
    PlayFault → Type 0
IsPlayedRefusal shelves left left_after written written_after (fault.Script f) =
    FitAnyGroup shelves × IsFaulty left left_after f × Keeps written written_after
IsPlayedRefusal shelves left left_after written written_after fault.TooLong =
    FitAnyGroup shelves × TakesBytes (LIMIT + 1) left left_after × Keeps written written_after
IsPlayedRefusal shelves left left_after written written_after fault.ReadFault =
    FitAnyGroup shelves × TakesAtMost LIMIT left left_after × Keeps written written_after
IsPlayedRefusal shelves left left_after written written_after fault.Memory =
    FitAnyGroup shelves × TakesAtMost (LIMIT + 1) left left_after × Keeps written written_after
IsPlayedRefusal shelves left left_after written written_after fault.BadConfig =
    (¬ FitAnyGroup shelves) × Keeps left left_after × Keeps written written_after
IsPlayedRefusal shelves left left_after written written_after fault.WriteFault =
    PlaysPrefix shelves left left_after written written_after
IsPlayedRefusal shelves left left_after written written_after fault.NoThread = ⊥

-- ## From a seed to a writer

-- the text of the report of the events that the seed draws was written
pub record PlaysDraw
    (shelves : List ShelfState) (seed replicas events : ℕ)
    (written written_after : Option (List ℕ)) : Type 0 where
  pub fit : FitAnyGroup shelves
  pub text : List ℕ
  pub answers : AnswersDraw shelves seed replicas events text
  pub wrote : Appends written written_after text

-- the same, where only the first bytes of the text were written, some, all or none
pub record PlaysDrawPrefix
    (shelves : List ShelfState) (seed replicas events : ℕ)
    (written written_after : Option (List ℕ)) : Type 0 where
  pub fit : FitAnyGroup shelves
  pub text : List ℕ
  pub answers : AnswersDraw shelves seed replicas events text
  pub wrote : AppendsPrefix written written_after text

-- the same of a draw: there is nothing to read, and no script
abbrev pub IsDrawRefusal :
    (shelves : List ShelfState) → (seed replicas events : ℕ) →
    (written written_after : Option (List ℕ)) → PlayFault → Type 0
IsDrawRefusal shelves seed replicas events written written_after fault.Memory =
    FitAnyGroup shelves × Keeps written written_after
IsDrawRefusal shelves seed replicas events written written_after fault.BadConfig =
    (¬ FitAnyGroup shelves) × Keeps written written_after
IsDrawRefusal shelves seed replicas events written written_after fault.WriteFault =
    PlaysDrawPrefix shelves seed replicas events written written_after
IsDrawRefusal shelves seed replicas events written written_after (fault.Script f) = ⊥
IsDrawRefusal shelves seed replicas events written written_after fault.TooLong = ⊥
IsDrawRefusal shelves seed replicas events written written_after fault.ReadFault = ⊥
IsDrawRefusal shelves seed replicas events written written_after fault.NoThread = ⊥
