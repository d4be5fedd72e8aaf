-- How a node ends, and what is told of that.
use Rattle.std.specs.Prelude.{◌≡◌, ◌⊎◌, ℕ, ◌<◌, ◌==◌, Bool, List, [], ◌∷◌, ◌++◌, codes, Option, if◌then◌else◌}
use Rattle.std.specs.String.{string_bytes}
use Rattle.std.specs.Fmt.{decimal}
use Rattle.std.specs.declared.io.ErrorKind.{ErrorKind}
use Rattle.std.specs.declared.io.ErrorKind.TheVariants as kind
use Rattle.la_io.specs.Streams.{TellsLine}
use Rattle.la_serve.specs.declared.error.NodeFault.{NodeFault}
use Rattle.la_serve.specs.declared.error.NodeFault.TheVariants as fault
use Rattle.la_serve.specs.declared.error.NodeOption.{NodeOption}
use Rattle.la_serve.specs.declared.error.NodeOption.TheVariants.{Version, Own, Replicas, Votes, Commits, Cap}
use Rattle.la_serve.specs.declared.ended.Ended.{Ended}
use Rattle.la_serve.specs.declared.options.Options.{Options}
use Rattle.la_serve.specs.Faults.{IfDisk}
use Rattle.la_serve.specs.Io.{Streams, Facts, facts}
use Rattle.la_serve.specs.Starting.{RunsAll, IsServerStartRefusal}

-- the exit status after a fault
abbrev pub node_status : NodeFault → ℕ
node_status fault.BadConfig = 2
node_status fault.Memory = 3
node_status fault.ReadFault = 4
node_status fault.WriteFault = 4
node_status fault.NoJournal = 5
node_status fault.JournalThere = 5
node_status fault.Locked = 5
node_status (fault.BadJournal line) = 5
node_status (fault.OtherOptions option) = 5
node_status fault.DiskFault = 5
node_status (fault.StartFault found) = 5

abbrev pub end_name : NodeFault → List ℕ
end_name fault.ReadFault = codes "ReadFault"
end_name fault.WriteFault = codes "WriteFault"
end_name fault.Memory = codes "Memory"
end_name fault.BadConfig = codes "BadConfig"
end_name fault.NoJournal = codes "NoJournal"
end_name fault.JournalThere = codes "JournalThere"
end_name fault.Locked = codes "Locked"
end_name (fault.BadJournal line) = codes "BadJournal"
end_name (fault.OtherOptions option) = codes "OtherOptions"
end_name fault.DiskFault = codes "DiskFault"
end_name (fault.StartFault found) = codes "DiskFault"

abbrev pub option_name : NodeOption → List ℕ
option_name Version = codes "version"
option_name Own = codes "own"
option_name Replicas = codes "replicas"
option_name Votes = codes "votes"
option_name Commits = codes "commits"
option_name Cap = codes "cap"

-- what is told behind the name: what to do where there is no journal, from which line on one is bad, or which option is
-- another one
abbrev pub end_detail : NodeFault → List ℕ
end_detail fault.NoJournal =
    codes ": nothing here: mount its disk; if it is lost, never run this replica again; a first start is 'lattice init'"
end_detail (fault.BadJournal line) = codes ": line " ++ decimal line
end_detail (fault.OtherOptions option) = codes ": " ++ option_name option
end_detail (fault.StartFault found) = codes ": needs " ++ (decimal found ++ codes " bytes")
end_detail _ = []

-- the line that tells it, where there is no memory for a folder, or the fault is none of a folder's
abbrev pub end_line : NodeFault → List ℕ
end_line f = end_name f ++ (end_detail f ++ 10 ∷ [])

-- a fault of the journal, or of its disk
abbrev pub is_of_folder : NodeFault → Bool
is_of_folder f = node_status f == 5

-- the line that tells it of this folder
abbrev pub end_line_at : (folder : List ℕ) → NodeFault → List ℕ
end_line_at folder f =
    if is_of_folder f then end_name f ++ (codes ": " ++ (folder ++ (end_detail f ++ 10 ∷ []))) else end_line f

-- why a folder can't be opened
abbrev pub cause_name : ErrorKind → List ℕ
cause_name kind.NotFound = codes "not found"
cause_name kind.PermissionDenied = codes "permission denied"
cause_name kind.NotADirectory = codes "not a folder"
cause_name kind.IsADirectory = codes "is a folder"
cause_name kind.FilesystemLoop = codes "symbolic link"
cause_name kind.ReadOnlyFilesystem = codes "read-only"
cause_name kind.StorageFull = codes "no space"
cause_name kind.QuotaExceeded = codes "no space"
cause_name kind.InvalidInput = codes "bad path"
cause_name kind.InvalidFilename = codes "bad path"
cause_name kind.Unsupported = codes "unsupported"
cause_name kind.ResourceBusy = codes "another process has it"
cause_name _ = codes "other error"

-- the line that tells it, of this folder
abbrev pub no_journal_line : (folder : List ℕ) → ErrorKind → List ℕ
no_journal_line folder k = codes "NoJournal: " ++ folder ++ codes ": " ++ cause_name k ++ 10 ∷ []

-- and where there is no memory for that
abbrev pub no_journal_short : ErrorKind → List ℕ
no_journal_short k = codes "NoJournal: " ++ cause_name k ++ 10 ∷ []

-- it took all lines of its input
pub record ServerEndsWell {D R W E : Type 0} (f : Facts D R W E) (options : Options) (disk final : D)
    (old new : Streams R W E)
    (status : ℕ) : Type 0 where
  pub well : status ≡ 0
  pub runs : RunsAll f options.objects options disk final old new

-- or ended by a fault, which is told last
pub record EndsBadly {D R W E : Type 0} (f : Facts D R W E) (faults : D → ℕ) (options : Options) (disk final : D)
    (old new : Streams R W E) (status : ℕ) : Type 0 where
  pub why : NodeFault
  pub is : status ≡ node_status why
  pub between : E
  pub stops : IsServerStartRefusal f options.objects options disk final old (record new { errors = between }) why
  -- a fault of the disk comes only where it failed
  pub failed : IfDisk why (faults disk < faults final)
  -- with the folder, where there is memory for that
  pub told : TellsLine f.heard f.refuses between new.errors (end_line_at (string_bytes options.folder) why)
      ⊎ TellsLine f.heard f.refuses between new.errors (end_line why)

-- with this status, where the disk is this in the end
abbrev pub ServerEnds : {D R W E : Type 0} (seen : D → List ℕ) (may_leave : D → List ℕ → Type 0) (moment : D → ℕ)
    (left_since : D → ℕ → List ℕ → Type 0) (faults : D → ℕ) (remaining : R → Option (List ℕ))
    (contents : W → Option (List ℕ))
    (heard : E → Option (List ℕ)) (refuses : E → List ℕ → E → Type 0)
    → Options → (disk : D) → (old new : Streams R W E) → Ended D → Type 0
ServerEnds seen may_leave moment left_since faults remaining contents heard refuses options disk old new ended =
    let f = facts seen may_leave moment left_since remaining contents heard refuses in
    ServerEndsWell f options disk ended.disk old new ended.status
    ⊎ EndsBadly f faults options disk ended.disk old new ended.status
