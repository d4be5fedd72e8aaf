-- Why a node ends, by what failed.
use Rattle.std.specs.Prelude.{⊤, ℕ, zero, suc, ◌+◌, List, [], ◌∷◌, take, if◌then◌else◌, ◌==◌, nat_lt}
use Rattle.la_io.specs.declared.source.SourceFault.{SourceFault}
use Rattle.la_io.specs.declared.source.SourceFault.TheVariants as source
use Rattle.la_journal.specs.declared.recovery.Unplayed.{Unplayed}
use Rattle.la_journal.specs.declared.recovery.Unplayed.TheVariants as journal
use Rattle.la_durable.specs.declared.error.NodeError.{NodeError}
use Rattle.la_durable.specs.declared.error.NodeError.TheVariants as node
use Rattle.la_serve.specs.declared.error.NodeFault.{NodeFault}
use Rattle.la_serve.specs.declared.error.NodeFault.TheVariants.{ReadFault, Memory, BadJournal, OtherOptions}
use Rattle.la_serve.specs.declared.error.NodeFault.TheVariants.{DiskFault, StartFault}
use Rattle.la_serve.specs.declared.error.NodeOption.{NodeOption}
use Rattle.la_serve.specs.declared.error.NodeOption.TheVariants.{Version, Own, Replicas, Votes, Commits, Cap}

abbrev pub of_source : SourceFault → NodeFault
of_source source.ReadFault = ReadFault
of_source source.Memory = Memory

-- how many spaces these bytes have
abbrev pub space_count : List ℕ → ℕ
space_count [] = 0
space_count (b ∷ bytes) = if b == 32 then suc (space_count bytes) else space_count bytes

-- which option a head says behind so many spaces, where the group has so many replicas
abbrev pub option_at : (spaces replicas : ℕ) → NodeOption
option_at spaces replicas =
    if nat_lt spaces 2 then Version else if nat_lt spaces 4 then Own else if nat_lt spaces 6 then Replicas else if nat_lt spaces (replicas + 7) then Votes else if nat_lt spaces (replicas + 9) then Commits else Cap

-- where the disk failed at a start, which writes anew what was found
abbrev pub start_fault : (found : ℕ) → NodeFault
start_fault zero = DiskFault
start_fault (suc n) = StartFault (suc n)

-- where a journal was not played, by the head that it should have, how many replicas the group has, and how many bytes
-- were found
abbrev pub of_journal : (head : List ℕ) → (replicas found : ℕ) → Unplayed NodeError → NodeFault
of_journal head replicas found journal.Memory = Memory
of_journal head replicas found journal.Disk = start_fault found
of_journal head replicas found (journal.Refused line node.Memory) = Memory
of_journal head replicas found journal.NoHead = BadJournal 1
of_journal head replicas found (journal.NoState line) = BadJournal line
of_journal head replicas found (journal.NoCall line) = BadJournal line
of_journal head replicas found (journal.Misplaced line) = BadJournal line
of_journal head replicas found (journal.Refused line _) = BadJournal line
of_journal head replicas found (journal.Damaged line) = BadJournal line
of_journal head replicas found (journal.OtherHead place) =
    OtherOptions (option_at (space_count (take place head)) replicas)

-- where it is the disk that failed
abbrev pub IfDisk : NodeFault → Type 0 → Type 0
IfDisk DiskFault P = P
IfDisk (StartFault found) P = P
IfDisk _ P = ⊤
