-- Statuses: one number for each way in which a call ends.
use Rattle.std.specs.Prelude.{◌≡◌, ◌⊎◌, ℕ}
use Rattle.la_wire.specs.declared.error.LineFault.{LineFault}
use Rattle.la_wire.specs.declared.error.LineFault.TheVariants as line
use Rattle.la_replica.specs.declared.error.ReplicaError.{ReplicaError}
use Rattle.la_replica.specs.declared.error.ReplicaError.TheVariants as replica
use Rattle.la_node.specs.declared.error.WorldError.{WorldError}
use Rattle.la_node.specs.declared.error.WorldError.TheVariants as world
use Rattle.la_durable.specs.declared.error.NodeError.{NodeError}
use Rattle.la_durable.specs.declared.error.NodeError.TheVariants as node
use Rattle.la_embed.specs.declared.error.HostError.{HostError}
use Rattle.la_embed.specs.declared.error.HostError.TheVariants as host
use Rattle.la_embed.specs.declared.error.NumberError.{NumberError}
use Rattle.la_embed.specs.declared.error.NumberError.TheVariants as number
use Rattle.la_object.specs.declared.error.ShelfError.{ShelfError}
use Rattle.la_object.specs.declared.error.ShelfError.TheVariants as shelf
use Rattle.la_journal.specs.declared.recovery.Unplayed.{Unplayed}
use Rattle.la_journal.specs.declared.recovery.Unplayed.TheVariants as unplayed
use Rattle.la_embed.specs.declared.error.Unrecovered.{Unrecovered}
use Rattle.la_embed.specs.declared.error.Unrecovered.TheVariants as unrecovered
use Rattle.la_own.specs.declared.error.OwnError.{OwnError}
use Rattle.la_own.specs.declared.error.OwnError.TheVariants as own

abbrev pub status_of_line : LineFault → ℕ
status_of_line line.TooLong = 22
status_of_line line.BadLine = 23
status_of_line line.BadNumber = 24

abbrev pub status_of_replica : ReplicaError → ℕ
status_of_replica replica.NoSuchReplica = 11
status_of_replica replica.NoSuchInstance = 12
status_of_replica replica.Full = 13
status_of_replica replica.NoBase = 14
status_of_replica replica.Gap = 15
status_of_replica (replica.Clash id) = 16
status_of_replica replica.BallotsSpent = 17
status_of_replica replica.Memory = 1

abbrev pub status_of_world : WorldError → ℕ
status_of_world world.BadConfig = 10
status_of_world world.NoSuchReplica = 11
status_of_world world.Full = 13
status_of_world world.NoSuchMessage = 21
status_of_world world.NoSuchCommit = 18
status_of_world world.AlreadyProposed = 19
status_of_world world.NoSuchObject = 5
status_of_world world.TooManyTags = 8
status_of_world world.Memory = 1

abbrev pub status_of_node : NodeError → ℕ
status_of_node node.Elsewhere = 20
status_of_node node.Unkept = 21
status_of_node (node.Replica e) = status_of_replica e
status_of_node (node.Proposal e) = status_of_world e
status_of_node node.Memory = 1

abbrev pub status_of_host : HostError → ℕ
status_of_host (host.Line fault) = status_of_line fault
status_of_host host.NoMessage = 21
status_of_host (host.Node e) = status_of_node e
status_of_host host.Memory = 1

abbrev pub status_of_number : NumberError → ℕ
status_of_number number.Stale = 26
status_of_number number.Gap = 27
status_of_number (number.Node e) = status_of_node e

abbrev pub status_of_shelf : ShelfError → ℕ
status_of_shelf shelf.Taken = 6
status_of_shelf shelf.NotFresh = 7
status_of_shelf shelf.NoSuchObject = 5
status_of_shelf shelf.TooManyTags = 8
status_of_shelf shelf.Memory = 1

abbrev pub status_of_own : OwnError → ℕ
status_of_own own.TooLong = 9
status_of_own own.Memory = 1

-- a journal's line is refused for want of memory, or it is damaged
abbrev pub status_of_line_refused : NodeError → ℕ
status_of_line_refused node.Memory = 1
status_of_line_refused _ = 31

abbrev pub status_of_unplayed : Unplayed NodeError → ℕ
status_of_unplayed unplayed.Memory = 1
status_of_unplayed unplayed.Disk = 1
status_of_unplayed unplayed.NoHead = 29
status_of_unplayed (unplayed.OtherHead place) = 30
status_of_unplayed (unplayed.NoState line) = 31
status_of_unplayed (unplayed.NoCall line) = 31
status_of_unplayed (unplayed.Misplaced line) = 31
status_of_unplayed (unplayed.Refused line e) = status_of_line_refused e
status_of_unplayed (unplayed.Damaged line) = 31

abbrev pub status_of_unrecovered : Unrecovered → ℕ
status_of_unrecovered (unrecovered.Group e) = status_of_world e
status_of_unrecovered (unrecovered.Journal why) = status_of_unplayed why
status_of_unrecovered unrecovered.Memory = 1

-- the line of a journal at which it is damaged, or what was told before
abbrev pub line_refused : NodeError → (line before : ℕ) → ℕ
line_refused node.Memory line before = before
line_refused _ line before = line

abbrev pub line_of_unplayed : Unplayed NodeError → ℕ → ℕ
line_of_unplayed (unplayed.NoState line) before = line
line_of_unplayed (unplayed.NoCall line) before = line
line_of_unplayed (unplayed.Misplaced line) before = line
line_of_unplayed (unplayed.Refused line e) before = line_refused e line before
line_of_unplayed (unplayed.Damaged line) before = line
line_of_unplayed _ before = before

abbrev pub line_of_unrecovered : Unrecovered → ℕ → ℕ
line_of_unrecovered (unrecovered.Journal why) before = line_of_unplayed why before
line_of_unrecovered _ before = before

-- how a call ends: with 0, and then this holds; or with the status of an error of which that holds
abbrev pub EndsSo : {E : Type 0} → (Good : Type 0) → (E → Type 0) → (E → ℕ) → ℕ → Type 0
EndsSo {E} Good Is of status = ((status ≡ 0) × Good) ⊎ ((e : E) × Is e × (status ≡ of e))
