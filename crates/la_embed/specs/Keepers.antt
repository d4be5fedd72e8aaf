-- What keeps a host's node: memory alone, or a journal too.
use Rattle.std.specs.Prelude.{Bool, true, false, Option, Some, None}
use Rattle.la_replica.specs.ReplicaState.{ReplicaState}
use Rattle.la_wire.specs.Calls.{WireCall, Submit, Decide}
use Rattle.la_durable.specs.Nodes.{kept_by}
use Rattle.la_embed.specs.declared.keeper.Keeper.{Keeper}
use Rattle.la_embed.specs.declared.keeper.Keeper.TheVariants as keeper
use Rattle.la_embed.specs.Journals.{JournalState}

-- what the node keeps
abbrev pub state_kept : Keeper → ReplicaState
state_kept (keeper.Alone machine) = kept_by machine
state_kept (keeper.Over journal) = journal.kept

-- and its journal
abbrev pub journal_in : Keeper → Option JournalState
journal_in (keeper.Alone machine) = None
journal_in (keeper.Over journal) = Some journal.journal

-- a call that a program makes of its own node, and no message
abbrev pub is_own_call : WireCall → Bool
is_own_call (Submit replica object op) = true
is_own_call (Decide replica commit value) = true
is_own_call _ = false
