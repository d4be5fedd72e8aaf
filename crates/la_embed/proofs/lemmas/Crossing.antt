-- What a program of another language holds may cross threads. A set's history holds itself, so that nothing with a set
-- gets the generated lemma: here are those that `search` needs on the way from a set to the whole.
use denote.RattleType.{RattleType}
use denote.Param.Send.{IsSend, sendable}
use Rattle.std.proofs.Crossing as heap
use Rattle.la_set.proofs.lemmas.Crossing as knot
use Rattle.la_set.specs.contracts.set.UpdateSet as UpdateSet
use Rattle.la_set.specs.contracts.delta.Delta as Delta
use Rattle.la_object.specs.declared.replicated.Replicated as replicated
use Rattle.la_object.specs.contracts.shelf.Shelf as Shelf
use Rattle.la_durable.specs.contracts.machine.NodeMachine as NodeMachine
use Rattle.la_embed.specs.contracts.program_file.ProgramFile as ProgramFile
use Rattle.la_embed.specs.contracts.outgoing.Outgoing as Outgoing
use Rattle.la_embed.specs.contracts.journal.Journal as Journal
use Rattle.la_embed.specs.contracts.keeper.Keeper as Keeper
use Rattle.la_embed.specs.contracts.embedded.Embedded as Embedded
use Rattle.la_embed.specs.contracts.object.AnyObject as AnyObject
use Rattle.la_embed.specs.contracts.object.AnyObjectReplicated.TheImpl.{ghosts}
use Rattle.la_embed.proofs.object.AnyObject.TheSendSync as object

set_send : IsSend (UpdateSet.the_field).row
set_send = search (heap.crosses, knot.crosses, sendable) depth 60 fits 20000

delta_send : IsSend (Delta.the_field).row
delta_send = search (set_send, heap.crosses, sendable) depth 60 fits 20000

outgoing_send : IsSend Outgoing.the_row
outgoing_send = search (delta_send, heap.crosses, sendable) depth 60 fits 20000

shelf_send : (T : RattleType) (g : replicated.Ghosts T.Denot) → IsSend T → IsSend (Shelf.the_row T g)
shelf_send T g s = search (set_send, heap.crosses, sendable) depth 60 fits 20000

machine_send : IsSend (NodeMachine.the_field).row
machine_send = search (set_send, heap.crosses, sendable) depth 60 fits 20000

-- what is noted of a file says itself what it owns, which is nothing, and so gets no generated lemma either
file_send : IsSend ProgramFile.the_row
file_send = search sendable depth 20

journal_send : IsSend (Journal.the_field).row
journal_send = search (machine_send, file_send, heap.crosses, sendable) depth 60 fits 20000

keeper_send : IsSend (Keeper.the_field).row
keeper_send = search (machine_send, journal_send, sendable) depth 20

-- with its host and all that it has
pub embedded_send : IsSend Embedded.the_row
embedded_send =
    let shelf = shelf_send AnyObject.the_row ghosts object.the_send in
    search (keeper_send, outgoing_send, heap.crosses, sendable) depth 60 fits 20000
