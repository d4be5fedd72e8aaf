-- Passes and notes may cross threads, and threads may share acceptors.
use denote.Param.Send.{IsSend, IsSync, Frees, sendable, part_keyless}
use denote.Struct.Struct.{Struct}
use denote.Struct.Owning.{shape}
use Rattle.std.proofs.Crossing as heap
use denote.RattleType.{RattleType}
use Rattle.atomic_table.proofs.Sent.{seat_keyless, shares_keyless}
use Rattle.atomic_table.specs.declared.shared.TableRule.{Ghosts}
use Rattle.atomic_table.specs.contracts.shared.Shared as Shared
use Rattle.atomic_table.specs.contracts.shared.Seat as Seat
use Rattle.atomic_table.proofs.Rights.{right_send}
use Rattle.atomic_table.specs.contracts.send_lease.SendLease as SendLease
use Rattle.std.specs.declared.alloc.Allocator as alloc
use Rattle.la_shared.specs.contracts.table.Core as Core
use Rattle.la_set.proofs.lemmas.Crossing as knot
use Rattle.la_set.specs.contracts.set.UpdateSet as UpdateSet
use Rattle.la_shared.specs.contracts.pass.Pass as Pass
use Rattle.la_shared.specs.contracts.pass.Note as Note
use Rattle.la_shared.specs.contracts.shared.SharedAcceptor as SharedAcceptor

-- a history holds itself, so that its generated lemmas are named
pub set_send : IsSend (UpdateSet.the_field).row
set_send = search (heap.crosses, knot.crosses, sendable) depth 60 fits 20000

pub set_sync : IsSync (UpdateSet.the_field).row
set_sync = search (heap.crosses, knot.crosses, sendable) depth 60 fits 20000

seat_send : (S V : RattleType) → IsSend S → IsSend (Seat.the_row S V)
seat_send S V s = record { owned = λ d vs. ((λ vss. (tt, ((λ uss. (tt, tt)), tt))), seat_keyless S s V.coded.code d.table_id d.id d.me); leaving = λ k f vs. tt }

pub pass_send : IsSend (Pass.the_field).row
pass_send = search (set_send, seat_send, heap.crosses, knot.crosses, sendable) depth 60 fits 20000

pub note_send : IsSend (Note.the_field).row
note_send = search (set_send, seat_send, heap.crosses, knot.crosses, sendable) depth 60 fits 20000

shared_sync : (S V K P : RattleType) (g : Ghosts P.Denot S.Denot V.Denot K.Denot) → IsSend S
    → IsSync (Shared.the_row S V K P g)
shared_sync S V K P g s = let fields : IsSync (Struct (shape (Shared.the_type S V K P g))) = search sendable depth 20 in
    record {
      shared =
          λ d b o ν. (
            fields.shared (d.words, (d.slots, (tt, tt))) b o ν,
            shares_keyless S s V.coded.code d.table_id
                (g.holds d.key) d.words d.slots ν,
          );
    }

lease_sync : (T A : RattleType) (g : alloc.Ghosts A.Denot) → IsSend A → Frees g g.dealloc_token
    → IsSync (SendLease.the_row T A g)
lease_sync T A g s f =
    record { shared = λ d b o ν q. part_keyless (SendLease.the_row T A g) (right_send T A g f) q d b o }

core_sync : IsSync (Core.the_field).row
core_sync = search (set_send, shared_sync, lease_sync, heap.crosses, knot.crosses, sendable) depth 60 fits 20000

pub acceptor_sync : IsSync (SharedAcceptor.the_field).row
acceptor_sync = search (core_sync, heap.crosses, sendable) depth 60 fits 20000
