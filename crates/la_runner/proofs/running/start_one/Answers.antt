use denote.Param.Send.{sendable}
use Rattle.std.proofs.Crossing as heap
use Rattle.la_set.proofs.lemmas.Crossing as knot
use Rattle.la_shared.proofs.lemmas.Theorems.{set_send}
use Rattle.la_runner.proofs.Crossing.{member_send, note_send, group_sync}
use Rattle.la_runner.proofs.Sending.{Shelf-send}
use Rattle.la_runner.proofs.running.start_one.Goals as goal

pub spawn_with-requires-send-F : goal.spawn_with-requires-send-F
spawn_with-requires-send-F g c κs within =
    let b = c.type_bounds.send-B in
    let y = c.type_bounds.sync-G in
    let r = c.type_bounds.sync-R in
    let j = c.type_bounds.send-J in
    search (member_send, note_send, group_sync, Shelf-send, heap.crosses, sendable) depth 60 fits 20000

pub spawn_with-requires-send-T : goal.spawn_with-requires-send-T
spawn_with-requires-send-T g c κs within =
    let b = c.type_bounds.send-B in
    search (member_send, set_send, Shelf-send, heap.crosses, knot.crosses, sendable) depth 60 fits 20000
