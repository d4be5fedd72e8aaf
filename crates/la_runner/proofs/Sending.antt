-- A shelf may cross threads as its objects may.
use denote.RattleType.{RattleType}
use denote.Param.Send.{IsSend, sendable}
use Rattle.std.proofs.Crossing as heap
use Rattle.la_set.proofs.lemmas.Crossing as knot
use Rattle.la_object.specs.declared.replicated.Replicated as replicated
use Rattle.la_object.specs.contracts.shelf.Shelf as Shelf
use Rattle.la_shared.proofs.lemmas.Theorems as shared

-- a shelf whole, since a `search` that goes down through its set runs out of steps
pub Shelf-send : (T : RattleType) (g : replicated.Ghosts T.Denot) → IsSend T → IsSend (Shelf.the_row T g)
Shelf-send T g s = let u = shared.set_send in search (heap.crosses, knot.crosses, sendable) depth 60 fits 20000
