use Rattle.std.proofs.Common.{◌≡◌, ◌++◌, length}
use Rattle.la_wire.proofs.notes.put_pieces.Given as goal

abbrev pub invariant-loop-piece : goal.invariant-loop-piece
invariant-loop-piece l = l.out.items ++ l.walk ≡ l.initial.out.items ++ l.pieces

abbrev pub decreases-loop-piece : goal.decreases-loop-piece
decreases-loop-piece l = length l.walk
