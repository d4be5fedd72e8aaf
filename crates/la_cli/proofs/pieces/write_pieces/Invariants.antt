use Rattle.std.proofs.Common.{◌++◌, length}
use Rattle.la_cli.specs.Pieces.{AppendsAllBut}
use Rattle.la_cli.proofs.pieces.write_pieces.Given as goal

abbrev pub invariant-loop-piece : goal.invariant-loop-piece
invariant-loop-piece g l =
    AppendsAllBut (g.W.Write.contents l.initial.writer) (g.W.Write.contents l.writer) (l.held ++ l.walk) l.pieces

abbrev pub decreases-loop-piece : goal.decreases-loop-piece
decreases-loop-piece g l = length l.walk
