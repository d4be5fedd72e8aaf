use Rattle.la_cli.specs.Play.{group_shelves}
use Rattle.la_cli.proofs.Putting.{HasPut}
use Rattle.la_cli.proofs.UsedUp.{AreLeft}
use Rattle.la_cli.proofs.play.text_of.Given as goal

abbrev pub invariant-loop-index : goal.invariant-loop-index
invariant-loop-index g l = record {
  put : HasPut l.fn.version l.fn.config (group_shelves l.fn.config l.fn.shelves.items) l.fn.events l.index l.world l.text;
  left : AreLeft l.fn.events l.left.items l.index;
}
