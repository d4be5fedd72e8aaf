use Rattle.la_world.proofs.ReadsByMarks.{marks_are_read}
use Rattle.la_world.proofs.laws.reads_by_marks_are_current.Goals as goal

pub returns : goal.returns
returns c = marks_are_read
