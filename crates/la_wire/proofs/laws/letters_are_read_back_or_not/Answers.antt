use Rattle.la_wire.proofs.ReadOrNot.{read-or-not}
use Rattle.la_wire.proofs.laws.letters_are_read_back_or_not.Goals as goal

pub returns : goal.returns
returns c = λ m n is read. read-or-not m n is read
