use Rattle.la_wire.proofs.Lengths.{line-bound, tagless-bound, line-taken, taken-back}
use Rattle.la_wire.proofs.laws.lines_of_letters_have_bounds.Goals as goal

pub returns-clause-any : goal.returns-clause-any
returns-clause-any c = λ m is. line-bound m is

pub returns-clause-tagless : goal.returns-clause-tagless
returns-clause-tagless c = λ m is none. tagless-bound m is none

pub returns-clause-taken : goal.returns-clause-taken
returns-clause-taken c = λ m is few. line-taken m is few

pub returns-clause-back : goal.returns-clause-back
returns-clause-back c = λ m is few. taken-back m is few
