use Rattle.la_wire.proofs.AlikeLetters.{alike-letters}
use Rattle.la_wire.proofs.laws.what_says_the_same_is_alike.Goals as goal

pub returns : goal.returns
returns c = λ a b same. alike-letters a b same
