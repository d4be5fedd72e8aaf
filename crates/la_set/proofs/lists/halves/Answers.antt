use Rattle.std.proofs.Common.{rules}
use Rattle.la_set.proofs.Fours.{eight-read}
use Rattle.la_set.proofs.lists.halves.Goals as goal

pub returns : goal.returns
returns g c = search (rules, eight-read)
