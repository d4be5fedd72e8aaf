use Rattle.std.proofs.Common.{rules}
use Rattle.la_set.proofs.lemmas.Counting.{eight-counts}
use Rattle.la_set.proofs.counts.CountsFromArrayU328.from.Goals as goal

pub returns : goal.returns
returns c = eight-counts (record { of = c.args.numbers }) (search rules)
