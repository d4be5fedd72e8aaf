use Rattle.la_wire.proofs.CountTexts.{one_by_one}
use Rattle.la_wire.proofs.counts.counts_with.Goals as goal

pub returns : goal.returns
returns c =
    one_by_one c.args.numbers.now c.number_of.result c.number_of-2.result c.number_of-3.result c.number_of-4.result
    c.number_of-5.result c.number_of-6.result c.number_of-7.result c.number_of-8.result c.from.result
    c.number_of.ensures c.number_of-2.ensures c.number_of-3.ensures c.number_of-4.ensures c.number_of-5.ensures
    c.number_of-6.ensures c.number_of-7.ensures c.number_of-8.ensures c.from.ensures
