use Rattle.la_serve.proofs.Tallies.{each_count}
use Rattle.la_serve.proofs.questions.object_counts.Goals as goal

pub returns : goal.returns
returns c =
    each_count c.args.set.now c.args.object _ _ _ _ _ _ _ _ c.from.result c.count_of_object.ensures
    c.count_of_object-2.ensures c.count_of_object-3.ensures c.count_of_object-4.ensures c.count_of_object-5.ensures
    c.count_of_object-6.ensures c.count_of_object-7.ensures c.count_of_object-8.ensures c.from.ensures
