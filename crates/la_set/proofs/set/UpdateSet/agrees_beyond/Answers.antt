use Rattle.la_set.proofs.lemmas.Agreements.{none-Decides}
use Rattle.la_set.proofs.set.UpdateSet.agrees_beyond.Goals as goal

pub returns : goal.returns
returns c =
    none-Decides c.args.self.now c.args.other.now c.first_clash_beyond.result c.is_none.result c.is_none.ensures
    c.first_clash_beyond.ensures
