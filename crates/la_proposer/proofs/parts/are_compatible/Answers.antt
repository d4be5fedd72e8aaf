use Rattle.std.proofs.Common.{rules}
use Rattle.std.proofs.lemmas.Bool.Decides.{same_from_decides}
use Rattle.la_set.proofs.lemmas.Agreements.{none-Decides}
use Rattle.la_proposer.specs.Resuming.{are_compatible}
use Rattle.la_proposer.proofs.Resuming.{are_compatible-Decides}
use Rattle.la_proposer.proofs.parts.are_compatible.Goals as goal

pub returns : goal.returns
returns c =
    let a = c.args.one.now in let b = c.args.other.now in
    same_from_decides c.is_none.result (are_compatible a b)
    (none-Decides a b c.first_clash.result c.is_none.result (search rules) c.first_clash.ensures) (are_compatible-Decides a b)
