use Rattle.std.proofs.Common.{refl, sym, ap, ◌∙◌, Ok}
use Rattle.la_wire.proofs.StateSets.{group-votes}
use Rattle.la_wire.proofs.states.heads.group_with.Goals as goal

pub returns-in-Ok : goal.returns-in-Ok
returns-in-Ok c =
    group-votes c.args.numbers.now (c.in-Ok.ensures.exactly.0 refl) ∙ ap Ok (sym c.in-Ok.ensures.ok)
