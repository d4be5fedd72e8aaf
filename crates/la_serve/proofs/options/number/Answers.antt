use Rattle.std.proofs.Common.{rules}
use Rattle.la_serve.proofs.options.number.Goals as goal

pub returns-clause-rule : goal.returns-clause-rule
returns-clause-rule c least most is =
    let given = c.value_parser.ensures.given in
    search rules
