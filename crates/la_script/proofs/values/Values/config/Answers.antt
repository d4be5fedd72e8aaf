use Rattle.std.proofs.Common.{arith, rules}
use Rattle.std.proofs.lemmas.Grind.{common_steps}
use Rattle.la_script.proofs.values.Values.config.Goals as goal

pub returns-clause-group : goal.returns-clause-group
returns-clause-group c = search rules

pub returns-clause-config : goal.returns-clause-config
returns-clause-config c = grind (arith, common_steps)
