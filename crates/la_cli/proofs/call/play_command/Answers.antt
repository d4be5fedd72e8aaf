use Rattle.std.proofs.Common.{rules, ◌∙◌, ap}
use Rattle.clap.specs.Simple.{app_of_fields}
use Rattle.la_cli.proofs.call.play_command.Goals as goal

pub returns-clause-app : goal.returns-clause-app
returns-clause-app c = ap app_of_fields c.about.ensures ∙ c.new.ensures.app

pub returns-clause-local : goal.returns-clause-local
returns-clause-local c = search rules
