use Rattle.std.proofs.Common.{rules, ◌≡◌, ◌∙◌, ap, false, codes}
use Rattle.std.proofs.lemmas.Result.{IfOk-weaker}
use Rattle.clap.specs.Words.{App, app_of, with_rule, new_app}
use Rattle.clap.specs.declared.builder.command.Command.TheViews.{out-Command}
use Rattle.la_cli.specs.Calls.{option}
use Rattle.la_cli.proofs.call.threads_command.Goals as goal

pub returns-clause-app : goal.returns-clause-app
returns-clause-app c =
    let start : app_of c.about-start.result ≡ new_app (codes "threads") = search rules in
    let sized =
    c.in_ok-sized.ensures.app 1 8
    (rw (c.value_parser.ensures, c.new-2.ensures.start, c.new-2.ensures.end) at c.range-sizes.ensures)
    ∙ ap (λ (a : App). with_rule a (option (codes "replicas") 1 8 (codes "3"))) start in
    IfOk-weaker c.with_number-2.result _ _
    (λ made h. h ∙ ap (λ (a : App). with_rule a (option (codes "each") 1 1000 (codes "10"))) sized)
    (c.with_number-2.ensures.app 1 1000
    (rw (c.value_parser-2.ensures, c.new-3.ensures.start, c.new-3.ensures.end) at c.range-counts.ensures))

pub returns-clause-local : goal.returns-clause-local
returns-clause-local c =
    let start : (out-Command c.about-start.result).has_globals ≡ false = search rules in
    c.with_number-2.ensures.local (c.in_ok-sized.ensures.local start)
