use Rattle.std.proofs.Common.{◌≡◌, ◌∙◌, ap, codes, false}
use Rattle.std.proofs.lemmas.Result.{IfOk-weaker}
use Rattle.clap.specs.Simple.{app_of_fields}
use Rattle.clap.specs.Words.{App, app_of, with_rule}
use Rattle.clap.specs.declared.builder.command.Command.{Command}
use Rattle.clap.specs.declared.builder.command.Command.TheOpen.{Command-F}
use Rattle.clap.specs.declared.builder.command.Command.TheViews.{out-Command}
use Rattle.la_cli.specs.Calls.{option}
use Rattle.la_serve.specs.Options.{journal_option, node_named, objects_option, own, votes_option}
use Rattle.la_serve.proofs.CommandRules.{versioned}
use Rattle.la_serve.proofs.options.node_command.Goals as goal

pub returns-clause-app : goal.returns-clause-app
returns-clause-app c =
    let start : app_of c.about-start.result ≡ node_named =
    ap app_of_fields c.about-start.ensures ∙ ap app_of_fields c.version.ensures ∙ ap versioned c.new.ensures.app in
    let sized =
    c.in_ok-sized.ensures.app 1 8
    (rw (c.value_parser.ensures, c.new-2.ensures.start, c.new-2.ensures.end) at c.range-sizes.ensures)
    ∙ ap (λ (a : App). with_rule a (option (codes "replicas") 1 8 (codes "3"))) start in
    let placed = c.in_ok-placed.ensures.app ∙ ap (λ (a : App). with_rule a own) sized in
    let shared =
    c.in_ok-shared.ensures.app 0 16
    (rw (c.value_parser-2.ensures, c.new-3.ensures.start, c.new-3.ensures.end) at c.range-objects.ensures)
    ∙ ap (λ (a : App). with_rule a (option (codes "commits") 0 16 (codes "0"))) placed in
    let capped =
    c.in_ok-capped.ensures.app 1 1000000
    (rw (c.value_parser-3.ensures, c.new-4.ensures.start, c.new-4.ensures.end) at c.range-caps.ensures)
    ∙ ap (λ (a : App). with_rule a (option (codes "cap") 1 1000000 (codes "1000000"))) shared in
    let timed =
    c.in_ok-timed.ensures.app 0 3600
    (rw (c.value_parser-4.ensures, c.new-5.ensures.start, c.new-5.ensures.end) at c.range-ticks.ensures)
    ∙ ap (λ (a : App). with_rule a (option (codes "tick") 0 3600 (codes "0"))) capped in
    let compacted =
    c.in_ok-compacted.ensures.app 0 1000000
    (rw (c.value_parser-5.ensures, c.new-6.ensures.start, c.new-6.ensures.end) at c.range-kibibytes.ensures)
    ∙ ap (λ (a : App). with_rule a (option (codes "compact") 0 1000000 (codes "0"))) timed in
    let shelved = c.in_ok-shelved.ensures.app ∙ ap (λ (a : App). with_rule a objects_option) compacted in
    let voted = c.in_ok-voted.ensures.app ∙ ap (λ (a : App). with_rule a votes_option) shelved in
    IfOk-weaker c.with_journal.result _ _ (λ made h. h ∙ ap (λ (a : App). with_rule a journal_option) voted)
    c.with_journal.ensures.app

pub returns-clause-local : goal.returns-clause-local
returns-clause-local c =
    let start : (out-Command c.about-start.result).has_globals ≡ false =
    ap (λ (f : Command-F Command). f.has_globals) c.about-start.ensures
    ∙ ap (λ (f : Command-F Command). f.has_globals) c.version.ensures ∙ c.new.ensures.local in
    let placed = c.in_ok-placed.ensures.local (c.in_ok-sized.ensures.local start) in
    c.with_journal.ensures.local
    (c.in_ok-voted.ensures.local
    (c.in_ok-shelved.ensures.local
    (c.in_ok-compacted.ensures.local
    (c.in_ok-timed.ensures.local (c.in_ok-capped.ensures.local (c.in_ok-shared.ensures.local placed))))))
