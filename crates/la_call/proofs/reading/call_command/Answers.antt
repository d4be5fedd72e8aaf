use Rattle.std.proofs.Common.{◌∙◌, ap, codes}
use Rattle.std.proofs.lemmas.Result.{IfOk-weaker}
use Rattle.clap.specs.Words.{App, with_rule}
use Rattle.la_cli.specs.Calls.{option}
use Rattle.la_call.specs.Options.{text_option, words_rule}
use Rattle.la_call.proofs.reading.call_command.Goals as goal

pub returns-clause-app : goal.returns-clause-app
returns-clause-app c =
    let read =
    c.in_ok-read.ensures.app ∙ ap (λ (a : App). with_rule a (text_option (codes "in"))) c.named.ensures.app in
    let written = c.in_ok-written.ensures.app ∙ ap (λ (a : App). with_rule a (text_option (codes "out"))) read in
    let timed =
    c.in_ok-timed.ensures.app 0 3600
    (rw (c.value_parser.ensures, c.new.ensures.start, c.new.ensures.end) at c.range-waits.ensures)
    ∙ ap (λ (a : App). with_rule a (option (codes "wait") 0 3600 (codes "0"))) written in
    let counted =
    c.in_ok-counted.ensures.app 1 1000
    (rw (c.value_parser-2.ensures, c.new-2.ensures.start, c.new-2.ensures.end) at c.range-counts.ensures)
    ∙ ap (λ (a : App). with_rule a (option (codes "times") 1 1000 (codes "5"))) timed in
    let called = c.in_ok-called.ensures.app ∙ ap (λ (a : App). with_rule a (text_option (codes "name"))) counted in
    IfOk-weaker c.with_words.result _ _ (λ made h. h ∙ ap (λ (a : App). with_rule a words_rule) called)
    c.with_words.ensures.app

pub returns-clause-local : goal.returns-clause-local
returns-clause-local c =
    c.with_words.ensures.local
    (c.in_ok-called.ensures.local
    (c.in_ok-counted.ensures.local
    (c.in_ok-timed.ensures.local (c.in_ok-written.ensures.local (c.in_ok-read.ensures.local c.named.ensures.local)))))
