use Rattle.std.proofs.Common.{◌∙◌, ap, codes}
use Rattle.std.proofs.lemmas.Result.{IfOk-weaker}
use Rattle.clap.specs.Words.{App, with_rule}
use Rattle.la_cli.specs.Calls.{option}
use Rattle.la_serve.specs.Making.{folder_option}
use Rattle.la_serve.specs.Options.{own, votes_option}
use Rattle.la_serve.proofs.making.init_command.Goals as goal

pub returns-clause-app : goal.returns-clause-app
returns-clause-app c =
    let sized =
    c.in_ok-sized.ensures.app 1 8
    (rw (c.value_parser.ensures, c.new.ensures.start, c.new.ensures.end) at c.range-sizes.ensures)
    ∙ ap (λ (a : App). with_rule a (option (codes "replicas") 1 8 (codes "3"))) c.named.ensures.app in
    let placed = c.in_ok-placed.ensures.app ∙ ap (λ (a : App). with_rule a own) sized in
    let shared =
    c.in_ok-shared.ensures.app 0 16
    (rw (c.value_parser-2.ensures, c.new-2.ensures.start, c.new-2.ensures.end) at c.range-objects.ensures)
    ∙ ap (λ (a : App). with_rule a (option (codes "commits") 0 16 (codes "0"))) placed in
    let capped =
    c.in_ok-capped.ensures.app 1 1000000
    (rw (c.value_parser-3.ensures, c.new-3.ensures.start, c.new-3.ensures.end) at c.range-caps.ensures)
    ∙ ap (λ (a : App). with_rule a (option (codes "cap") 1 1000000 (codes "1000000"))) shared in
    let voted = c.in_ok-voted.ensures.app ∙ ap (λ (a : App). with_rule a votes_option) capped in
    IfOk-weaker c.with_folder.result _ _ (λ made h. h ∙ ap (λ (a : App). with_rule a folder_option) voted)
    c.with_folder.ensures.app

pub returns-clause-local : goal.returns-clause-local
returns-clause-local c =
    c.with_folder.ensures.local
    (c.in_ok-voted.ensures.local
    (c.in_ok-capped.ensures.local
    (c.in_ok-shared.ensures.local (c.in_ok-placed.ensures.local (c.in_ok-sized.ensures.local c.named.ensures.local)))))
