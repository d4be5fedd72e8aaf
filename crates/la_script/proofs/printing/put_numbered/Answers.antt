use Rattle.std.proofs.Common.{◌++◌, ap, ◌∙◌}
use Rattle.std.proofs.lemmas.Result.{on_ok_weaker}
use Rattle.la_script.proofs.PlainLines.{numbered_plain}
use Rattle.la_script.proofs.printing.put_numbered.Goals as goal

pub returns-in-Some : goal.returns-in-Some
returns-in-Some c =
    on_ok_weaker c.push_plain.result
    (λ e.
    e
    ∙ ap (λ t. c.args.out.now ++ t)
    (numbered_plain c.args.number c.in-Some.plain c.args.line.now c.in-Some.ensures.text)) c.push_plain.ensures
