use Rattle.std.proofs.Common.{◌∙◌, ap, sym}
use Rattle.la_script.specs.Scripts.{script_of}
use Rattle.la_cli.proofs.OneText.{answers}
use Rattle.la_cli.proofs.play.answer_once.Goals as goal

pub returns-clause-ok : goal.returns-clause-ok
returns-clause-ok g c =
    answers c.args.shelves.items _ _ c.in_ok-script.script (record { said = ap script_of (sym c.deref.ensures.value) ∙ c.in_ok-script.ensures.ok; config = c.in_ok-script.ensures.config })
    c.in_ok-pieces.ensures
