use Rattle.la_cli.proofs.OneText.{answers}
use Rattle.la_cli.proofs.play.answer_to.Goals as goal

pub returns-clause-ok : goal.returns-clause-ok
returns-clause-ok g c =
    answers c.args.shelves.items _ _ c.in_ok-script.script (record { said = c.in_ok-script.ensures.ok; config = c.in_ok-script.ensures.config })
    c.in_ok-pieces.ensures
