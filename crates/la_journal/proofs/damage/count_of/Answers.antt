use Rattle.std.proofs.Common.{[], ◌∷◌, ◌++◌, ap, ◌∙◌}
use Rattle.std.specs.Fmt.{decimal}
use Rattle.la_journal.specs.Records.{number_from}
use Rattle.la_journal.proofs.Digests.{behind_same}
use Rattle.la_journal.proofs.LastLines.{states, number_gives}
use Rattle.la_journal.proofs.damage.count_of.Goals as goal

pub returns : goal.returns
returns c n rest fits is =
    let line = c.in_ok-after.field-0.now in
    number_gives c.number.result line n c.number.ensures.some c.number.ensures.none fits
    (ap (number_from 0)
    (behind_same (126 ∷ 32 ∷ []) c.args.line.now line (decimal n ++ 32 ∷ rest) c.in_ok-after.ensures is)
    ∙ states n rest fits)
