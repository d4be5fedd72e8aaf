use Rattle.std.proofs.Common.{arith}
use Rattle.std.proofs.lemmas.Bool.{false≢true}
use Rattle.la_journal.proofs.LastLines.{no_count, is_of_last}
use Rattle.la_journal.proofs.damage.is_of_last.Goals as goal

pub returns-in_default : goal.returns-in_default
returns-in_default c = (
  λ f. absurd (false≢true f),
  λ is. absurd (no_count c.args.before.now c.args.line.now c.requires (omega arith) c.in_default.ensures is),
)

pub returns-in-Some-last_lines : goal.returns-in-Some-last_lines
returns-in-Some-last_lines c =
    is_of_last c.args.before.now c.args.line.now c.requires (omega arith) c.is_record_of.result c.in-Some.count
    c.in-Some-last_lines.lines.now c.stated_link.result.now c.in-Some-last_lines.ensures.some c.stated_link.ensures
    c.in-Some-last_lines.ensures.enough c.in-Some.ensures c.is_record_of.ensures
