use Rattle.std.proofs.Common.{arith}
use Rattle.la_script.proofs.PlainLines.{counted_utf8, ignored_utf8, kept_utf8, yes_utf8}
use Rattle.la_script.proofs.pieces.Pieces.push_plain.Goals as goal

pub push_line-requires-clause-text : goal.push_line-requires-clause-text
push_line-requires-clause-text c = counted_utf8 c.args.number (omega arith)

pub push_line-requires-in-Ignored-clause-text : goal.push_line-requires-in-Ignored-clause-text
push_line-requires-in-Ignored-clause-text c = ignored_utf8 c.args.number (omega arith)

pub push_line-requires-in-Kept-clause-text : goal.push_line-requires-in-Kept-clause-text
push_line-requires-in-Kept-clause-text c = kept_utf8 c.args.number (omega arith)

pub push_line-requires-in-Yes-clause-text : goal.push_line-requires-in-Yes-clause-text
push_line-requires-in-Yes-clause-text c = yes_utf8 c.args.number c.in-Yes.message (omega arith) (omega arith)
