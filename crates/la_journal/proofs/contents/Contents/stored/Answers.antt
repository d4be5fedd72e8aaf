use Rattle.std.proofs.Common.{List, subst}
use Rattle.la_journal.specs.Note.{Moment, now_of}
use Rattle.la_journal.specs.Outcomes.{LeftAt}
use Rattle.la_journal.proofs.Goes.{stored_alone}
use Rattle.la_journal.proofs.contents.Contents.stored.Goals as goal

pub returns-clause-durable : goal.returns-clause-durable
returns-clause-durable c f left =
    stored_alone c.args.bytes.now f (subst (λ (p : List Moment). LeftAt (now_of p) f) c.note.ensures left)
