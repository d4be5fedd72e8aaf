use Rattle.std.proofs.Common.{List, sym, subst}
use Rattle.la_journal.specs.Note.{Moment, now_of, bytes_in}
use Rattle.la_journal.specs.Outcomes.{LeftAt, left_there}
use Rattle.la_journal.proofs.Goes.{stored_alone}
use Rattle.la_journal.proofs.contents.Contents.sync.Goals as goal

pub returns-clause-durable : goal.returns-clause-durable
returns-clause-durable c f left =
    stored_alone (bytes_in (now_of c.args.self.now.past.events)) f
    (subst (λ (p : List Moment). LeftAt (now_of p) f) c.note.ensures left)

pub returns-clause-crash : goal.returns-clause-crash
returns-clause-crash c f left =
    let was = now_of c.args.self.now.past.events in
    subst (LeftAt was) (sym (returns-clause-durable c f left)) (left_there was c.args.self.now.there)
