use Rattle.std.proofs.Common.{◌<◌, List, length, sym, ◌∙◌, ap, subst}
use Rattle.la_journal.specs.Note.{Moment, now_of, bytes_in}
use Rattle.la_journal.specs.Outcomes.{LeftAt}
use Rattle.la_journal.proofs.Goes.{grown_left, bytes_grow, stays_there}
use Rattle.la_journal.proofs.contents.Contents.append.Goals as goal

pub returns-clause-bytes : goal.returns-clause-bytes
returns-clause-bytes c =
    ap (λ (p : List Moment). bytes_in (now_of p)) c.note.ensures
    ∙ bytes_grow c.args.bytes.now (now_of c.args.self.now.past.events) c.args.self.now.there

pub returns-clause-crash : goal.returns-clause-crash
returns-clause-crash c f left =
    grown_left c.args.bytes.now (now_of c.args.self.now.past.events) f
    (subst (λ (p : List Moment). LeftAt (now_of p) f) c.note.ensures left)

pub invariant_of-self : goal.invariant_of-self
invariant_of-self c = record {
  there =
      subst (λ (p : List Moment). 0 < length (now_of p)) (sym c.note.ensures)
      (stays_there c.args.bytes.now (now_of c.args.self.now.past.events) c.args.self.now.there);
}
