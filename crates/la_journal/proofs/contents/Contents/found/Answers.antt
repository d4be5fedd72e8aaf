use Rattle.std.proofs.Common.{List, inl, refl, sym, subst}
use Rattle.la_journal.specs.Note.{Moment, now_of}
use Rattle.la_journal.specs.Outcomes.{LeftAt}
use Rattle.la_journal.proofs.contents.Contents.found.Goals as goal

pub returns-clause-seen : goal.returns-clause-seen
returns-clause-seen c =
    subst (λ (p : List Moment). LeftAt (now_of p) c.args.bytes.now) (sym c.note.ensures) (inl refl)
