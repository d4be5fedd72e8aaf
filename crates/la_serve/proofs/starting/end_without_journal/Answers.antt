use Rattle.std.proofs.Common.{◌≡◌, subst, rules, inl, inr}
use Rattle.la_io.specs.Streams.{TellsLine}
use Rattle.la_serve.specs.Ending.{no_journal_short}
use Rattle.la_serve.proofs.starting.end_without_journal.Goals as goal

pub returns-in-Ok-clause-told : goal.returns-in-Ok-clause-told
returns-in-Ok-clause-told g c =
    let told : TellsLine g.E.Write.contents g.E.Listener.refuses c.args.errors.now c.tell_all.new.errors
    c.in-Ok.line.items = search rules in
    inl
    (subst
    (λ line. TellsLine g.E.Write.contents g.E.Listener.refuses c.args.errors.now c.tell_all.new.errors line)
    c.in-Ok.ensures told)

pub returns-in-Err-clause-told : goal.returns-in-Err-clause-told
returns-in-Err-clause-told g c =
    let bytes : c.as_bytes.result.now ≡ no_journal_short c.args.kind = search rules in
    let told : TellsLine g.E.Write.contents g.E.Listener.refuses c.args.errors.now c.tell_all-in-Err.new.errors
    c.as_bytes.result.now = search rules in
    inr
    (subst
    (λ line. TellsLine g.E.Write.contents g.E.Listener.refuses c.args.errors.now c.tell_all-in-Err.new.errors line)
    bytes told)
