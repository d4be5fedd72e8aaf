use Rattle.std.proofs.Common.{subst, rules, inl, inr}
use Rattle.la_io.specs.Streams.{TellsLine}
use Rattle.la_call.proofs.ending.tell_file.Goals as goal

pub returns-in-Ok : goal.returns-in-Ok
returns-in-Ok g c =
    let told : TellsLine g.E.Write.contents g.E.Listener.refuses c.args.errors.now c.tell_all.new.errors
    c.in-Ok.line.items = search rules in
    inl
    (subst
    (λ line. TellsLine g.E.Write.contents g.E.Listener.refuses c.args.errors.now c.tell_all.new.errors line)
    c.in-Ok.ensures told)

pub returns-in-Err : goal.returns-in-Err
returns-in-Err g c =
    let told : TellsLine g.E.Write.contents g.E.Listener.refuses c.args.errors.now c.tell_all-in-Err.new.errors
    c.short_line.result.now = search rules in
    inr
    (subst
    (λ line. TellsLine g.E.Write.contents g.E.Listener.refuses c.args.errors.now c.tell_all-in-Err.new.errors line)
    c.short_line.ensures told)
