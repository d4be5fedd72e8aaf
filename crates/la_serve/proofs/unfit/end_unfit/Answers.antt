use Rattle.std.proofs.Common.{rules, subst, inl}
use Rattle.la_io.specs.Streams.{TellsLine}
use Rattle.la_serve.proofs.unfit.end_unfit.Goals as goal

pub returns-in-Ok-clause-told : goal.returns-in-Ok-clause-told
returns-in-Ok-clause-told g c =
    let told : TellsLine g.E.Write.contents g.E.Listener.refuses c.args.errors.now c.tell_all.new.errors
    c.in-Ok.line.items = search rules in
    inl
    (subst
    (λ line. TellsLine g.E.Write.contents g.E.Listener.refuses c.args.errors.now c.tell_all.new.errors line)
    c.in-Ok.ensures told)
