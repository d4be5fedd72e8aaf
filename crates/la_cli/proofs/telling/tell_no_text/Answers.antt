use Rattle.std.proofs.Common.{OnErr, subst}
use Rattle.la_io.specs.Streams.{RefusesBytes}
use Rattle.la_cli.proofs.telling.tell_no_text.Goals as goal

pub returns-clause-err : goal.returns-clause-err
returns-clause-err g c =
    subst
    (λ line.
    OnErr c.tell_all.result
    (RefusesBytes g.E.Write.contents g.E.Listener.refuses c.args.errors.now c.tell_all.new.errors line))
    c.as_bytes.ensures.value c.tell_all.ensures.err
