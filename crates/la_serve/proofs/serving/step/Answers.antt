use Rattle.std.proofs.Common.{Some}
use Rattle.la_io.specs.Sources.{ahead}
use Rattle.la_serve.specs.Io.{io_at}
use Rattle.la_serve.proofs.Stepping.{long_step}
use Rattle.la_serve.proofs.serving.step.Goals as goal

pub returns-in-Long-clause-ok : goal.returns-in-Long-clause-ok
returns-in-Long-clause-ok g c =
    let long = rw c.in-Long.is at c.in_ok-next.ensures.next in
    long_step g.E.Write.contents g.E.Listener.refuses c.args.number
    (io_at (ahead c.args.source.now (g.R.Read.remaining c.args.input.now)) (Some c.args.held.now.items)
    c.args.server.now)
    (ahead c.next.new.self (g.R.Read.remaining c.next.new.reader)) c.args.errors.now c.tell_fault.new.errors long.0
    long.1
    long.2 long.3 c.tell_fault.ensures
