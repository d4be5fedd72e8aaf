use Rattle.std.proofs.Common.{◌≡◌, ◌≤◌, true}
use Rattle.std.specs.Io.KnownBytes.{IsAtEnd}
use Rattle.la_journal.specs.Durable.{IsSettled}
use Rattle.la_io.specs.Sources.{ahead}
use Rattle.la_serve.specs.Io.{TakesLines, facts}
use Rattle.la_serve.proofs.Behind.{So}
use Rattle.la_serve.proofs.Points.{point, start_at}
use Rattle.la_serve.proofs.serving.serve.Given as goal

abbrev pub invariant-loop-number : goal.invariant-loop-number
invariant-loop-number g l =
    let f = facts g.D.Disk.seen g.D.Disk.may_leave g.D.Disk.moment g.D.Disk.left_since g.R.Read.remaining
    g.W.Write.contents g.E.Write.contents g.E.Listener.refuses in
    record {
      so_far : So f (start_at f l.initial.input l.initial.out l.initial.errors l.initial.server)
          (point f l.source l.input l.out l.held.items l.errors l.server) l.number;
      over : l.source.over ≡ true → IsAtEnd (ahead l.source (g.R.Read.remaining l.input));
      settled : IsSettled g.D.Disk.seen g.D.Disk.may_leave l.server.node.durable.disk;
      takes : TakesLines l.server;
      later : g.D.Disk.faults l.initial.server.node.durable.disk ≤ g.D.Disk.faults l.server.node.durable.disk;
      objects : l.server.shelf.objects ≡ l.initial.server.shelf.objects;
    }
