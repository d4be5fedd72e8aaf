use Rattle.std.proofs.Common.{◌≤◌, length}
use Rattle.std.specs.Io.KnownBytes.{Consumes}
use Rattle.la_io.specs.declared.streams.TheConstants.{LIMIT}
use Rattle.la_io.proofs.streams.read_all.Given as goal

abbrev pub invariant-loop : goal.invariant-loop
invariant-loop g l = record {
  read : Consumes (g.R.Read.remaining l.initial.reader) (g.R.Read.remaining l.reader) l.input.items;
  each : l.counter ≤ length l.input.items;
  short : length l.input.items ≤ LIMIT;
}
