use Rattle.std.specs.Io.KnownBytes.{Keeps}
use Rattle.la_tick.proofs.reading.read_once.Given as goal

abbrev pub invariant-loop : goal.invariant-loop
invariant-loop g l = Keeps (g.I.Read.remaining l.initial.input) (g.I.Read.remaining l.input)
