use Rattle.std.proofs.Common.{◌≡◌, true, false, []}
use Rattle.std.specs.Io.KnownBytes.{IsAtEnd}
use Rattle.la_io.specs.Sources.{ahead}
use Rattle.la_io.proofs.Sources.{Gathers}
use Rattle.la_io.proofs.source.Source.next.Given as goal

abbrev pub invariant-loop : goal.invariant-loop
invariant-loop g l = record {
  so_far : Gathers (ahead l.initial.self (g.R.Read.remaining l.initial.reader))
      (ahead l.self (g.R.Read.remaining l.reader)) l.is_long l.self.line.items;
  over : l.self.over ≡ true → IsAtEnd (ahead l.self (g.R.Read.remaining l.reader));
  end : l.initial.self.over ≡ true
      → (l.counter ≡ 0) × (l.self.over ≡ true) × (l.is_long ≡ false) × (l.self.line.items ≡ []);
}
