use Rattle.std.proofs.Common.{◌≡◌}
use Rattle.la_script.proofs.id_text.IdText.grow.Given as goal

abbrev pub invariant-loop-number : goal.invariant-loop-number
invariant-loop-number l = record {
  same : l.self.0 ≡ l.initial.self.0;
  so_far : l.self.1 ≡ l.number;
}
