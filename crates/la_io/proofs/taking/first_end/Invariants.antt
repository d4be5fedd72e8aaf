use Rattle.std.proofs.Common.{◌≤◌, length, take}
use Rattle.la_io.specs.Sources.{IsOneLine}
use Rattle.la_io.proofs.taking.first_end.Given as goal

abbrev pub invariant-loop-n : goal.invariant-loop-n
invariant-loop-n l = record { within : l.n ≤ length l.bytes; one : IsOneLine (take l.n l.bytes) }
