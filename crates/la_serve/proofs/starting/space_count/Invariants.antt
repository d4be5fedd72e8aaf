use Rattle.std.proofs.Common.{◌≡◌, ◌+◌, ◌≤◌, drop}
use Rattle.la_serve.specs.Faults.{space_count}
use Rattle.la_serve.proofs.starting.space_count.Given as goal

abbrev pub invariant-loop-b : goal.invariant-loop-b
invariant-loop-b l = record {
  within : l.count ≤ l.b-index;
  counted : l.count + space_count (drop l.b-index l.bytes) ≡ space_count l.bytes;
}
