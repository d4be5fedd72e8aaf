use Rattle.std.proofs.Common.{◌≡◌, ◌<◌, ◌^◌, drop}
use Rattle.la_script.proofs.CanonicalNumbers.{value_behind}
use Rattle.la_script.proofs.numbers.digits_value.Given as goal

abbrev pub invariant-loop-byte : goal.invariant-loop-byte
invariant-loop-byte l = record {
  so_far : value_behind l.value (drop l.byte-index l.word) ≡ value_behind 0 l.word;
  fits : l.value < 2 ^ 64;
}
