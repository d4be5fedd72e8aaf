use Rattle.std.proofs.Common.{◌≡◌, ◌+◌, ◌++◌, map, drop}
use Rattle.arrayvec.specs.ArrayString.{array_string_len}
use Rattle.la_wire.specs.Wrongs.{shown}
use Rattle.la_wire.proofs.telling.push_shown.Given as goal

abbrev pub invariant-loop-byte : goal.invariant-loop-byte
invariant-loop-byte l = record {
  shown : l.line.bytes ++ map shown (drop l.byte-index l.word) ≡ l.fn.line.bytes ++ map shown l.word;
  len : array_string_len l.line ≡ array_string_len l.fn.line + l.byte-index;
}
