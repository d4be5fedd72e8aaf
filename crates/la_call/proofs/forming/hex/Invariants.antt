use Rattle.std.proofs.Common.{◌≡◌, take}
use Rattle.la_call.specs.Names.{hex_digits}
use Rattle.la_call.proofs.forming.hex.Given as goal

abbrev pub invariant-loop-byte : goal.invariant-loop-byte
invariant-loop-byte l = record { so_far : l.digits.items ≡ hex_digits (take l.byte-index l.bytes) }
