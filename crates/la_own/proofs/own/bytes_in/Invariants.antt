use Rattle.std.proofs.Common.{◌≡◌, ◌*◌, map}
use Rattle.std.specs.List.{range_with_len}
use Rattle.la_own.specs.Own.{byte_at}
use Rattle.la_own.proofs.own.bytes_in.Given as goal

abbrev pub invariant-loop-place : goal.invariant-loop-place
invariant-loop-place l = l.bytes.items ≡ map (byte_at l.tags) (range_with_len 0 (4 * l.place))
