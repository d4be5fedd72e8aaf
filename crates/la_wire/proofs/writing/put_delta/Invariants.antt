use Rattle.std.proofs.Common.{◌≡◌, ◌++◌, take, drop, map, All}
use Rattle.la_wire.specs.Joined.{spaced}
use Rattle.la_wire.specs.Updates.{update_text}
use Rattle.la_wire.specs.Writable.{IsUpdateFrom}
use Rattle.la_wire.proofs.writing.put_delta.Given as goal

abbrev pub invariant-loop-place : goal.invariant-loop-place
invariant-loop-place l = record {
  written :
      l.out.items ++ spaced 59 (map update_text (drop l.place l.delta.more))
      ≡ l.initial.out.items ++ spaced 59 (map update_text l.delta.more);
  typed : All (IsUpdateFrom 0) (take l.place l.delta.more);
}
