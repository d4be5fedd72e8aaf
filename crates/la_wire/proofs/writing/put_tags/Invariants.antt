use Rattle.std.proofs.Common.{◌≡◌, ◌++◌, take, drop, map, All}
use Rattle.la_script.specs.Text.{id_text}
use Rattle.la_wire.specs.Joined.{spaced}
use Rattle.la_wire.specs.Writable.{IsIdFrom}
use Rattle.la_wire.proofs.writing.put_tags.Given as goal

abbrev pub invariant-loop-place : goal.invariant-loop-place
invariant-loop-place l = record {
  written :
      l.out.items ++ spaced 32 (map id_text (drop l.place l.tags))
      ≡ l.initial.out.items ++ spaced 32 (map id_text l.tags);
  typed : All (IsIdFrom 0) (take l.place l.tags);
}
