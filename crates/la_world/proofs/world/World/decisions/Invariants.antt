use Rattle.std.proofs.Common.{◌≡◌}
use Rattle.std.specs.Prelude.{flat_map}
use Rattle.std.specs.List.{range_with_len}
use Rattle.la_world.specs.Calls.{decisions_at}
use Rattle.la_world.proofs.world.World.decisions.Given as goal

abbrev pub invariant-loop-commit : goal.invariant-loop-commit
invariant-loop-commit g l = l.made.items ≡ flat_map (decisions_at l.self.replica_states) (range_with_len 0 l.commit)
