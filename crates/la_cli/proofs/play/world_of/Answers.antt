use Rattle.std.proofs.Common.{rules}
use Rattle.la_cli.proofs.play.world_of.Goals as goal

pub unreachable-requires : goal.unreachable-requires
unreachable-requires g c = search rules
