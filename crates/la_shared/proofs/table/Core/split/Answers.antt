use Rattle.std.proofs.Common.{rules}
use Rattle.la_shared.proofs.Keeps.{splits}
use Rattle.la_shared.proofs.table.Core.split.Goals as goal

pub split_seat-requires : goal.split_seat-requires
split_seat-requires c = (search rules, search rules, splits _ _)
