use Rattle.std.proofs.Common.{rules}
use Rattle.la_shared.proofs.Keeps.{joins, hears}
use Rattle.la_shared.proofs.table.Core.meet.Goals as goal

pub join_seat-requires : goal.join_seat-requires
join_seat-requires c = (search rules, search rules, search rules, search rules, joins _ _ _ _)

pub load-requires : goal.load-requires
load-requires c = (search rules, search rules, hears _ _ _)
