use Rattle.std.proofs.Common.{rules}
use Rattle.la_shared.proofs.Keeps.{draws}
use Rattle.la_shared.proofs.table.Core.draw.Goals as goal

pub compare_exchange-found-requires : goal.compare_exchange-found-requires
compare_exchange-found-requires g c = (search rules, search rules, draws _ _ _ _ (search rules))
