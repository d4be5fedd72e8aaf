use Rattle.std.proofs.Common.{arith}
use Rattle.std.specs.Option.{option_copied}
use Rattle.la_set.specs.Links.{items_of}
use Rattle.la_set.proofs.Walks.{begins-Decides}
use Rattle.la_set.proofs.history.begins_with.Goals as goal

pub returns-then-len_of : goal.returns-then-len_of
returns-then-len_of g c =
    begins-Decides (items_of (option_copied c.args.one)) (items_of (option_copied c.args.other)) c.first_difference.result
    c.is_none.result c.is_none.ensures (omega arith) c.first_difference.ensures
