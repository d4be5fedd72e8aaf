use Rattle.std.proofs.Common.{rules}
use Rattle.la_object.proofs.Copies.{filled-from_list}
use Rattle.la_object.proofs.ids.Ids.copy.Goals as goal

pub returns : goal.returns
returns c = search (rules, filled-from_list c.self.inside.ids.keys, c.self.view_is)
