use Rattle.std.proofs.Common.{rules}
use Rattle.std.specs.Vec.{vec_items}
use Rattle.la_types.proofs.KeyEntries.{all_made-empty}
use Rattle.la_types.proofs.by_key.ByKey.states.Goals as goal

pub returns : goal.returns
returns g c =
    let whole = all_made-empty vec_items g.T.Absorbs.state c.self.inside.of.entries c.iter-key-items.ensures.ordered in
    search (rules, whole, c.self.view_is)
