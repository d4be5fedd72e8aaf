use Rattle.std.proofs.Common.{◌≡◌}
use Rattle.std.specs.Vec.{vec_items}
use Rattle.la_types.proofs.KeyEntries.{all_made}
use Rattle.la_types.proofs.by_key.ByKey.states.Given as goal

abbrev pub invariant-loop-key : goal.invariant-loop-key
invariant-loop-key g l =
    all_made vec_items g.T.Absorbs.state l.states l.key-iterator
    ≡ all_made vec_items g.T.Absorbs.state l.initial.states l.initial.key-iterator
