use Rattle.std.proofs.lemmas.Bool.Decides.{Decides-at}
use Rattle.la_wire.specs.SameStates.{is_same_state}
use Rattle.la_wire.proofs.EqualStates.{decides-state}
use Rattle.la_wire.proofs.states.sameness.same_state.Goals as goal

pub returns-clause-same : goal.returns-clause-same
returns-clause-same c =
    Decides-at c.is_same_state.result (is_same_state c.args.one.now c.args.other.now) c.is_same_state.ensures
    (decides-state c.args.one.now c.args.other.now c.own.ensures.of_group)
