use Rattle.std.proofs.Common.{◌≡◌, Some, IfOk, subst, ap, ◌∙◌}
use Rattle.std.specs.Option.{option_and_then}
use Rattle.la_types.specs.CounterMaps.{counter_of, counter_read}
use Rattle.la_types.proofs.counter_map.CounterOp.of_op.Goals as goal

pub returns-in-Some : goal.returns-in-Some
unfolding counter_of
returns-in-Some c =
    subst (λ o. IfOk c.read.result (λ does. does ≡ option_and_then counter_read o))
    (ap Some c.as_slice.ensures.bytes ∙ c.in-Some.ensures.value) c.read.ensures

pub returns-in-None : goal.returns-in-None
unfolding counter_of
returns-in-None c = ap (option_and_then counter_read) c.in-None.ensures.value
