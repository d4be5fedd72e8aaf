use Rattle.std.proofs.Common.{◌≡◌, Some, IfOk, subst, ap, ◌∙◌}
use Rattle.std.specs.Option.{option_and_then}
use Rattle.la_list.specs.ListBytes.{edit_of, edit_read}
use Rattle.la_list.proofs.op.ListOp.of_op.Goals as goal

pub returns-in-Some : goal.returns-in-Some
unfolding edit_of
returns-in-Some c =
    subst (λ o. IfOk c.read.result (λ does. does ≡ option_and_then edit_read o))
    (ap Some c.as_slice.ensures.bytes ∙ c.in-Some.ensures.value) c.read.ensures

pub returns-in-None : goal.returns-in-None
unfolding edit_of
returns-in-None c = ap (option_and_then edit_read) c.in-None.ensures.value
