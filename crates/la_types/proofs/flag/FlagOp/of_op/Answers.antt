use Rattle.std.proofs.Common.{ap, ◌∙◌}
use Rattle.std.specs.Option.{option_and_then}
use Rattle.la_types.specs.Flags.{flag_of, flag_read}
use Rattle.la_types.proofs.flag.FlagOp.of_op.Goals as goal

pub returns-in_err-own : goal.returns-in_err-own
unfolding flag_of
returns-in_err-own c = c.from_residual.ensures ∙ ap (option_and_then flag_read) c.in_err-own.ensures.value

pub returns : goal.returns
unfolding flag_of
returns c =
    c.read.ensures ∙ ap flag_read c.as_slice.ensures.bytes ∙ ap (option_and_then flag_read) c.in_ok-own.ensures.value
