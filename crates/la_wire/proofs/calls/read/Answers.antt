use Rattle.std.proofs.Common.{rules}
use Rattle.la_wire.specs.CallLines.{call_of}
use Rattle.la_wire.proofs.calls.read.Goals as goal

pub returns-then-eq : goal.returns-then-eq
unfolding call_of
returns-then-eq c = search rules

pub returns-in_err-read_message-in-Some : goal.returns-in_err-read_message-in-Some
unfolding call_of
returns-in_err-read_message-in-Some c = search rules

pub returns-in_ok-read_message-in-Some : goal.returns-in_ok-read_message-in-Some
unfolding call_of
returns-in_ok-read_message-in-Some c = search rules

pub returns-in-None : goal.returns-in-None
unfolding call_of
returns-in-None c = search rules

pub returns-in-None-2 : goal.returns-in-None-2
unfolding call_of
returns-in-None-2 c = search rules
