use Rattle.std.proofs.Common.{rules}
use Rattle.la_wire.specs.MessageLines.{message_header}
use Rattle.la_wire.proofs.messages.header_in.Goals as goal

pub returns-in_err-replicas : goal.returns-in_err-replicas
unfolding message_header
returns-in_err-replicas c = search rules

pub returns-in_err-from : goal.returns-in_err-from
unfolding message_header
returns-in_err-from c = search rules

pub returns-in_err-to : goal.returns-in_err-to
unfolding message_header
returns-in_err-to c = search rules

pub returns-in_err-instance : goal.returns-in_err-instance
unfolding message_header
returns-in_err-instance c = search rules

pub returns-in_err-ballot : goal.returns-in_err-ballot
unfolding message_header
returns-in_err-ballot c = search rules

pub returns : goal.returns
unfolding message_header
returns c = search rules
