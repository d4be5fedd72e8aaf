use Rattle.std.proofs.Common.{rules}
use Rattle.la_wire.specs.Updates.{update_in}
use Rattle.la_wire.proofs.updates.update_in.Goals as goal

pub returns-in_err-id : goal.returns-in_err-id
unfolding update_in
returns-in_err-id c = search rules

pub returns-in_err-object : goal.returns-in_err-object
unfolding update_in
returns-in_err-object c = search rules

pub returns-in_err-op : goal.returns-in_err-op
unfolding update_in
returns-in_err-op c = search rules

pub returns : goal.returns
unfolding update_in
returns c = search rules
