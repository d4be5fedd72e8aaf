use Rattle.std.proofs.Common.{rules}
use Rattle.la_wire.specs.Updates.{op_at}
use Rattle.la_wire.proofs.updates.op_at.Goals as goal

pub returns-in_err-only_number-in-Inc : goal.returns-in_err-only_number-in-Inc
unfolding op_at
returns-in_err-only_number-in-Inc c = search rules

pub returns-in_err-only_number-in-Dec : goal.returns-in_err-only_number-in-Dec
unfolding op_at
returns-in_err-only_number-in-Dec c = search rules

pub returns-in_err-only_number-in-Raise : goal.returns-in_err-only_number-in-Raise
unfolding op_at
returns-in_err-only_number-in-Raise c = search rules

pub returns-in_err-only_number-in-Put : goal.returns-in_err-only_number-in-Put
unfolding op_at
returns-in_err-only_number-in-Put c = search rules

pub returns-in_err-tags_at-in-Remove : goal.returns-in_err-tags_at-in-Remove
unfolding op_at
returns-in_err-tags_at-in-Remove c = search rules

pub returns-in_err-at_end-in-Mark : goal.returns-in_err-at_end-in-Mark
unfolding op_at
returns-in_err-at_end-in-Mark c = search rules

pub returns-in_err-only_number-in-Vote : goal.returns-in_err-only_number-in-Vote
unfolding op_at
returns-in_err-only_number-in-Vote c = search rules

pub returns-in_err-only_number-in-Sole : goal.returns-in_err-only_number-in-Sole
unfolding op_at
returns-in_err-only_number-in-Sole c = search rules

pub returns-in_ok-only_number-in-Inc : goal.returns-in_ok-only_number-in-Inc
unfolding op_at
returns-in_ok-only_number-in-Inc c = search rules

pub returns-in_ok-only_number-in-Dec : goal.returns-in_ok-only_number-in-Dec
unfolding op_at
returns-in_ok-only_number-in-Dec c = search rules

pub returns-in_ok-only_number-in-Raise : goal.returns-in_ok-only_number-in-Raise
unfolding op_at
returns-in_ok-only_number-in-Raise c = search rules

pub returns-in_ok-only_number-in-Put : goal.returns-in_ok-only_number-in-Put
unfolding op_at
returns-in_ok-only_number-in-Put c = search rules

pub returns-in_ok-tags_at-in-Remove : goal.returns-in_ok-tags_at-in-Remove
unfolding op_at
returns-in_ok-tags_at-in-Remove c = search rules

pub returns-in_ok-at_end-in-Mark : goal.returns-in_ok-at_end-in-Mark
unfolding op_at
returns-in_ok-at_end-in-Mark c = search rules

pub returns-in_ok-only_number-in-Vote : goal.returns-in_ok-only_number-in-Vote
unfolding op_at
returns-in_ok-only_number-in-Vote c = search rules

pub returns-in_ok-only_number-in-Sole : goal.returns-in_ok-only_number-in-Sole
unfolding op_at
returns-in_ok-only_number-in-Sole c = search rules

pub returns-in-Own : goal.returns-in-Own
unfolding op_at
returns-in-Own c = search rules
