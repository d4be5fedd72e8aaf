-- What a node may accept: a call that changes its replica.
use Rattle.std.specs.Prelude.{ℕ}
use Rattle.la_set.specs.ObjectOps.{ObjectOp}
use Rattle.la_replica.specs.declared.message.Message.{Message}

pub data NodeCall : Type 0 where
  -- an update
  Submitted : ObjectOp → NodeCall
  -- a value, to an adopt-commit object
  Proposed : (commit value : ℕ) → NodeCall
  -- a message, as it came
  Received : Message → NodeCall
