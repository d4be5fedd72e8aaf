-- What a node is called for.
use Rattle.std.specs.Prelude.{ℕ}
use Rattle.la_set.specs.declared.update.Op.{Op}
use Rattle.la_object.specs.declared.query.Query.{Query}
use Rattle.la_node.specs.declared.link.Standing.{Standing}
use Rattle.la_wire.specs.declared.calls.Call as code
use Rattle.la_wire.specs.declared.calls.Call.TheVariants as call
use Rattle.la_wire.specs.Messages.{WireMessage, letter_message}

pub data WireCall : Type 0 where
  -- a replica submits an operation on an object
  Submit : (replica object : ℕ) → Op → WireCall
  -- it proposes a value to an adopt-commit object
  Decide : (replica commit value : ℕ) → WireCall
  -- an object on its shelf is asked
  Ask : (replica object : ℕ) → Query → WireCall
  -- the timer has run out
  Tick : WireCall
  -- a message has come
  Receive : WireMessage → WireCall
  -- a replica has said how far it is
  Known : Standing → WireCall

-- what a call of the code says
abbrev pub called : code.Call → WireCall
called (call.Submit replica object op) = Submit replica object op
called (call.Decide replica commit value) = Decide replica commit value
called (call.Ask replica object query) = Ask replica object query
called call.Tick = Tick
called (call.Receive letter) = Receive (letter_message letter)
called (call.Known standing) = Known standing
