-- An input: a line, and the call that it says.
use Rattle.std.specs.Prelude.{◌≡◌, ◌⊎◌, ℕ, true, false, List, Some, Err, IsOk}
use Rattle.la_wire.specs.declared.calls.Call as code
use Rattle.la_wire.specs.declared.error.LineError.{LineError}
use Rattle.la_wire.specs.declared.error.LineError.TheVariants.{Fault, Memory}
use Rattle.la_wire.specs.declared.error.LineFault.TheVariants.{BadLine}
use Rattle.la_wire.specs.Calls.{called}
use Rattle.la_wire.specs.CallLines.{named_call, bounded_call_of, may_stand}
use Rattle.la_durable.specs.CallLines.{is_line}

pub record InputState : Type 0 where
  pub line : List ℕ
  pub call : code.Call

pub record IsInput (i : InputState) : Type 0 where
  pub is : is_line i.line ≡ true
  pub says : named_call i.line ≡ Some (called i.call)

-- a line from outside is not taken: it has a fault, or may not stand in a journal; or memory ran out
abbrev pub IsInputRefusal : List ℕ → LineError → Type 0
IsInputRefusal line (Fault fault) =
    (bounded_call_of line ≡ Err fault)
    ⊎ (IsOk (bounded_call_of line) × (may_stand line ≡ false) × (fault ≡ BadLine))
IsInputRefusal line Memory = Unit {0}
