-- Submissions under a number, from C: what a kind, a value and bytes say, and how a call ends.
use Rattle.std.specs.Prelude.{◌≡◌, ◌⊎◌, ℕ, ◌^◌, ◌==◌, nat_lt, nat_le, List, length, Option, Some, None, Ok, Err, Result}
use Rattle.std.specs.Prelude.{if◌then◌else◌}
use Rattle.la_set.specs.declared.update.Op.{Op}
use Rattle.la_set.specs.declared.update.Op.TheVariants as op
use Rattle.la_own.specs.Own.{own}
use Rattle.la_own.specs.declared.own.TheConstants.{OWN_BYTES}
use Rattle.la_proposer.specs.ProposerState.{op_on}
use Rattle.la_embed.specs.Hosts.{HostState}
use Rattle.la_embed.specs.Numbers.{SubmitsUnder, IsNumberRefusal}
use Rattle.lattice_c.specs.Statuses.{EndsSo, status_of_number}

abbrev pub small : (ℕ → Op) → (value : ℕ) → Option Op
small of value = if nat_lt value (2 ^ 32) then Some (of value) else None

-- an operation of a kind with a value, or with bytes of one's own
abbrev pub op_told : (kind value : ℕ) → (bytes : List ℕ) → Option Op
op_told kind value bytes =
    if kind == 1 then small op.Inc value else if kind == 2 then small op.Dec value else
    if kind == 3 then Some (op.Raise value) else if kind == 4 then Some (op.Put value) else
    if kind == 6 then Some op.Mark else
    if kind == 8 then (if nat_le (length bytes) OWN_BYTES then Some (own bytes) else None) else None

-- it was made; or there is no such operation; or there was no memory
abbrev pub MakesOp : (kind value : ℕ) → (bytes : List ℕ) → Result Op ℕ → Type 0
MakesOp kind value bytes (Ok made) = op_told kind value bytes ≡ Some made
MakesOp kind value bytes (Err status) =
    (((status ≡ 25) ⊎ (status ≡ 9)) × (op_told kind value bytes ≡ None)) ⊎ (status ≡ 1)

abbrev pub DoesUnder : HostState → (number object status : ℕ) → Op → HostState → Type 0
DoesUnder before number object status does after =
    ((status ≡ 0) × SubmitsUnder before number (op_on object does) after)
    ⊎ ((after ≡ before) × EndsSo ⊥ (IsNumberRefusal before number (op_on object does)) status_of_number status)

-- what is told is submitted under a number, once
abbrev pub SubmitsAt : HostState → (number object : ℕ) → (kind value : ℕ) → (bytes : List ℕ) → (status : ℕ) → HostState
    → Type 0
SubmitsAt before number object kind value bytes status after =
    ((does : Op) × (op_told kind value bytes ≡ Some does) × DoesUnder before number object status does after)
    ⊎ ((after ≡ before) × MakesOp kind value bytes (Err status))
