-- The line for which an input's line is taken.
use Rattle.std.proofs.Common.{◌≡◌, ℕ, true, List, ap}
use Rattle.la_durable.specs.CallLines.{is_line, call_line, or_tick, call_round_trip}

pub own_line : (line : List ℕ) → is_line line ≡ true → (or_tick (call_line line)).line ≡ line
own_line line is = ap (λ o. (or_tick o).line) (call_round_trip (record { line = line; says = is }))
