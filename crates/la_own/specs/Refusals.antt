-- When a call is refused, and how: by cases over the error.
use Rattle.std.specs.Prelude.{ℕ, ◌<◌, ◌≤◌, List, length}
use Rattle.la_own.specs.declared.error.OwnError.{OwnError}
use Rattle.la_own.specs.declared.error.OwnError.TheVariants.{TooLong, Memory}
use Rattle.la_own.specs.declared.own.TheConstants.{OWN_BYTES}

-- `Memory` comes only where the bytes take more than one word
abbrev pub IsOwnRefusal : List ℕ → OwnError → Type 0
IsOwnRefusal bytes TooLong = OWN_BYTES < length bytes
IsOwnRefusal bytes Memory = (4 < length bytes) × (length bytes ≤ OWN_BYTES)
