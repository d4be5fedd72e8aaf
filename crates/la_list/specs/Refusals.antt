-- When a call is refused, and how: by cases over the error.
use Rattle.std.specs.Prelude.{ℕ, ◌<◌, ◌≤◌, List, length}
use Rattle.la_own.specs.declared.error.OwnError.{OwnError}
use Rattle.la_own.specs.declared.error.OwnError.TheVariants.{TooLong, Memory}
use Rattle.la_list.specs.declared.op.TheConstants.{ELEMENT_BYTES}

abbrev pub IsInsertRefusal : List ℕ → OwnError → Type 0
IsInsertRefusal value TooLong = ELEMENT_BYTES < length value
IsInsertRefusal value Memory = length value ≤ ELEMENT_BYTES
