-- How long a line may be that comes from outside.
use Rattle.std.specs.Prelude.{ℕ, nat_lt, ◌==◌, ◌||◌, Bool, List, [], ◌∷◌, length, if◌then◌else◌}
use Rattle.la_io.specs.declared.source.TheConstants.{MAX_LINE, MAX_SET_LINE}

-- a line that begins with 'n', 'o' or 't' can be a message with a set
abbrev pub limit_by : ℕ → ℕ
limit_by b = if (b == 110) || ((b == 111) || (b == 116)) then MAX_SET_LINE else MAX_LINE

abbrev pub limit_of : List ℕ → ℕ
limit_of [] = MAX_LINE
limit_of (b ∷ line) = limit_by b

abbrev pub is_too_long : List ℕ → Bool
is_too_long line = nat_lt (limit_of line) (length line)
