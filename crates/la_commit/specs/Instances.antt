-- The agreements of a group with adopt-commit objects, by number. Instance 0 is of none of them;
-- object k, from 0, has its first agreement in 2k+1 and its second one in 2k+2.
use Rattle.std.specs.Prelude.{ℕ, ◌+◌, ◌*◌, ◌/◌, ◌%◌, ◌==◌, Bool, not, ◌&&◌}

abbrev pub first_instance : (commit : ℕ) → ℕ
first_instance k = 2 * k + 1

abbrev pub second_instance : (commit : ℕ) → ℕ
second_instance k = 2 * k + 2

abbrev pub is_first_instance : ℕ → Bool
is_first_instance i = (i % 2) == 1

abbrev pub is_second_instance : ℕ → Bool
is_second_instance i = ((i % 2) == 0) && not (i == 0)

-- the object of which this is the first instance
abbrev pub commit_of : (instance : ℕ) → ℕ
commit_of i = i / 2
