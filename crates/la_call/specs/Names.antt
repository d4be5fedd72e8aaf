-- The name of a call's request.
use Rattle.std.specs.Prelude.{ℕ, ◌+◌, ◌/◌, ◌%◌, nat_lt, List, [], ◌∷◌, unwrap_or, option_map, if◌then◌else◌}
use Rattle.std.specs.Prelude.{string_bytes}
use Rattle.la_call.specs.declared.options.CallOptions.{CallOptions}

abbrev pub hex_digit : ℕ → ℕ
hex_digit n = if nat_lt n 10 then 48 + n else 87 + n

-- two digits a byte
abbrev pub hex_digits : List ℕ → List ℕ
hex_digits [] = []
hex_digits (b ∷ bytes) = hex_digit (b / 16) ∷ hex_digit (b % 16) ∷ hex_digits bytes

-- the one that was given, or the digits of the bytes that were drawn
abbrev pub name_by : CallOptions → (drawn : List ℕ) → List ℕ
name_by options drawn = unwrap_or (option_map string_bytes options.name) (hex_digits drawn)
