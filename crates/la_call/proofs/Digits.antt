-- The digits of one byte more.
use Rattle.std.proofs.Common.{◌≡◌, ℕ, ◌+◌, ◌<◌, ◌/◌, ◌%◌, List, [], ◌∷◌, ◌++◌, length, take, get_or, refl, sym, ap, ◌∙◌}
use Rattle.std.proofs.Common.{append_assoc}
use Rattle.std.proofs.lemmas.List.{take_more}
use Rattle.la_call.specs.Names.{hex_digit, hex_digits}

hex_behind : (xs ys : List ℕ) → hex_digits (xs ++ ys) ≡ hex_digits xs ++ hex_digits ys
hex_behind [] ys = refl
hex_behind (x ∷ xs) ys = ap (λ t. hex_digit (x / 16) ∷ hex_digit (x % 16) ∷ t) (hex_behind xs ys)

pub hex_more : (bytes : List ℕ) (i : ℕ) → i < length bytes
    → (hex_digits (take i bytes) ++ hex_digit (get_or bytes i 0 / 16) ∷ []) ++ hex_digit (get_or bytes i 0 % 16) ∷ []
    ≡ hex_digits (take (i + 1) bytes)
hex_more bytes i within =
    append_assoc (hex_digits (take i bytes)) (hex_digit (get_or bytes i 0 / 16) ∷ [])
    (hex_digit (get_or bytes i 0 % 16) ∷ [])
    ∙ sym (hex_behind (take i bytes) (get_or bytes i 0 ∷ [])) ∙ ap hex_digits (sym (take_more bytes i 0 within))
