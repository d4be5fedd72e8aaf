-- The words of a line.
use Rattle.std.specs.Prelude.{ℕ, List, [], ◌∷◌, map, Option, Some, option_map}
use Rattle.std.specs.Option.{option_and_then}
use Rattle.std.specs.Borrow.{Bor}

-- the bytes of words that are borrowed
abbrev pub bytes_of : List (Bor (List ℕ)) → List (List ℕ)
bytes_of words = map (λ w. w.now) words

-- what the words say, if each says something
abbrev pub each_word : {A : Type 0} → (List ℕ → Option A) → List (List ℕ) → Option (List A)
each_word says [] = Some []
each_word says (word ∷ words) =
    option_and_then (λ x. option_map (λ xs. x ∷ xs) (each_word says words)) (says word)
