-- Lines as bytes.
use Rattle.std.specs.Prelude.{◌≢◌, ⊤, ℕ, List, [], ◌∷◌, ◌++◌}

-- the bytes of these lines
abbrev pub file_of : List (List ℕ) → List ℕ
file_of [] = []
file_of (line ∷ rest) = line ++ 10 ∷ file_of rest

-- no byte is 0 or a line's end
abbrev pub IsClean : List ℕ → Type 0
IsClean [] = ⊤
IsClean (b ∷ bytes) = (b ≢ 0) × (b ≢ 10) × IsClean bytes
