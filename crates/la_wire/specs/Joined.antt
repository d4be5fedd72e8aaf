-- Texts put one behind another, with a byte between them.
use Rattle.std.specs.Prelude.{ℕ, List, [], ◌∷◌, ◌++◌, ◌==◌}
use Rattle.std.specs.List.{slice_split, before_first, after_first}

-- each part with the byte before it
abbrev pub spaced : (byte : ℕ) → List (List ℕ) → List ℕ
spaced byte [] = []
spaced byte (part ∷ parts) = byte ∷ part ++ spaced byte parts

-- the parts with the byte between them
abbrev pub joined_by : (byte : ℕ) → List (List ℕ) → List ℕ
joined_by byte [] = []
joined_by byte (part ∷ parts) = part ++ spaced byte parts

-- what stands between the bytes
abbrev pub parted : (byte : ℕ) → List ℕ → List (List ℕ)
parted byte line = slice_split (λ b. b == byte) line

-- a line's first word, and what stands behind it
abbrev pub front_word : List ℕ → List ℕ
front_word line = before_first (λ b. b == 32) line

abbrev pub behind_word : List ℕ → List ℕ
behind_word line = after_first (λ b. b == 32) line
