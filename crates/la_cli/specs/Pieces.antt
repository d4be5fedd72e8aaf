-- What is given to a writer piece by piece, where its bytes are known.
use Rattle.std.specs.Prelude.{◌≡◌, ℕ, List, ◌++◌, Option}
use Rattle.std.specs.Io.KnownBytes.{Appends}

-- all of the bytes were written but the last, which are held
abbrev pub AppendsAllBut : (before after : Option (List ℕ)) → (held bytes : List ℕ) → Type 0
AppendsAllBut before after held bytes =
    (sent : List ℕ) × Appends before after sent × (sent ++ held ≡ bytes)

-- a writer took all of the bytes but the last, which are held
abbrev pub WritesAllBut :
    {W : Type 0} → (contents : W → Option (List ℕ)) → (old new : W) → (held bytes : List ℕ) → Type 0
WritesAllBut contents old new held bytes = AppendsAllBut (contents old) (contents new) held bytes
