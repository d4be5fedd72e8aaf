-- What is taken from a reader and given to a writer, where their bytes are known.
use Rattle.std.specs.Prelude.{◌≡◌, ◌⊎◌, ℕ, ◌≤◌, List, [], ◌∷◌, length, take, drop, Option}
use Rattle.std.specs.Io.KnownBytes.{Appends, Keeps, Consumes, IsAtEnd}

-- these bytes were read, and they are all that there was
abbrev pub ReadsLines : (before after : Option (List ℕ)) → List ℕ → Type 0
ReadsLines before after bytes = Consumes before after bytes × IsAtEnd after

-- so many bytes were read
abbrev pub TakesBytes : ℕ → (before after : Option (List ℕ)) → Type 0
TakesBytes n before after = (bytes : List ℕ) × Consumes before after bytes × (length bytes ≡ n)

-- so many bytes were read, or fewer
abbrev pub TakesAtMost : ℕ → (before after : Option (List ℕ)) → Type 0
TakesAtMost n before after = (bytes : List ℕ) × Consumes before after bytes × (length bytes ≤ n)

-- the first of the bytes were written, some, all or none
abbrev pub AppendsPrefix : (before after : Option (List ℕ)) → List ℕ → Type 0
AppendsPrefix before after bytes = (n : ℕ) × Appends before after (take n bytes)

-- a writer took these bytes, by what it holds before and after
abbrev pub Writes :
    {W : Type 0} → (contents : W → Option (List ℕ)) → (old new : W) → List ℕ → Type 0
Writes contents old new bytes = Appends (contents old) (contents new) bytes

-- a writer took the first of these bytes, some, all or none
abbrev pub WritesPrefix :
    {W : Type 0} → (contents : W → Option (List ℕ)) → (old new : W) → List ℕ → Type 0
WritesPrefix contents old new bytes = AppendsPrefix (contents old) (contents new) bytes

-- a writer took the first of these bytes, some, all or none, and then it refused the others, by what
-- is stated of its refusals
pub record RefusesBytes
    {W : Type 0} (contents : W → Option (List ℕ)) (refuses : W → List ℕ → W → Type 0)
    (old new : W) (bytes : List ℕ) : Type 0 where
  pub count : ℕ
  pub between : W
  pub took : Appends (contents old) (contents between) (take count bytes)
  pub kept : Keeps (contents between) (contents new)
  pub refused : refuses between (drop count bytes) new

-- ## What is told

-- a line was told, or a front of it and the rest was refused
abbrev pub TellsLine : {E : Type 0} (contents : E → Option (List ℕ)) (refuses : E → List ℕ → E → Type 0) → (old new : E)
    → List ℕ → Type 0
TellsLine contents refuses old new line = Writes contents old new line ⊎ RefusesBytes contents refuses old new line

-- lines were told one after another
abbrev pub TellsAll : {E : Type 0} (contents : E → Option (List ℕ)) (refuses : E → List ℕ → E → Type 0) → (old new : E)
    → List (List ℕ) → Type 0
TellsAll contents refuses old new [] = new ≡ old
TellsAll {E} contents refuses old new (line ∷ lines) =
    (between : E) × TellsLine contents refuses old between line × TellsAll contents refuses between new lines
