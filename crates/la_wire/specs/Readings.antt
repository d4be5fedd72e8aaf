-- What is read from words, from left to right, or the first fault.
use Rattle.std.specs.Prelude.{◌≡◌, ℕ, List, [], ◌∷◌, Option, Some, None, Result, Ok, Err}
use Rattle.std.specs.Borrow.{Bor}
use Rattle.la_wire.specs.declared.error.LineFault.{LineFault}
use Rattle.la_wire.specs.declared.error.LineFault.TheVariants.{BadLine, BadNumber}
use Rattle.la_wire.specs.declared.error.LineError.{LineError}
use Rattle.la_wire.specs.declared.error.LineError.TheVariants.{Fault, Memory}
use Rattle.la_script.specs.Words.{bytes_of}
use Rattle.la_script.specs.Numbers.{number}
use Rattle.la_script.specs.Tags.{tag_of}
use Rattle.la_set.specs.declared.update.UpdateId.{UpdateId}

-- one reading after another: the first fault decides
infixl 10 ◌>>=◌
abbrev pub ◌>>=◌ : {A B : Type 0} → Result A LineFault → (A → Result B LineFault) → Result B LineFault
Ok x >>= f = f x
Err fault >>= f = Err fault

abbrev pub or_line_fault : {A : Type 0} → LineFault → Option A → Result A LineFault
or_line_fault fault (Some x) = Ok x
or_line_fault fault None = Err fault

-- a number from low to high, as a script writes it
abbrev pub number_on : (low high : ℕ) → List ℕ → Result ℕ LineFault
number_on low high word = or_line_fault BadNumber (number low high word)

abbrev pub with_rest : {A B : Type 0} → B → Result A LineFault → Result (A × B) LineFault
with_rest rest (Ok x) = Ok (x, rest)
with_rest rest (Err fault) = Err fault

-- the first of the words, as a number, and the words behind it
abbrev pub first_number : (low high : ℕ) → List (List ℕ) → Result (ℕ × List (List ℕ)) LineFault
first_number low high [] = Err BadLine
first_number low high (word ∷ words) = with_rest words (number_on low high word)

-- the first of the words, as the id of an update, and the words behind it
abbrev pub first_id : List (List ℕ) → Result (UpdateId × List (List ℕ)) LineFault
first_id [] = Err BadLine
first_id (word ∷ words) = with_rest words (or_line_fault BadNumber (tag_of word))

-- there is nothing more
abbrev pub at_end : List (List ℕ) → Result (Unit {0}) LineFault
at_end [] = Ok tt
at_end (word ∷ words) = Err BadLine

-- what was read, by a view of it: want of memory may come at any words
abbrev pub GivesOnLine : {X A : Type 0} → (X → A) → Result A LineFault → Result X LineError → Type 0
GivesOnLine view said (Ok x) = said ≡ Ok (view x)
GivesOnLine view said (Err (Fault fault)) = said ≡ Err fault
GivesOnLine view said (Err Memory) = Unit {0}

-- what was read from the first of the words, and the words behind it
abbrev pub GivesFirst : {A : Type 0} → Result (A × List (List ℕ)) LineFault
    → Result (A × Bor (List (Bor (List ℕ)))) LineFault → Type 0
GivesFirst said (Ok r) = said ≡ Ok (r.0, bytes_of r.1.now)
GivesFirst said (Err fault) = said ≡ Err fault
