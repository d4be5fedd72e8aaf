-- What was read, line by line.
use Rattle.std.specs.Prelude.{ℕ, List, ◌++◌, All, Option}
use Rattle.std.specs.Io.KnownBytes.{Consumes, IsAtEnd}
use Rattle.la_journal.specs.Lines.{file_of}
use Rattle.la_io.specs.Sources.{IsOneLine}

-- so far these lines were read, each with its end
abbrev pub ReadSo : (before after : Option (List ℕ)) → (lines : List (List ℕ)) → Type 0
ReadSo before after lines = All IsOneLine lines × Consumes before after (file_of lines)

-- bytes were read, which are these lines, each with its end, and something behind them
pub record ReadsFront (left_before left_after : Option (List ℕ)) (lines : List (List ℕ)) : Type 0 where
  pub rest : List ℕ
  pub each : All IsOneLine lines
  pub consumed : Consumes left_before left_after (file_of lines ++ rest)

-- all that there was to read, which is these lines, each with its end, and bytes behind them that no end follows
pub record ReadsAll (left_before left_after : Option (List ℕ)) (lines : List (List ℕ)) (rest : List ℕ) : Type 0 where
  pub each : All IsOneLine lines
  pub no_line : IsOneLine rest
  pub consumed : Consumes left_before left_after (file_of lines ++ rest)
  pub at_end : IsAtEnd left_after
