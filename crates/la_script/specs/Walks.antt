-- What a walk along a text in pieces gives.
use Rattle.std.specs.Prelude.{ℕ, List}
use Rattle.la_script.specs.declared.walk.Piece.{Piece}
use Rattle.la_script.specs.declared.walk.Piece.TheVariants.{Lent, Made}

-- the bytes of a piece
abbrev pub piece_bytes : Piece → List ℕ
piece_bytes (Lent bytes) = bytes.now
piece_bytes (Made line) = line.bytes
