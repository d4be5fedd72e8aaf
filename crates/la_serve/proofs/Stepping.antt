-- One step of a node that takes lines.
use Rattle.std.proofs.Common.{◌≡◌, ℕ, true, List, [], ◌∷◌, ◌++◌, refl, sym, append-nil, Option, None}
use Rattle.std.specs.Io.KnownBytes.{Consumes}
use Rattle.std.proofs.KnownBytes.{Appends-nil}
use Rattle.la_io.specs.Limits.{is_too_long}
use Rattle.la_wire.specs.declared.error.LineFault.TheVariants.{TooLong}
use Rattle.la_wire.specs.Notes.{line_fault_line}
use Rattle.la_io.specs.Sources.{IsOneLine}
use Rattle.la_io.specs.Streams.{TellsLine, TellsAll}
use Rattle.la_serve.specs.Io.{Io}
use Rattle.la_serve.specs.Heard.{unheard}
use Rattle.la_serve.specs.Turns.{faulty}
use Rattle.la_serve.specs.Serving.{IsTurnStep, TakesLine}
use Rattle.la_serve.proofs.Turns.{long_turn}

-- a line that is too long
pub long_step : {E : Type 0} (heard : E → Option (List ℕ)) (refuses : E → List ℕ → E → Type 0) (k : ℕ) (before : Io)
    (left : Option (List ℕ)) (e1 e2 : E) (line : List ℕ) → IsOneLine line → is_too_long line ≡ true
    → Consumes before.left left (line ++ 10 ∷ []) → TellsLine heard refuses e1 e2 (line_fault_line k TooLong None [])
    → TakesLine (IsTurnStep k) (TellsAll heard refuses e1 e2) before (record before { left = left })
long_step heard refuses k before left e1 e2 line one lt read t = record {
  turn = faulty before.state k (unheard line) TooLong;
  is = record { is = long_turn before.objects before.state k line lt; one = one; read = read };
  now_is = refl;
  wrote = Appends-nil before.out;
  journal = sym (append-nil before.journal);
  tells = (e2, t, refl);
}
