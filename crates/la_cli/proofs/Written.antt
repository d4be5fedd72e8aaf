-- What is written piece by piece.
use Rattle.std.proofs.Common.{◌≡◌, ℕ, append_assoc, [], List, ◌++◌, Option, Bool, false, cond, refl, ap, sym, ◌∙◌, subst}
use Rattle.std.specs.Io.KnownBytes.{Appends}
use Rattle.std.proofs.lemmas.List.{append-nil}
use Rattle.std.proofs.KnownBytes.{Appends-trans}
use Rattle.la_object.specs.Shelves.{ShelfState}
use Rattle.la_io.specs.Streams.{AppendsPrefix}
use Rattle.la_cli.specs.Pieces.{AppendsAllBut}
use Rattle.la_io.proofs.lemmas.Fronts.{prefix_more, prefix_behind}
use Rattle.la_cli.specs.Play.{FitAnyGroup, ReadsInput, AnswersScript, PlaysBytes, PlaysPrefix}

-- a text that was made of what was read, and then written
pub plays : (shelves : List ShelfState) → FitAnyGroup shelves
    → (a b old new : Option (List ℕ)) (input given text : List ℕ) → ReadsInput a b input → given ≡ input
    → AnswersScript shelves given text → Appends old new text → PlaysBytes shelves a b old new
plays shelves fit a b old new input given text r is made w = record {
  fit = fit;
  input = given;
  text = text;
  read = subst (ReadsInput a b) (sym is) r;
  answers = made;
  wrote = w;
}

-- the same, where the writer failed
pub plays_prefix : (shelves : List ShelfState) → FitAnyGroup shelves
    → (a b old new : Option (List ℕ)) (input given text : List ℕ) → ReadsInput a b input → given ≡ input
    → AnswersScript shelves given text → AppendsPrefix old new text → PlaysPrefix shelves a b old new
plays_prefix shelves fit a b old new input given text r is made w = record {
  fit = fit;
  input = given;
  text = text;
  read = subst (ReadsInput a b) (sym is) r;
  answers = made;
  wrote = w;
}

-- ## Piece by piece

-- bytes that are written but for what is held, and what is written or held behind them
module _ (a b c : Option (List ℕ)) (held bytes : List ℕ) (before : AppendsAllBut a b held bytes) where
  pub held_more : (after more : List ℕ) → AppendsAllBut b c after (held ++ more)
      → AppendsAllBut a c after (bytes ++ more)
  held_more after more (sent, wrote, is) = (
    before.0 ++ sent,
    Appends-trans a b c before.0 sent before.1 wrote,
    append_assoc before.0 sent after ∙ ap (λ t. before.0 ++ t) is ∙ sym (append_assoc before.0 held more)
        ∙ ap (λ t. t ++ more) before.2,
  )

  pub held_front : (more : List ℕ) → AppendsPrefix b c (held ++ more) → AppendsPrefix a c (bytes ++ more)
  held_front more front =
      subst (AppendsPrefix a c) (sym (append_assoc before.0 held more) ∙ ap (λ t. t ++ more) before.2)
      (prefix_behind a b c before.0 (held ++ more) before.1 front)

  pub held_all : Appends b c held → Appends a c bytes
  held_all wrote = subst (Appends a c) before.2 (Appends-trans a b c before.0 held before.1 wrote)

  pub held_part : AppendsPrefix b c held → AppendsPrefix a c bytes
  held_part front = subst (AppendsPrefix a c) before.2 (prefix_behind a b c before.0 held before.1 front)

-- bytes that did not fit behind what is held, where nothing is held any more
module _ (a b c : Option (List ℕ)) (held bytes : List ℕ) (written : Appends a b held) where
  pub none_is_held : (after : List ℕ) → after ≡ [] → Appends b c bytes → AppendsAllBut a c after (held ++ bytes)
  none_is_held after none wrote = (
    held ++ bytes,
    Appends-trans a b c held bytes written wrote,
    ap (λ t. (held ++ bytes) ++ t) none
        ∙ append-nil (held ++ bytes),
  )

-- what is held, where more does not fit
pub unchanged : (fits : Bool) (more held new : List ℕ) → fits ≡ false → new ≡ cond fits more held → new ≡ held
unchanged fits more held new not is = is ∙ ap (λ b. cond b more held) not

-- the piece that comes next in a text, what is held before it, and what is left behind it
module _ (a b c : Option (List ℕ)) (held left bytes rest text : List ℕ) (before : AppendsAllBut a b (held ++ left) text)
    (is : left ≡ bytes ++ rest) where
  all_is : ((before.0 ++ held) ++ bytes) ++ rest ≡ text
  all_is =
      append_assoc (before.0 ++ held) bytes rest ∙ append_assoc before.0 held (bytes ++ rest)
      ∙ ap (λ t. before.0 ++ (held ++ t)) (sym is) ∙ before.2

  pub piece_next : (after : List ℕ) → AppendsAllBut b c after (held ++ bytes) → AppendsAllBut a c (after ++ rest) text
  piece_next after now =
      let next = held_more a b c held (before.0 ++ held) (before.0, before.1, refl) after bytes now in (
        next.0,
        next.1,
        sym (append_assoc next.0 after rest) ∙ ap (λ t. t ++ rest) next.2 ∙ all_is,
      )

  pub piece_front : AppendsPrefix b c (held ++ bytes) → AppendsPrefix a c text
  piece_front front =
      subst (AppendsPrefix a c) all_is
      (prefix_more a c ((before.0 ++ held) ++ bytes) rest
      (held_front a b c held (before.0 ++ held) (before.0, before.1, refl) bytes front))

-- nothing is left but what is held
pub held_alone : (a b : Option (List ℕ)) (held left text : List ℕ) → AppendsAllBut a b (held ++ left) text → left ≡ []
    → AppendsAllBut a b held text
held_alone a b held left text before none = (
  before.0,
  before.1,
  ap (λ t. before.0 ++ t) (sym (append-nil held)) ∙ ap (λ t. before.0 ++ (held ++ t)) (sym none)
      ∙ before.2,
)
