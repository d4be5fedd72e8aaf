-- A line's turn, by what became of it.
use Rattle.std.proofs.Common.{◌≡◌, ℕ, true, false, List, [], codes, refl, sym, subst, ap, ◌∙◌, inl, inr}
use Rattle.std.proofs.Common.{append-nil, Option, Some, Result, OnOk, IfErr}
use Rattle.std.specs.Io.KnownBytes.{Appends}
use Rattle.std.proofs.KnownBytes.{Appends-nil}
use Rattle.la_io.specs.Limits.{is_too_long}
use Rattle.la_wire.specs.declared.error.LineFault.{LineFault}
use Rattle.la_wire.specs.declared.error.LineError.TheVariants.{Fault}
use Rattle.la_wire.specs.Calls.{called}
use Rattle.la_wire.specs.CallLines.{named_call}
use Rattle.la_durable.specs.CallLines.{is_line}
use Rattle.la_durable.specs.Inputs.{InputState, IsInputRefusal}
use Rattle.la_wire.specs.Notes.{refused_note, line_fault_line}
use Rattle.la_wire.specs.Wrongs.{wrong_of}
use Rattle.la_io.specs.Streams.{TellsLine, TellsAll}
use Rattle.la_serve.specs.declared.error.NodeFault.{NodeFault}
use Rattle.la_serve.specs.declared.asking.Asking.{Asking}
use Rattle.la_serve.specs.Asking.{heard_as}
use Rattle.la_serve.specs.Heard.{HeardLine, unheard, heard_name}
use Rattle.la_serve.specs.Io.{Io}
use Rattle.la_serve.specs.Turns.{Turn, faulty, own_of, is_note, is_elsewhere, IsTurnOf, IsCallTurn}
use Rattle.la_serve.specs.Serving.{OfLine, OfCall, OfHeard, OfRequest, IsStarvedLine, TakesBy, TakesLine, Breaks}
use Rattle.la_serve.specs.Serving.{TellsNoLine}
use Rattle.la_serve.proofs.TakenLines.{takes_only, takes_more, on_ok_more, if_err_more}
use Rattle.la_serve.proofs.Turns.{note_turn, request_turn, passed_turn}

-- a call that is passed over
pub call_passed : (heard : HeardLine) (input : InputState) (k : ℕ) (io : Io)
    → is_elsewhere io.state.kept (called input.call) ≡ true
    → TakesLine (OfCall heard input IsTurnOf k) TellsNoLine io io
call_passed heard input k io is =
    takes_only Appends (OfCall heard input IsTurnOf k) io io heard []
    (refl, passed_turn io.objects io.state k heard (called input.call) true refl is) refl refl (Appends-nil io.out)

-- there was no memory
pub starved : (Wrote : (before after : Option (List ℕ)) → List ℕ → Type 0) (k : ℕ) (line : List ℕ) (before : Io)
    (out : Option (List ℕ))
    → Wrote before.out out (refused_note (own_of before.state) k (codes "Memory") (heard_name line).name)
    → TakesBy Wrote (IsStarvedLine line k) TellsNoLine before (record before { out = out })
starved Wrote k line before out w =
    takes_only Wrote (IsStarvedLine line k) before (record before { out = out }) (heard_name line)
    (refused_note (own_of before.state) k (codes "Memory") (heard_name line).name) refl refl refl w

-- ## A line

module _ {E : Type 0} (heard : E → Option (List ℕ)) (refuses : E → List ℕ → E → Type 0) (e1 : E) where
  pub tells_none : (told : List (List ℕ)) → told ≡ [] → TellsAll heard refuses e1 e1 told
  tells_none told is = subst (TellsAll heard refuses e1 e1) (sym is) refl

  -- nothing is told
  pub silent : (Is More : (before after : Io) → Turn → Type 0) (before after : Io)
      → ((t : Turn) → Is before after t → More before after t)
      → (Wrote : (before after : Option (List ℕ)) → List ℕ → Type 0) → TakesBy Wrote Is TellsNoLine before after
      → TakesBy Wrote More (TellsAll heard refuses e1 e1) before after
  silent Is More before after more Wrote = takes_more Is More before after more tells_none Wrote

  pub note_taken : (k : ℕ) (line : List ℕ) → is_too_long line ≡ false → (before : Io) → is_note line ≡ true
      → TakesLine (OfLine line k) (TellsAll heard refuses e1 e1) before before
  note_taken k line le before is =
      silent (OfLine line k) (OfLine line k) before before (λ (t : Turn) (i : OfLine line k before before t). i)
      Appends
      (takes_only Appends (OfLine line k) before before (unheard line) []
      (refl, note_turn before.objects before.state k line le is) refl refl (Appends-nil before.out))

  -- it has a fault
  pub fault_taken : (k : ℕ) (hears : HeardLine) (before : Io) (e2 : E) (f : LineFault)
      → IsInputRefusal hears.call (Fault f)
      → TellsLine heard refuses e1 e2 (line_fault_line k f (wrong_of f hears.call) hears.name)
      → TakesLine (OfHeard hears k) (TellsAll heard refuses e1 e2) before before
  fault_taken k hears before e2 f refusal t = record {
    turn = faulty before.state k hears f;
    is = inl (refl, inr (record { fault = f; is = refusal; turn = refl }));
    now_is = refl;
    wrote = Appends-nil before.out;
    journal = sym (append-nil before.journal);
    tells = (e2, t, refl);
  }

-- a line that says a call
module _ (k : ℕ) (hears : HeardLine) (before after : Io) (input : InputState) (same : input.line ≡ hears.call)
    (says : named_call input.line ≡ Some (called input.call)) (stands : is_line input.line ≡ true) where
  pub of_call : (t : Turn) → OfCall hears input IsCallTurn k before after t → OfHeard hears k before after t
  of_call t i =
      let line : input.line ≡ t.heard.call = same ∙ sym (ap (λ (h : HeardLine). h.call) i.0) in
      inl (
        i.0,
        inl (record {
          call = called input.call;
          says = ap named_call (sym line) ∙ says;
          stands = ap is_line (sym line) ∙ stands;
          turn = i.1;
        }),
      )

module _ {E : Type 0} (told : E → Option (List ℕ)) (refuses : E → List ℕ → E → Type 0) (e1 : E) (k : ℕ) (a : Asking)
    (line : List ℕ) (before after : Io) (input : InputState) (same : input.line ≡ line)
    (says : named_call input.line ≡ Some (called input.call)) (stands : is_line input.line ≡ true) where
  abbrev heard_line : HeardLine
  heard_line = heard_as a input.line

  pub ok_heard : {T : Type 0} (r : Result T NodeFault)
      → OnOk r (TakesLine (OfCall heard_line input IsCallTurn k) TellsNoLine before after)
      → OnOk r (TakesLine (OfHeard (heard_as a line) k) (TellsAll told refuses e1 e1) before after)
  ok_heard r x =
      subst (λ l. OnOk r (TakesLine (OfHeard (heard_as a l) k) (TellsAll told refuses e1 e1) before after)) same
      (on_ok_more (OfCall heard_line input IsCallTurn k) (OfHeard heard_line k) before after
      (of_call k heard_line before after input refl says stands) (tells_none told refuses e1) r x)

  pub err_heard : {T : Type 0} (r : Result T NodeFault)
      → IfErr r (Breaks (OfCall heard_line input IsCallTurn k) TellsNoLine before after)
      → IfErr r (Breaks (OfHeard (heard_as a line) k) (TellsAll told refuses e1 e1) before after)
  err_heard r x =
      subst (λ l. IfErr r (Breaks (OfHeard (heard_as a l) k) (TellsAll told refuses e1 e1) before after)) same
      (if_err_more (OfCall heard_line input IsCallTurn k) (OfHeard heard_line k) before after
      (of_call k heard_line before after input refl says stands) (tells_none told refuses e1) r x)

-- any line that is no note
module _ (k : ℕ) (line : List ℕ) (le : is_too_long line ≡ false) (is : is_note line ≡ false) (before after : Io) where
  pub of_request : (t : Turn) → OfRequest line k before after t → OfLine line k before after t
  of_request t (same, other) = (same, request_turn before.objects before.state k line le is t same other)

  pub of_starved : (t : Turn) → IsStarvedLine line k before after t → OfRequest line k before after t
  of_starved t hungry = (ap (λ (u : Turn). u.heard.line) hungry, inr hungry)
