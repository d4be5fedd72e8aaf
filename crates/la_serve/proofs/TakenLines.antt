-- What is taken of a line.
use Rattle.std.proofs.Common.{◌≡◌, ℕ, List, refl, sym, subst, ◌∙◌, append-nil, Option, Result, Ok, Err, OnOk, IfErr}
use Rattle.std.specs.Io.KnownBytes.{Appends}
use Rattle.la_io.specs.Streams.{AppendsPrefix}
use Rattle.la_serve.specs.declared.error.NodeFault.{NodeFault}
use Rattle.la_serve.specs.declared.error.NodeFault.TheVariants as fault
use Rattle.la_serve.specs.Heard.{HeardLine}
use Rattle.la_serve.specs.Io.{Io}
use Rattle.la_serve.specs.Turns.{Turn, only_writes}
use Rattle.la_serve.specs.Serving.{TakesBy, TakesLine, TakesCut, Breaks, TellsNoLine}

-- nothing changes but what is written
pub takes_only : (Wrote : (before after : Option (List ℕ)) → List ℕ → Type 0) (Is : (before after : Io) → Turn → Type 0)
    (before after : Io) (heard : HeardLine) (text : List ℕ) → Is before after (only_writes before.state heard text)
    → after.state ≡ before.state → after.journal ≡ before.journal → Wrote before.out after.out text
    → TakesBy Wrote Is TellsNoLine before after
takes_only Wrote Is before after heard text is same still w = record {
  turn = only_writes before.state heard text;
  is = is;
  now_is = sym same;
  wrote = w;
  journal = still ∙ sym (append-nil before.journal);
  tells = refl;
}

-- ## The same of more

module _ (Is More : (before after : Io) → Turn → Type 0) {Told ToldMore : List (List ℕ) → Type 0} (before after : Io)
    (is_more : (t : Turn) → Is before after t → More before after t)
    (told_more : (told : List (List ℕ)) → Told told → ToldMore told) where
  pub takes_more : (Wrote : (before after : Option (List ℕ)) → List ℕ → Type 0) → TakesBy Wrote Is Told before after
      → TakesBy Wrote More ToldMore before after
  takes_more Wrote t = record {
    turn = t.turn;
    is = is_more t.turn t.is;
    now_is = t.now_is;
    wrote = t.wrote;
    journal = t.journal;
    tells = told_more t.turn.told t.tells;
  }

  breaks_more : (f : NodeFault) → Breaks Is Told before after f → Breaks More ToldMore before after f
  breaks_more fault.ReadFault b = b
  breaks_more fault.WriteFault b = takes_more AppendsPrefix b
  breaks_more fault.Memory b = takes_more AppendsPrefix b
  breaks_more fault.BadConfig b = b
  breaks_more fault.NoJournal b = b
  breaks_more fault.JournalThere b = b
  breaks_more fault.Locked b = b
  breaks_more (fault.BadJournal line) b = b
  breaks_more (fault.OtherOptions option) b = b
  breaks_more (fault.StartFault found) b = b
  breaks_more fault.DiskFault b = b

  pub on_ok_more : {T E : Type 0} (r : Result T E) → OnOk r (TakesLine Is Told before after)
      → OnOk r (TakesLine More ToldMore before after)
  on_ok_more (Ok x) t = takes_more Appends t
  on_ok_more (Err e) t = tt

  pub if_err_more : {T : Type 0} (r : Result T NodeFault) → IfErr r (Breaks Is Told before after)
      → IfErr r (Breaks More ToldMore before after)
  if_err_more (Ok x) b = tt
  if_err_more (Err f) b = breaks_more f b

-- a fault is given on as it is
pub if_err_same : {T E : Type 0} (P : E → Type 0) (f : E) (r : Result T E) → IfErr r (λ e. e ≡ f) → P f → IfErr r P
if_err_same P f (Ok x) e p = tt
if_err_same P f (Err g) e p = subst P (sym e) p

-- a write failed
pub if_err_cut : {T : Type 0} (Is : (before after : Io) → Turn → Type 0) (Told : List (List ℕ) → Type 0)
    (before after : Io) (r : Result T NodeFault) → IfErr r (λ e. e ≡ fault.WriteFault) → TakesCut Is Told before after
    → IfErr r (Breaks Is Told before after)
if_err_cut Is Told before after r e cut = if_err_same (Breaks Is Told before after) fault.WriteFault r e cut

-- what follows from either outcome
pub on_ok : {T E A B : Type 0} (r : Result T E) → (A → B) → OnOk r A → OnOk r B
on_ok (Ok x) so a = so a
on_ok (Err e) so a = tt

pub if_err : {T E : Type 0} {P Q : E → Type 0} (r : Result T E) → ((e : E) → P e → Q e) → IfErr r P → IfErr r Q
if_err (Ok x) so p = tt
if_err (Err e) so p = so e p
