-- What was heard so far while a call waits, and what one line more comes to.
use Rattle.std.proofs.Common.{◌≡◌, ℕ, suc, ◌<◌, ◌≤◌, Bool, true, false, List, [], ◌∷◌, ◌++◌, All, Option, Some, None}
use Rattle.std.proofs.Common.{if◌then◌else◌, refl, sym, subst, ap, ◌∙◌, inl, inr, arith, append-nil}
use Rattle.std.specs.Io.KnownBytes.{Appends, Consumes, prepend_known}
use Rattle.std.proofs.KnownBytes.{Appends-trans, Consumes-nil, Consumes-trans}
use Rattle.std.proofs.lemmas.List.Elements.{All-nil, All-cons}
use Rattle.la_io.specs.Sources.{IsOneLine}
use Rattle.la_io.specs.Streams.{AppendsPrefix}
use Rattle.la_io.proofs.lemmas.Fronts.{prefix_behind}
use Rattle.la_call.specs.declared.error.CallFault.{CallFault}
use Rattle.la_call.specs.declared.error.CallFault.TheVariants.{ReadFault, WriteFault, Memory, BadConfig, NoAnswer}
use Rattle.la_call.specs.Calls.{CallPlan, Standing, standing, StillWaits, IsAnswered, TimesOut, InputRunsOut}
use Rattle.la_call.specs.Calls.{InputBreaks, OutputBreaks, IsUnanswered, ends_call, is_timeout, timeouts, heard_text}
use Rattle.la_call.specs.Calls.{written_by}
use Rattle.la_call.specs.Asking.{WaitsOn, TakesAnswer, GivesUp, Ends, Loses, NotRepeated, StepFails}

-- these lines were heard, and the request was written so often
pub record Waited (a : CallPlan) (from to : Standing) (tries : ℕ) : Type 0 where
  pub heard : List (List ℕ)
  pub lines : All IsOneLine heard
  pub unanswered : All (λ line. ends_call a line ≡ false) heard
  pub counted : tries ≡ suc (timeouts a heard)
  pub few : tries ≤ a.most
  pub read : Consumes from.left to.left (heard_text heard)
  pub wrote : Appends from.out to.out (written_by a heard)

still : (a : CallPlan) (from to : Standing) (tries : ℕ) (so : Waited a from to tries) → StillWaits a so.heard
still a from to tries so = record {
  lines = so.lines;
  unanswered = so.unanswered;
  patient = omega (arith, so.counted, so.few);
}

no_lines : (a : CallPlan) → 1 ≤ a.most → StillWaits a []
no_lines a some = record {
  lines = All-nil IsOneLine;
  unanswered = All-nil (λ line. ends_call a line ≡ false);
  patient = omega (arith, some);
}

-- ---- the first write

pub begins : (a : CallPlan) (left before after : Option (List ℕ)) → 1 ≤ a.most → Appends before after a.sent
    → Waited a (standing left before) (standing left after) 1
begins a left before after some wrote = record {
  heard = [];
  lines = All-nil IsOneLine;
  unanswered = All-nil (λ line. ends_call a line ≡ false);
  counted = refl;
  few = some;
  read = Consumes-nil left;
  wrote = wrote;
}

pub first_fails : (a : CallPlan) (left before after : Option (List ℕ)) → 1 ≤ a.most → AppendsPrefix before after a.sent
    → IsUnanswered a (standing left before) (standing left after) WriteFault
first_fails a left before after some wrote = record {
  heard = [];
  waits = no_lines a some;
  read = Consumes-nil left;
  wrote = wrote;
}

-- ---- a line more

wrote_on : (sent w : List ℕ) (t : Bool) (a b c : Option (List ℕ)) → Appends a b w
    → Appends b c (if t then sent else []) → Appends a c (if t then w ++ sent else w)
wrote_on sent w true a b c p q = Appends-trans a b c w sent p q
wrote_on sent w false a b c p q = subst (Appends a c) (append-nil w) (Appends-trans a b c w [] p q)

counted_on : (t : Bool) (tries now n : ℕ) → tries ≡ suc n → now ≡ (if t then suc tries else tries)
    → now ≡ suc (if t then suc n else n)
counted_on true tries now n p q = omega (arith, p, q)
counted_on false tries now n p q = omega (arith, p, q)

pub goes_on : (a : CallPlan) (from mid to : Standing) (tries now : ℕ) → Waited a from mid tries
    → WaitsOn a mid to tries now → Waited a from to now
goes_on a from mid to tries now so more = record {
  heard = more.line ∷ so.heard;
  lines = All-cons IsOneLine more.line so.heard more.one so.lines;
  unanswered = All-cons (λ line. ends_call a line ≡ false) more.line so.heard more.goes so.unanswered;
  counted = counted_on (is_timeout a more.line) tries now (timeouts a so.heard) so.counted more.tried;
  few = more.few;
  read = Consumes-trans from.left mid.left to.left (heard_text so.heard) (more.line ++ 10 ∷ []) so.read more.read;
  wrote =
      wrote_on a.sent (written_by a so.heard) (is_timeout a more.line) from.out mid.out to.out so.wrote more.wrote;
}

module _ (a : CallPlan) (from mid to : Standing) (tries : ℕ) (so : Waited a from mid tries) where
  same_out : to.out ≡ mid.out → Appends from.out to.out (written_by a so.heard)
  same_out is = subst (λ (o : Option (List ℕ)). Appends from.out o (written_by a so.heard)) (sym is) so.wrote

  more_read : (bytes : List ℕ) → Consumes mid.left to.left bytes
      → Consumes from.left to.left (heard_text so.heard ++ bytes)
  more_read bytes read = Consumes-trans from.left mid.left to.left (heard_text so.heard) bytes so.read read

  pub answered : (line : List ℕ) → TakesAnswer a mid to line → IsAnswered a from to line
  answered line is = record {
    heard = so.heard;
    waits = still a from mid tries so;
    one = is.one;
    ends = is.ends;
    read = more_read (line ++ 10 ∷ []) is.read;
    wrote = same_out is.wrote;
  }

  given_up : GivesUp a mid to tries → TimesOut a from to
  given_up is = record {
    heard = so.heard;
    waits = still a from mid tries so;
    line = is.line;
    timeout = is.timeout;
    last = sym so.counted ∙ is.last;
    read = more_read (is.line ++ 10 ∷ []) is.read;
    wrote = same_out is.wrote;
  }

  ended : Ends mid to → InputRunsOut a from to
  ended is = record {
    heard = so.heard;
    waits = still a from mid tries so;
    rest = is.rest;
    one = is.one;
    read = more_read is.rest is.read;
    end = is.end;
    wrote = same_out is.wrote;
  }

  broken : Loses mid to → InputBreaks a from to
  broken is = record {
    heard = so.heard;
    waits = still a from mid tries so;
    lost = is.lost;
    read = more_read is.lost is.read;
    wrote = same_out is.wrote;
  }

  unwritten : NotRepeated a mid to tries → OutputBreaks a from to
  unwritten is =
      let more : timeouts a (is.line ∷ so.heard) ≡ tries =
      ap (λ t. if t then suc (timeouts a so.heard) else timeouts a so.heard) is.timeout ∙ sym so.counted in
      record {
        heard = is.line ∷ so.heard;
        waits = record {
          lines = All-cons IsOneLine is.line so.heard is.one so.lines;
          unanswered = All-cons (λ line. ends_call a line ≡ false) is.line so.heard is.goes so.unanswered;
          patient = subst (λ n. n < a.most) (sym more) is.more;
        };
        read = more_read (is.line ++ 10 ∷ []) is.read;
        wrote =
            subst
            (λ t. AppendsPrefix from.out to.out (if t then written_by a so.heard ++ a.sent else written_by a so.heard))
            (sym is.timeout)
            (prefix_behind from.out mid.out to.out (written_by a so.heard) a.sent so.wrote is.wrote);
      }

  pub fails : (f : CallFault) → StepFails a mid to tries f → IsUnanswered a from to f
  fails NoAnswer (inl is) = inl (given_up is)
  fails NoAnswer (inr is) = inr (ended is)
  fails ReadFault is = broken is
  fails Memory is = broken is
  fails WriteFault is = unwritten is
  fails BadConfig is = absurd is

-- after too many lines nothing is lost
pub too_many : (a : CallPlan) (from to : Standing) (tries : ℕ) → Waited a from to tries
    → IsUnanswered a from to ReadFault
too_many a from to tries so = record {
  heard = so.heard;
  waits = still a from to tries so;
  lost = [];
  read = subst (Consumes from.left to.left) (sym (append-nil (heard_text so.heard))) so.read;
  wrote = so.wrote;
}

-- ---- a source that nothing was read of

module _ (a b : CallPlan) (same : a ≡ b) (p : List ℕ) (none : p ≡ []) (left out : Option (List ℕ)) (to : Standing) where
  unread : (o : Option (List ℕ)) → prepend_known p o ≡ o
  unread None = refl
  unread (Some xs) = ap (λ t. Some (t ++ xs)) none

  at_first : standing (prepend_known p left) out ≡ standing left out
  at_first = ap (λ l. standing l out) (unread left)

  pub unanswered_from : (f : CallFault) → IsUnanswered a (standing (prepend_known p left) out) to f
      → IsUnanswered b (standing left out) to f
  unanswered_from f is =
      subst (λ (x : CallPlan). IsUnanswered x (standing left out) to f) same
      (subst (λ (s : Standing). IsUnanswered a s to f) at_first is)

  pub answered_from : (line : List ℕ) → IsAnswered a (standing (prepend_known p left) out) to line
      → IsAnswered b (standing left out) to line
  answered_from line is =
      subst (λ (x : CallPlan). IsAnswered x (standing left out) to line) same
      (subst (λ (s : Standing). IsAnswered a s to line) at_first is)
