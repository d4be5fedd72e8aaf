-- What a call writes, and which lines it reads until it ends.
use Rattle.std.specs.Prelude.{◌≡◌, ◌⊎◌, ℕ, suc, ◌<◌, nat_lt, Bool, true, false, not, ◌&&◌, List, [], ◌∷◌, ◌++◌, All}
use Rattle.std.specs.Prelude.{Option, if◌then◌else◌, codes, string_bytes}
use Rattle.std.specs.Str.{bytes_eq}
use Rattle.std.specs.Io.KnownBytes.{Appends, Consumes, IsAtEnd}
use Rattle.la_io.specs.Limits.{is_too_long}
use Rattle.la_io.specs.Sources.{IsOneLine}
use Rattle.la_io.specs.Streams.{AppendsPrefix}
use Rattle.la_call.specs.declared.options.CallOptions.{CallOptions}
use Rattle.la_call.specs.declared.error.CallFault.{CallFault}
use Rattle.la_call.specs.declared.error.CallFault.TheVariants.{ReadFault, WriteFault, Memory, BadConfig, NoAnswer}
use Rattle.la_call.specs.Words.{is_answer, is_waiting, mark_of, may_repeat}

-- ## What is asked

pub record CallPlan : Type 0 where
  -- the line that is written, with its end
  pub sent : List ℕ
  -- what its answer ends in
  pub mark : List ℕ
  -- lines `tick` are time-outs
  pub waits : Bool
  -- how often it may be written
  pub most : ℕ

-- the request under this name, and what the options say of it
abbrev pub plan_by : CallOptions → (name : List ℕ) → CallPlan
plan_by options name = record {
  sent = string_bytes options.request ++ (mark_of name ++ 10 ∷ []);
  mark = mark_of name;
  waits = nat_lt 0 options.wait;
  most = if may_repeat (string_bytes options.request) then options.times else 1;
}

-- ## What is heard

-- a line that comes where the interval has passed
abbrev pub is_timeout : CallPlan → List ℕ → Bool
is_timeout a line = a.waits && bytes_eq line (codes "tick")

-- a line that answers, and does not tell to wait
abbrev pub ends_call : CallPlan → List ℕ → Bool
ends_call a line = not (is_too_long line) && (is_answer a.mark line && not (is_waiting line))

-- Lines that were heard stand with the newest first. Their bytes:
abbrev pub heard_text : List (List ℕ) → List ℕ
heard_text [] = []
heard_text (line ∷ before) = heard_text before ++ (line ++ 10 ∷ [])

-- how many of them are time-outs
abbrev pub timeouts : CallPlan → List (List ℕ) → ℕ
timeouts a [] = 0
timeouts a (line ∷ before) = if is_timeout a line then suc (timeouts a before) else timeouts a before

-- what is written until then: the request, and again at each time-out
abbrev pub written_by : CallPlan → List (List ℕ) → List ℕ
written_by a [] = a.sent
written_by a (line ∷ before) = if is_timeout a line then written_by a before ++ a.sent else written_by a before

-- behind them the call still waits: none ends it, and there were fewer time-outs than it may be written
pub record StillWaits (a : CallPlan) (heard : List (List ℕ)) : Type 0 where
  pub lines : All IsOneLine heard
  pub unanswered : All (λ line. ends_call a line ≡ false) heard
  pub patient : timeouts a heard < a.most

-- ## Where it stands

-- what is left of the input, and what the output has
pub record Standing : Type 0 where
  pub left : Option (List ℕ)
  pub out : Option (List ℕ)

abbrev pub standing : (left out : Option (List ℕ)) → Standing
standing left out = record { left = left; out = out }

-- it waited, and this line answered
pub record IsAnswered (a : CallPlan) (from to : Standing) (line : List ℕ) : Type 0 where
  pub heard : List (List ℕ)
  pub waits : StillWaits a heard
  pub one : IsOneLine line
  pub ends : ends_call a line ≡ true
  pub read : Consumes from.left to.left (heard_text (line ∷ heard))
  pub wrote : Appends from.out to.out (written_by a heard)

-- it waited until a time-out at which it was written as often as it may be
pub record TimesOut (a : CallPlan) (from to : Standing) : Type 0 where
  pub heard : List (List ℕ)
  pub waits : StillWaits a heard
  pub line : List ℕ
  pub timeout : is_timeout a line ≡ true
  pub last : suc (timeouts a heard) ≡ a.most
  pub read : Consumes from.left to.left (heard_text (line ∷ heard))
  pub wrote : Appends from.out to.out (written_by a heard)

-- it waited until the input's end, before which these bytes may stand that end in no LF
pub record InputRunsOut (a : CallPlan) (from to : Standing) : Type 0 where
  pub heard : List (List ℕ)
  pub waits : StillWaits a heard
  pub rest : List ℕ
  pub one : IsOneLine rest
  pub read : Consumes from.left to.left (heard_text heard ++ rest)
  pub end : IsAtEnd to.left
  pub wrote : Appends from.out to.out (written_by a heard)

-- it waited until a read failed, or a line found no room: then these bytes are lost
pub record InputBreaks (a : CallPlan) (from to : Standing) : Type 0 where
  pub heard : List (List ℕ)
  pub waits : StillWaits a heard
  pub lost : List ℕ
  pub read : Consumes from.left to.left (heard_text heard ++ lost)
  pub wrote : Appends from.out to.out (written_by a heard)

-- it waited until a write failed: a front is written of what was to be
pub record OutputBreaks (a : CallPlan) (from to : Standing) : Type 0 where
  pub heard : List (List ℕ)
  pub waits : StillWaits a heard
  pub read : Consumes from.left to.left (heard_text heard)
  pub wrote : AppendsPrefix from.out to.out (written_by a heard)

-- it ended without an answer
abbrev pub IsUnanswered : CallPlan → (from to : Standing) → CallFault → Type 0
IsUnanswered a from to NoAnswer = TimesOut a from to ⊎ InputRunsOut a from to
IsUnanswered a from to ReadFault = InputBreaks a from to
IsUnanswered a from to Memory = InputBreaks a from to
IsUnanswered a from to WriteFault = OutputBreaks a from to
IsUnanswered a from to BadConfig = ⊥
