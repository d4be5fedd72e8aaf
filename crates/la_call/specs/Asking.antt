-- A request that is asked, as the code has it, and what one line of the input comes to for it.
use Rattle.std.specs.Prelude.{◌≡◌, ◌⊎◌, ℕ, suc, ◌<◌, ◌≤◌, true, false, List, [], ◌∷◌, ◌++◌, Option, Some, None}
use Rattle.std.specs.Prelude.{if◌then◌else◌}
use Rattle.std.specs.Io.KnownBytes.{Appends, Consumes, IsAtEnd}
use Rattle.la_io.specs.declared.source.Source.{Source}
use Rattle.la_io.specs.Sources.{IsOneLine, ahead}
use Rattle.la_io.specs.Streams.{AppendsPrefix}
use Rattle.la_call.specs.declared.asking.Asking.{Asking}
use Rattle.la_call.specs.declared.waiting.Heard.{Heard}
use Rattle.la_call.specs.declared.waiting.Heard.TheVariants as heard
use Rattle.la_call.specs.declared.error.CallFault.{CallFault}
use Rattle.la_call.specs.declared.error.CallFault.TheVariants.{ReadFault, WriteFault, Memory, BadConfig, NoAnswer}
use Rattle.la_call.specs.Calls.{CallPlan, Standing, standing, ends_call, is_timeout}

abbrev pub plan_in : Asking → CallPlan
plan_in a = record { sent = a.sent.items; mark = a.mark.items; waits = a.waits; most = a.most }

-- where a call stands that reads by this source
abbrev pub placed : {R W : Type 0} (remaining : R → Option (List ℕ)) (contents : W → Option (List ℕ)) → Source
    → R → W → Standing
placed remaining contents source input output = standing (ahead source (remaining input)) (contents output)

-- what a line is
abbrev pub IsHeardAs : CallPlan → List ℕ → Heard → Type 0
IsHeardAs a line heard.Answer = ends_call a line ≡ true
IsHeardAs a line heard.Timeout = (ends_call a line ≡ false) × (is_timeout a line ≡ true)
IsHeardAs a line heard.Other = (ends_call a line ≡ false) × (is_timeout a line ≡ false)

-- a line was taken that does not answer, and at a time-out the request was written again
pub record WaitsOn (a : CallPlan) (from to : Standing) (tries now : ℕ) : Type 0 where
  pub line : List ℕ
  pub one : IsOneLine line
  pub goes : ends_call a line ≡ false
  pub read : Consumes from.left to.left (line ++ 10 ∷ [])
  pub wrote : Appends from.out to.out (if is_timeout a line then a.sent else [])
  pub tried : now ≡ (if is_timeout a line then suc tries else tries)
  pub few : now ≤ a.most

-- the line that was taken last answers
pub record TakesAnswer (a : CallPlan) (from to : Standing) (line : List ℕ) : Type 0 where
  pub one : IsOneLine line
  pub ends : ends_call a line ≡ true
  pub read : Consumes from.left to.left (line ++ 10 ∷ [])
  pub wrote : to.out ≡ from.out

-- a step, where the request was written so often before
abbrev pub Steps : CallPlan → (from to : Standing) → (line : List ℕ) → (tries : ℕ) → Option ℕ → Type 0
Steps a from to line tries None = TakesAnswer a from to line
Steps a from to line tries (Some now) = WaitsOn a from to tries now

-- a time-out came, and the request was written as often as it may be
pub record GivesUp (a : CallPlan) (from to : Standing) (tries : ℕ) : Type 0 where
  pub line : List ℕ
  pub timeout : is_timeout a line ≡ true
  pub last : tries ≡ a.most
  pub read : Consumes from.left to.left (line ++ 10 ∷ [])
  pub wrote : to.out ≡ from.out

-- the input ended
pub record Ends (from to : Standing) : Type 0 where
  pub rest : List ℕ
  pub one : IsOneLine rest
  pub read : Consumes from.left to.left rest
  pub end : IsAtEnd to.left
  pub wrote : to.out ≡ from.out

-- a read failed, or a line found no room
pub record Loses (from to : Standing) : Type 0 where
  pub lost : List ℕ
  pub read : Consumes from.left to.left lost
  pub wrote : to.out ≡ from.out

-- a time-out came, and the write failed
pub record NotRepeated (a : CallPlan) (from to : Standing) (tries : ℕ) : Type 0 where
  pub line : List ℕ
  pub one : IsOneLine line
  pub goes : ends_call a line ≡ false
  pub timeout : is_timeout a line ≡ true
  pub more : tries < a.most
  pub read : Consumes from.left to.left (line ++ 10 ∷ [])
  pub wrote : AppendsPrefix from.out to.out a.sent

-- and so the step failed
abbrev pub StepFails : CallPlan → (from to : Standing) → (tries : ℕ) → CallFault → Type 0
StepFails a from to tries NoAnswer = GivesUp a from to tries ⊎ Ends from to
StepFails a from to tries ReadFault = Loses from to
StepFails a from to tries Memory = Loses from to
StepFails a from to tries WriteFault = NotRepeated a from to tries
StepFails a from to tries BadConfig = ⊥

-- where a request is to be written again: it was, or it may not be, or the write failed
abbrev pub WritesAgain : CallPlan → (before after : Option (List ℕ)) → (tries now : ℕ) → Type 0
WritesAgain a before after tries now = (now ≡ suc tries) × (now ≤ a.most) × Appends before after a.sent

abbrev pub WritesNotAgain : CallPlan → (before after : Option (List ℕ)) → (tries : ℕ) → CallFault → Type 0
WritesNotAgain a before after tries NoAnswer = (tries ≡ a.most) × (after ≡ before)
WritesNotAgain a before after tries WriteFault = (tries < a.most) × AppendsPrefix before after a.sent
WritesNotAgain a before after tries _ = ⊥
