-- A line that asks for something, as a node hears it.
use Rattle.std.specs.Prelude.{◌≡◌, ◌≤◌, ℕ, List, Some, None, length}
use Rattle.la_wire.specs.declared.requests.TheConstants.{MAX_NAME}
use Rattle.la_wire.specs.Questions.{question_in, take_in}
use Rattle.la_wire.specs.Requests.{numbered_in, numbered_line}
use Rattle.la_serve.specs.declared.asking.Asking.{Asking}
use Rattle.la_serve.specs.declared.asking.Request.{Request}
use Rattle.la_serve.specs.declared.asking.Request.TheVariants as request
use Rattle.la_serve.specs.Heard.{HeardLine, heard_name}

-- what stands around what it calls for is what its line has
pub record IsAsking (a : Asking) : Type 0 where
  pub name : a.name.now ≡ (heard_name a.line.now).name
  pub after : a.after ≡ (heard_name a.line.now).after
  pub short : length a.name.now ≤ MAX_NAME

-- where it calls for this
abbrev pub heard_as : Asking → (call : List ℕ) → HeardLine
heard_as a call = record { line = a.line.now; name = a.name.now; call = call; number = a.update; after = a.after }

-- a line asks for this
abbrev pub IsRequestOf : (line : List ℕ) → Request → Type 0
IsRequestOf line (request.Question q) = question_in line ≡ Some q
IsRequestOf line (request.Take take) = (question_in line ≡ None) × (take_in line ≡ Some take)
IsRequestOf line (request.Numbered n) =
    (question_in line ≡ None) × (take_in line ≡ None) × (numbered_in line ≡ Some (numbered_line n))
IsRequestOf line request.Plain = (question_in line ≡ None) × (take_in line ≡ None) × (numbered_in line ≡ None)
