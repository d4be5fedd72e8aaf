-- A line as a node hears it: what it calls for, apart from what a client may put around that.
use Rattle.std.specs.Prelude.{ℕ, List, [], Option, Some, None, option_map}
use Rattle.la_set.specs.declared.update.UpdateId.{UpdateId}
use Rattle.la_set.specs.declared.update.Op.TheVariants as op
use Rattle.la_wire.specs.declared.questions.Take.{Take}
use Rattle.la_wire.specs.Calls.{Submit}
use Rattle.la_wire.specs.CallLines.{call_line_text}
use Rattle.la_wire.specs.Requests.{NumberedLine, numbered_in, unnumbered, unnamed_in, name_in}
use Rattle.la_wire.specs.Questions.{AwaitedLine, awaited_in}

pub record HeardLine : Type 0 where
  -- the line, without its end
  pub line : List ℕ
  -- the name of the request, empty where it has none
  pub name : List ℕ
  -- what it calls for, as a line of a journal
  pub call : List ℕ
  -- the number under which a submission is to stand, where it says one
  pub number : Option ℕ
  -- the update that a question waits for, where it says one
  pub after : Option UpdateId

-- a line of which no more is looked at
abbrev pub unheard : List ℕ → HeardLine
unheard line = record { line = line; name = []; call = []; number = None; after = None }

abbrev pub unawaited : (line : List ℕ) → Option AwaitedLine → List ℕ
unawaited line None = line
unawaited line (Some a) = a.plain

-- a line without a name, and without what it waits for
abbrev pub bare : List ℕ → List ℕ
bare line = unawaited (unnamed_in line) (awaited_in (unnamed_in line))

-- by its name, and by what it waits for
abbrev pub heard_name : List ℕ → HeardLine
heard_name line = record {
  line = line;
  name = name_in line;
  call = bare line;
  number = None;
  after = option_map (λ (a : AwaitedLine). a.after) (awaited_in (unnamed_in line));
}

-- by its number too, where it is a submission under one
abbrev pub heard_call : List ℕ → HeardLine
heard_call line = record (heard_name line) {
  call = unnumbered (bare line) (numbered_in (bare line));
  number = option_map (λ (n : NumberedLine). n.number) (numbered_in (bare line));
}

-- as the submission that takes out what these updates put
abbrev pub heard_take : List ℕ → Take → List UpdateId → HeardLine
heard_take line take tags = record (heard_name line) {
  call = call_line_text (Submit take.replica take.object (op.Remove tags));
  number = take.number;
}
