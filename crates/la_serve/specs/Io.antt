-- Where a node stands: what it keeps, and its streams and its journal, by what is known of them.
use Rattle.std.specs.Prelude.{◌≡◌, ℕ, false, List, Option, Some, None}
use Rattle.la_set.specs.Inclusion.{IsSubset}
use Rattle.la_object.specs.declared.kind.Kind.{Kind}
use Rattle.la_journal.specs.declared.disk.Disk.{Ghosts}
use Rattle.la_journal.specs.Journal.{lines}
use Rattle.la_journal.specs.Records.{ended}
use Rattle.la_journal.specs.Giving.{GivenAt}
use Rattle.la_durable.specs.Nodes.{kept_by}
use Rattle.la_io.specs.declared.source.Source.{Source}
use Rattle.la_io.specs.Sources.{ahead}
use Rattle.la_serve.specs.declared.output.Output.{Output}
use Rattle.la_serve.specs.declared.server.Server.{Server}
use Rattle.la_serve.specs.Turns.{ServerState}

pub record Io : Type 0 where
  -- the objects on the shelf, and what the node stands on
  pub objects : List (ℕ × Kind)
  pub state : ServerState
  -- what is left of the input, and what is in the output
  pub left : Option (List ℕ)
  pub out : Option (List ℕ)
  -- the lines of the journal
  pub journal : List (List ℕ)

-- ## Of values that a call has

abbrev pub server_state : {D B : Type 0} {g : Ghosts D} → Server D B g → ServerState
server_state server = record { kept = kept_by server.node.durable.machine; known = server.links }

-- a server, whose staged lines are the journal
abbrev pub io_at : {D B : Type 0} {g : Ghosts D} → (left out : Option (List ℕ)) → Server D B g → Io
io_at left out server = record {
  objects = server.shelf.objects;
  state = server_state server;
  left = left;
  out = out;
  journal = ended server.node.text.items;
}

-- where nothing is read
abbrev pub io_of : {D B : Type 0} {g : Ghosts D} → (out : Option (List ℕ)) → Server D B g → Io
io_of out server = io_at None out server

-- its journal is not closed, and its shelf is not ahead of its view
abbrev pub TakesLines : {D B : Type 0} {g : Ghosts D} → Server D B g → Type 0
TakesLines server =
    (server.node.durable.closed ≡ false) × IsSubset server.shelf.view server.node.durable.machine.node.replica.view

-- lines were staged: it takes more, and the disk and the objects are as they were
abbrev pub OnlyStages : {D B : Type 0} {g : Ghosts D} → (old new : Server D B g) → Type 0
OnlyStages old new =
    TakesLines new × (new.node.durable.disk ≡ old.node.durable.disk) × (new.shelf.objects ≡ old.shelf.objects)

-- what a step has: where it reads, what is held back, the listener and the server
pub record StepAt (R E D B : Type 0) (g : Ghosts D) : Type 0 where
  pub source : Source
  pub input : R
  pub held : List ℕ
  pub errors : E
  pub server : Server D B g

abbrev pub step_at : {R E D B : Type 0} {g : Ghosts D} → Source → R → (held : List ℕ) → E → Server D B g
    → StepAt R E D B g
step_at source input held errors server =
    record { source = source; input = input; held = held; errors = errors; server = server }

abbrev pub io_in : {R E D B : Type 0} {g : Ghosts D} → (remaining : R → Option (List ℕ)) → StepAt R E D B g → Io
io_in remaining s = io_at (ahead s.source (remaining s.input)) (Some s.held) s.server

-- what waits to be written: what the output has and was given so far, what is held back, the staged lines and the disk
pub record Waiting (D : Type 0) : Type 0 where
  pub out : Option (List ℕ)
  pub given : List GivenAt
  pub held : List ℕ
  pub staged : List ℕ
  pub disk : D

abbrev pub at_flush : {D W B : Type 0} {g : Ghosts D} (contents : W → Option (List ℕ)) → Output W → (held : List ℕ)
    → Server D B g → Waiting D
at_flush contents output held server = record {
  out = contents output.writer;
  given = output.given.texts;
  held = held;
  staged = server.node.text.items;
  disk = server.node.durable.disk;
}

-- the streams of a run, and what the output was given so far
pub record Streams (R W E : Type 0) : Type 0 where
  pub input : R
  pub output : W
  pub given : List GivenAt
  pub errors : E

abbrev pub io : {R W E : Type 0} → R → Output W → E → Streams R W E
io input output errors =
    record { input = input; output = output.writer; given = output.given.texts; errors = errors }

-- ## What is stated of them

-- what the traits of a disk, a reader, a writer and a listener state
pub record Facts (D R W E : Type 0) : Type 1 where
  pub seen : D → List ℕ
  pub may_leave : D → List ℕ → Type 0
  pub moment : D → ℕ
  pub left_since : D → ℕ → List ℕ → Type 0
  pub remaining : R → Option (List ℕ)
  pub contents : W → Option (List ℕ)
  pub heard : E → Option (List ℕ)
  pub refuses : E → List ℕ → E → Type 0

abbrev pub facts : {D R W E : Type 0} (seen : D → List ℕ) (may_leave : D → List ℕ → Type 0) (moment : D → ℕ)
    (left_since : D → ℕ → List ℕ → Type 0) (remaining : R → Option (List ℕ)) (contents : W → Option (List ℕ))
    (heard : E → Option (List ℕ)) (refuses : E → List ℕ → E → Type 0) → Facts D R W E
facts seen may_leave moment left_since remaining contents heard refuses = record {
  seen = seen;
  may_leave = may_leave;
  moment = moment;
  left_since = left_since;
  remaining = remaining;
  contents = contents;
  heard = heard;
  refuses = refuses;
}

-- what streams have, where the journal has these lines
abbrev pub io_with : {D R W E : Type 0} → Facts D R W E → Streams R W E → List (ℕ × Kind) → ServerState
    → (journal : List (List ℕ)) → Io
io_with f s objects n journal =
    record { objects = objects; state = n; left = f.remaining s.input; out = f.contents s.output; journal = journal }

-- and where it has those of a server's disk
abbrev pub io_on : {D R W E B : Type 0} {g : Ghosts D} (seen : D → List ℕ) (remaining : R → Option (List ℕ))
    (contents : W → Option (List ℕ)) → Streams R W E → Server D B g → Io
io_on seen remaining contents s server = record {
  objects = server.shelf.objects;
  state = server_state server;
  left = remaining s.input;
  out = contents s.output;
  journal = lines (seen server.node.durable.disk);
}
