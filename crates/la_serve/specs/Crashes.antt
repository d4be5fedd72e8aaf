-- What a crash leaves of the journal while lines are taken.
use Rattle.std.specs.Prelude.{◌≡◌, ◌⊎◌, ⊤, ℕ, ◌≤◌, List, [], ◌∷◌, ◌++◌, Option, Some, length, map}
use Rattle.std.specs.Io.KnownBytes.{Appends, Keeps}
use Rattle.la_io.specs.Streams.{AppendsPrefix}
use Rattle.la_journal.specs.declared.disk.Disk.{Ghosts}
use Rattle.la_journal.specs.Disk.{LeavesOnly}
use Rattle.la_journal.specs.Giving.{GivenAt}
use Rattle.la_journal.specs.Records.{ended}
use Rattle.la_journal.specs.Journal.{lines as lines_in}
use Rattle.la_journal.specs.Machine.{steps, LeadsToSome}
use Rattle.la_journal.specs.Served.{LeadsToAtLeast}
use Rattle.la_journal.specs.Durable.{IsSettled, IsSameOr}
use Rattle.la_node.specs.declared.config.Config.{Config}
use Rattle.la_node.specs.Nodes.{node_at_start}
use Rattle.la_durable.specs.CallLines.{CallLine}
use Rattle.la_durable.specs.Nodes.{empty_shelf, kept_by, step}
use Rattle.la_durable.specs.Restarts.{leads_from}
use Rattle.la_io.specs.Streams.{TellsAll}
use Rattle.la_serve.specs.declared.error.NodeFault.{NodeFault}
use Rattle.la_serve.specs.declared.server.Server.{Server}
use Rattle.la_serve.specs.declared.options.Options.{Options}
use Rattle.la_serve.specs.Io.{Waiting, Streams, Facts, io_on}
use Rattle.la_serve.specs.Giving.{gives}
use Rattle.la_serve.specs.Turns.{Turn}
use Rattle.la_serve.specs.Serving.{kept_lines, written, Unflushed, ServesAll, IsServeRefusal}
use Rattle.la_replica.specs.ReplicaState.{ReplicaState}

abbrev pub crash_texts : List CallLine → List (List ℕ)
crash_texts calls = map (λ (c : CallLine). c.line) calls

-- ## What was given out

-- the turns of these groups, the newest of which is first
abbrev pub in_order : List (List Turn) → List Turn
in_order [] = []
in_order (group ∷ before) = in_order before ++ group

-- each of these texts is what such a group comes to
abbrev pub AreTextsOf : List (List Turn) → List GivenAt → Type 0
AreTextsOf [] [] = ⊤
AreTextsOf [] (g ∷ given) = ⊥
AreTextsOf (group ∷ before) [] = ⊥
AreTextsOf (group ∷ before) (g ∷ given) = (g.text ≡ written group) × AreTextsOf before given

-- or a front of that, of the newest
abbrev pub AreFrontsOf : List (List Turn) → List GivenAt → Type 0
AreFrontsOf [] [] = ⊤
AreFrontsOf [] (g ∷ given) = ⊥
AreFrontsOf (group ∷ before) [] = ⊥
AreFrontsOf (group ∷ before) (g ∷ given) =
    ((more : List ℕ) × (g.text ++ more ≡ written group)) × AreTextsOf before given

-- so many lines were kept up to the newest
abbrev pub kept_count : List (List Turn) → ℕ
kept_count groups = length (kept_lines (in_order groups))

-- Of each text: a crash at any moment from when it was given out leaves a journal that leads to where the first some of
-- these calls lead, and all are among them whose lines were kept up to that text.
abbrev pub KeepsGiven : (now : ℕ) (left_since : ℕ → List ℕ → Type 0) (leads : List ℕ → Option ReplicaState)
    → (calls : List CallLine) → ReplicaState → List (List Turn) → List GivenAt → Type 0
KeepsGiven now left_since leads calls n [] given = ⊤
KeepsGiven now left_since leads calls n (group ∷ before) [] = ⊤
KeepsGiven now left_since leads calls n (group ∷ before) (g ∷ given) =
    (g.moment ≤ now)
    × ((c : List ℕ) → left_since g.moment c → LeadsToAtLeast leads step (kept_count (group ∷ before)) calls n c)
    × KeepsGiven now left_since leads calls n before given

-- ## What is left

-- The journal led to a state, from which these turns were taken: what the first ones came to was written, in groups,
-- and of the last ones nothing. A crash at any moment of that leaves a journal that leads to where the first some of
-- the lines lead that it gained, none skipped; from when a text was given out on, all lines are among them that were
-- kept up to it; and from now on all lines of the first turns.
pub record Leaves {D : Type 0} (seen : D → List ℕ) (may_leave : D → List ℕ → Type 0) (moment : D → ℕ)
    (left_since : D → ℕ → List ℕ → Type 0) (n : ReplicaState) (old new : D) (before after : List GivenAt)
    (turns last : List Turn) : Type 0 where
  pub calls : List CallLine
  pub lines : kept_lines turns ≡ crash_texts calls
  pub later : List CallLine
  pub last_lines : kept_lines last ≡ crash_texts later
  pub between : ReplicaState
  pub led : steps step calls n ≡ Some between
  pub any_moment : (start : ReplicaState) → leads_from start (seen old) ≡ Some n
      → LeavesOnly moment left_since old new (LeadsToSome (leads_from start) step (calls ++ later) n)
  pub from_now : (start : ReplicaState) → leads_from start (seen old) ≡ Some n
      → (c : List ℕ) → may_leave new c → LeadsToSome (leads_from start) step later between c
  -- the newest group first
  pub groups : List (List Turn)
  pub are : in_order groups ≡ turns
  pub given : List GivenAt
  pub behind : after ≡ given ++ before
  pub texts : AreFrontsOf groups given
  pub keeps : (start : ReplicaState) → leads_from start (seen old) ≡ Some n
      → KeepsGiven (moment new) (left_since new) (leads_from start) (calls ++ later) n groups given

-- The same of a run from its start on, which first recovered the journal: of that a crash leaves what might have been
-- left before, or what leads to the same.
pub record LeavesOfRun {D : Type 0} (seen : D → List ℕ) (may_leave : D → List ℕ → Type 0) (moment : D → ℕ)
    (left_since : D → ℕ → List ℕ → Type 0) (fresh : ReplicaState) (disk final : D) (n : ReplicaState)
    (before after : List GivenAt) (turns last : List Turn) : Type 0 where
  pub recovered : D
  pub recovery : LeavesOnly moment left_since disk recovered (IsSameOr (may_leave disk) (leads_from fresh) (seen disk))
  pub leads : leads_from fresh (seen recovered) ≡ Some n
  pub left : Leaves seen may_leave moment left_since n recovered final before after turns last

-- what a new node keeps
abbrev pub at_start : Config → (own : ℕ) → ReplicaState
at_start config own = (node_at_start config own empty_shelf).replica

-- what is left of a run with these options, which began with the one disk and ended with the other, by what is stated
-- of them
abbrev pub LeftBy : {D R W E : Type 0} → Facts D R W E → Options → (disk final : D) → ReplicaState
    → (before after : List GivenAt) → (turns last : List Turn) → Type 0
LeftBy f options disk final =
    LeavesOfRun f.seen f.may_leave f.moment f.left_since (at_start options.config options.own) disk final

-- all lines that were staged are on the disk, behind those that were there
pub record Commits {D : Type 0} (seen : D → List ℕ) (may_leave : D → List ℕ → Type 0) (staged : List ℕ) (old new : D) :
    Type 0 where
  pub settled : IsSettled seen may_leave new
  pub lines : lines_in (seen new) ≡ lines_in (seen old) ++ ended staged
  pub leads : (start before : ReplicaState) (calls : List CallLine) → leads_from start (seen old) ≡ Some before
      → ended staged ≡ crash_texts calls → leads_from start (seen new) ≡ steps step calls before

-- or, whatever happens, the first some of them are there
abbrev pub CommitsSome : {D : Type 0} (seen : D → List ℕ) (moment : D → ℕ) (left_since : D → ℕ → List ℕ → Type 0)
    (staged : List ℕ) (old new : D) → Type 0
CommitsSome seen moment left_since staged old new =
    (start before : ReplicaState) (calls : List CallLine) → leads_from start (seen old) ≡ Some before
    → ended staged ≡ crash_texts calls
    → LeavesOnly moment left_since old new (LeadsToSome (leads_from start) step calls before)

-- all that was held back was written, once all that was staged was on the disk
pub record Flushes {D : Type 0} (seen : D → List ℕ) (may_leave : D → List ℕ → Type 0) (moment : D → ℕ)
    (left_since : D → ℕ → List ℕ → Type 0) (old new : Waiting D) : Type 0 where
  pub wrote : Appends old.out new.out old.held
  pub none_held : new.held ≡ []
  pub none_staged : new.staged ≡ []
  pub commits : Commits seen may_leave old.staged old.disk new.disk
  pub some : CommitsSome seen moment left_since old.staged old.disk new.disk
  pub given : new.given ≡ gives moment new.disk old.held old.given

-- that, or nothing
abbrev pub FlushesOrNot : {D : Type 0} (seen : D → List ℕ) (may_leave : D → List ℕ → Type 0) (moment : D → ℕ)
    (left_since : D → ℕ → List ℕ → Type 0) (old new : Waiting D) → Type 0
FlushesOrNot seen may_leave moment left_since old new =
    (new ≡ old) ⊎ Flushes seen may_leave moment left_since old new

-- it was not, and nothing was given out
pub record GivesNothing {D : Type 0} (old new : Waiting D) : Type 0 where
  pub keeps : Keeps old.out new.out
  pub given : new.given ≡ old.given

-- or a front of it is out, and all lines are on the disk
pub record GivesFront {D : Type 0} (seen : D → List ℕ) (may_leave : D → List ℕ → Type 0) (moment : D → ℕ)
    (old new : Waiting D) : Type 0 where
  pub front : AppendsPrefix old.out new.out old.held
  pub commits : Commits seen may_leave old.staged old.disk new.disk
  pub given : new.given ≡ gives moment new.disk old.held old.given

-- where a write failed the second, and else the first
abbrev pub FlushesNot : {D : Type 0} (seen : D → List ℕ) (may_leave : D → List ℕ → Type 0) (moment : D → ℕ)
    (old new : Waiting D) → NodeFault → Type 0
FlushesNot seen may_leave moment old new =
    Unflushed (GivesNothing old new) (GivesFront seen may_leave moment old new)

-- ## What `serve` comes to

-- all lines of an input were taken
abbrev pub ServesLines : {D R W E B : Type 0} {g : Ghosts D} (seen : D → List ℕ) (may_leave : D → List ℕ → Type 0)
    (moment : D → ℕ)
    (left_since : D → ℕ → List ℕ → Type 0) (remaining : R → Option (List ℕ)) (contents : W → Option (List ℕ))
    (heard : E → Option (List ℕ)) (refuses : E → List ℕ → E → Type 0) (old new : Streams R W E)
    (before after : Server D B g) → Type 0
ServesLines seen may_leave moment left_since remaining contents heard refuses old new before after =
    ServesAll (TellsAll heard refuses old.errors new.errors)
    (Leaves seen may_leave moment left_since (kept_by before.node.durable.machine) before.node.durable.disk
    after.node.durable.disk old.given new.given)
    (io_on seen remaining contents old before) (io_on seen remaining contents new after)

-- or not all, for this
abbrev pub Ceases : {D R W E B : Type 0} {g : Ghosts D} (seen : D → List ℕ) (may_leave : D → List ℕ → Type 0)
    (moment : D → ℕ)
    (left_since : D → ℕ → List ℕ → Type 0) (remaining : R → Option (List ℕ)) (contents : W → Option (List ℕ))
    (heard : E → Option (List ℕ)) (refuses : E → List ℕ → E → Type 0) (old new : Streams R W E)
    (before after : Server D B g) → NodeFault → Type 0
Ceases seen may_leave moment left_since remaining contents heard refuses old new before after =
    IsServeRefusal (TellsAll heard refuses old.errors new.errors)
    (Leaves seen may_leave moment left_since (kept_by before.node.durable.machine) before.node.durable.disk
    after.node.durable.disk old.given new.given)
    (io_on seen remaining contents old before) (io_on seen remaining contents new after)
