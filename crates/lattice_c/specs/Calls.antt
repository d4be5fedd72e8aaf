-- What a call of C does to a node, and the status that says so.
use Rattle.std.specs.Prelude.{◌≡◌, ◌⊎◌, ⊤, ◌<◌, ℕ, ◌==◌, Bool, true, false, List, [], ◌∷◌, ◌++◌, length, drop}
use Rattle.std.specs.Prelude.{slice_get}
use Rattle.std.specs.Prelude.{Option, Some, None, if◌then◌else◌}
use Rattle.std.specs.Prelude.{ℤ}
use Rattle.la_set.specs.declared.update.Op.{Op}
use Rattle.la_set.specs.declared.update.Op.TheVariants.{Remove}
use Rattle.la_set.specs.declared.update.UpdateId.{UpdateId}
use Rattle.la_own.specs.Own.{own}
use Rattle.la_own.specs.Refusals.{IsOwnRefusal}
use Rattle.la_commit.specs.declared.outcome.Outcome.{Outcome}
use Rattle.la_commit.specs.Outcomes.{value_of, is_commit}
use Rattle.la_object.specs.declared.kind.Kind.{Kind}
use Rattle.la_object.specs.declared.kind.Kind.TheVariants.{Counter, MaxRegister, OrSet}
use Rattle.la_object.specs.declared.query.Answer.{Answer}
use Rattle.la_object.specs.declared.query.Answer.TheVariants as answer
use Rattle.la_object.specs.declared.query.Query.{Query}
use Rattle.la_object.specs.declared.query.Query.TheVariants.{Items}
use Rattle.la_object.specs.Objects.{start}
use Rattle.la_object.specs.Refusals.{IsAddRefusal, IsAskRefusal}
use Rattle.la_object.specs.Shelves.{kind_at, answer_at, tags_at}
use Rattle.la_node.specs.Nodes.{returned_by}
use Rattle.la_wire.specs.Calls.{Submit, Decide}
use Rattle.la_proposer.specs.ProposerState.{op_on}
use Rattle.la_embed.specs.declared.outgoing.Outgoing.{Outgoing}
use Rattle.la_embed.specs.Hosts.{HostState, TakesCall, shelf_now, submitted_by, with_journal, with_mail}
use Rattle.la_embed.specs.Hosts.{with_objects, IsUnseen}
use Rattle.la_embed.specs.Journals.{AllIsKept, MakesRecord, record_in, journal_synced}
use Rattle.la_embed.specs.Numbers.{RefusesToSubmit, RefusesToPropose}
use Rattle.la_embed.specs.Outgoing.{receiver, outgoing_text}
use Rattle.la_embed.specs.Receiving.{BringsOwn, own_first}
use Rattle.lattice_c.specs.Statuses.{EndsSo, status_of_node, status_of_own, status_of_shelf}

-- what the node keeps is told only once it is on the disk; 28 says that it is not yet
abbrev pub WhereKept : HostState → (status : ℕ) → (Same Does : Type 0) → Type 0
WhereKept before status Same Does =
    (AllIsKept before.journal × Does) ⊎ ((AllIsKept before.journal → ⊥) × (status ≡ 28) × Same)

-- ## Submissions

-- after a refusal the node is as before, and no number is told
abbrev pub IsAsBefore : (before after : HostState) → (number told : ℕ) → Type 0
IsAsBefore before after number told = (after ≡ before) × (told ≡ number)

-- it took this submission, and told the update's number
abbrev pub HasSubmitted : HostState → (object : ℕ) → Op → HostState → (told : ℕ) → Type 0
HasSubmitted before object op after told =
    TakesCall before before.links (Submit before.kept.own object op) after × (told ≡ submitted_by after)

-- it was refused
abbrev pub SubmitFails : HostState → (object : ℕ) → Op → (number status told : ℕ) → HostState → Type 0
SubmitFails before object op number status told after =
    IsAsBefore before after number told
    × EndsSo ⊥ (RefusesToSubmit before (op_on object op)) status_of_node status

abbrev pub SubmitsFor : HostState → (object : ℕ) → Op → (number status told : ℕ) → HostState → Type 0
SubmitsFor before object op number status told after =
    ((status ≡ 0) × HasSubmitted before object op after told) ⊎ SubmitFails before object op number status told after

-- an operation of one's own is made first
abbrev pub SubmitsOwn : HostState → (object : ℕ) → (bytes : List ℕ) → (number status told : ℕ) → HostState → Type 0
SubmitsOwn before object bytes number status told after =
    SubmitsFor before object (own bytes) number status told after
    ⊎ (IsAsBefore before after number told × EndsSo ⊥ (IsOwnRefusal bytes) status_of_own status)

-- ## Proposals

abbrev pub Proposes : HostState → (commit value status : ℕ) → HostState → Type 0
Proposes before commit value status after =
    ((status ≡ 0) × TakesCall before before.links (Decide before.kept.own commit value) after)
    ⊎ ((after ≡ before) × EndsSo ⊥ (RefusesToPropose before commit value) status_of_node status)

abbrev pub number_of_bool : Bool → ℕ
number_of_bool true = 1
number_of_bool false = 0

-- what was returned is told; 2 says that nothing was
abbrev pub IsToldOutcome : Option Outcome → (status value committed : ℕ) → Type 0
IsToldOutcome None status value committed = status ≡ 2
IsToldOutcome (Some o) status value committed =
    (status ≡ 0) × (value ≡ value_of o) × (committed ≡ number_of_bool (is_commit o))

abbrev pub TellsOutcome : HostState → (commit status value committed : ℕ) → Type 0
TellsOutcome node commit status value committed =
    WhereKept node status ⊤ (IsToldOutcome (returned_by commit node.kept) status value committed)

-- ## Objects

abbrev pub kind_numbered : ℕ → Option Kind
kind_numbered kind =
    if kind == 0 then Some Counter else if kind == 1 then Some MaxRegister else if kind == 2 then Some OrSet else None

-- an object of a kind is added; 25 says that there is no such kind
abbrev pub AddsObject : HostState → (object : ℕ) → Option Kind → (status : ℕ) → HostState → Type 0
AddsObject before object None status after = (status ≡ 25) × (after ≡ before)
AddsObject before object (Some kind) status after =
    ((status ≡ 0) × (after ≡ with_objects before (record before.shelf {
      objects = before.shelf.objects ++ (object, kind) ∷ [];
    })))
    ⊎ ((after ≡ before) × EndsSo ⊥ (IsAddRefusal (kind_at before.shelf.objects object)
    (start kind)) status_of_shelf status)

-- ## Questions

-- Where an object is asked, and its answer told by a part of it. 4 says that the answer has no such part, as that of
-- another kind has none.
abbrev pub IsAsked : {V : Type 0} → (Answer → Option V) → HostState → (object : ℕ) → Query → (status : ℕ) → (told : V)
    → HostState → Type 0
IsAsked part before object query status told after =
    (after ≡ with_objects before after.shelf)
    × WhereKept before status ⊤
    (((status ≡ 0) × ((answer : Answer) × (answer_at (shelf_now before) object query ≡ Some answer)
    × (part answer ≡ Some told)))
    ⊎ (((status ≡ 4) × ((answer : Answer) × (answer_at (shelf_now before) object query ≡ Some answer)
    × (part answer ≡ None)))
    ⊎ EndsSo ⊥ (IsAskRefusal (kind_at before.shelf.objects object)) status_of_shelf status))

abbrev pub total_in : Answer → Option ℤ
total_in (answer.Total sum) = Some sum
total_in _ = None

abbrev pub reached_in : Answer → Option ℕ
reached_in (answer.Reached b) = Some (number_of_bool b)
reached_in _ = None

abbrev pub largest_in : Answer → Option ℕ
largest_in (answer.Largest value) = Some value
largest_in _ = None

abbrev pub has_in : Answer → Option ℕ
has_in (answer.Has b) = Some (number_of_bool b)
has_in _ = None

abbrev pub size_in : Answer → Option ℕ
size_in (answer.Size count) = Some count
size_in _ = None

abbrev pub items_in : Answer → Option (List ℕ)
items_in (answer.Items items) = Some items
items_in _ = None

-- what is put into a buffer, and what stays of it
abbrev pub filled : (bytes buffer : List ℕ) → List ℕ
filled bytes buffer = bytes ++ drop (length bytes) buffer

-- the elements are told, and put into a buffer where that has room for them; 3 says that it has not
abbrev pub AreFilledIn : (items buffer : List ℕ) → (status len : ℕ) → (given : List ℕ) → Type 0
AreFilledIn items buffer status len given =
    (len ≡ length items)
    × (((status ≡ 0) × (given ≡ filled items buffer))
    ⊎ ((status ≡ 3) × (length buffer < length items) × (given ≡ buffer)))

abbrev pub AsksItems : HostState → (object : ℕ) → (buffer : List ℕ) → (status len : ℕ) → (given : List ℕ) → HostState
    → Type 0
AsksItems before object buffer status len given after =
    (after ≡ with_objects before after.shelf)
    × WhereKept before status (given ≡ buffer)
    (((told : Answer) × (answer_at (shelf_now before) object Items ≡ Some told)
    × ((items : List ℕ) × (items_in told ≡ Some items) × AreFilledIn items buffer status len given))
    ⊎ (((status ≡ 4) × (given ≡ buffer) × ((told : Answer) × (answer_at (shelf_now before) object Items ≡ Some told)
    × (items_in told ≡ None)))
    ⊎ ((given ≡ buffer) × EndsSo ⊥ (IsAskRefusal (kind_at before.shelf.objects object)) status_of_shelf status)))

-- ## Mail

-- these states led from one to another, each by taking in what the node sends itself
abbrev pub AreBrought : List HostState → (before after : HostState) → Type 0
AreBrought [] before after = after ≡ before
AreBrought (last ∷ states) before after =
    AreBrought states before last × BringsOwn last (own_first last.kept last.mail) true after

-- what is handed over of what waits first
abbrev pub IsHandedOver : HostState → Option Outgoing → (buffer : List ℕ) → (status to len : ℕ) → (given : List ℕ)
    → HostState
    → Type 0
IsHandedOver before None buffer status to len given after = (status ≡ 2) × (after ≡ before)
IsHandedOver before (Some first) buffer status to len given after =
    ((status ≡ 0) × (to ≡ receiver first) × (len ≡ length (outgoing_text first))
    × (given ≡ filled (outgoing_text first) buffer)
    × (after ≡ with_mail before (drop 1 before.mail)))
    ⊎ (((status ≡ 3) × (len ≡ length (outgoing_text first)) × (length buffer < len) × (given ≡ buffer)
    × (after ≡ before))
    ⊎ ((status ≡ 1) × (given ≡ buffer) × (after ≡ before)))

-- once the node has taken in what it sends itself
pub record HandsMail (before : HostState) (buffer : List ℕ) (status to len : ℕ) (given : List ℕ) (after : HostState)
    : Type 0 where
  pub settled : HostState
  pub states : List HostState
  pub brought : AreBrought states before settled
  pub handed : WhereKept settled status ((given ≡ buffer) × (after ≡ settled))
      (IsHandedOver settled (slice_get settled.mail 0) buffer status to len given after)

-- ## Records

-- what is handed over of a record
abbrev pub IsHandedOut : (bytes : List ℕ) → (buffer : List ℕ) → (status len : ℕ) → (given : List ℕ) → Type 0
IsHandedOut [] buffer status len given = (status ≡ 2) × (given ≡ buffer)
IsHandedOut (b ∷ bytes) buffer status len given =
    (len ≡ length (b ∷ bytes))
    × (((status ≡ 0) × (given ≡ filled (b ∷ bytes) buffer))
    ⊎ ((status ≡ 3) × (length buffer < length (b ∷ bytes)) × (given ≡ buffer)))

-- it is made once the node has taken in what it sends itself
pub record HandsRecord (before : HostState) (buffer : List ℕ) (status len : ℕ) (given : List ℕ) (after : HostState)
    : Type 0 where
  pub settled : HostState
  pub states : List HostState
  pub brought : AreBrought states before settled
  pub made : MakesRecord settled.journal after.journal
  pub same : after ≡ with_journal settled after.journal
  pub handed : IsHandedOut (record_in after.journal) buffer status len given

-- the record that was handed over is on the disk; 2 says that none was
abbrev pub IsSynced : HostState → (handed : Bool) → (status : ℕ) → HostState → Type 0
IsSynced before true status after = (status ≡ 0) × (after ≡ with_journal before (journal_synced before.journal))
IsSynced before false status after = (status ≡ 2) × (after ≡ before)

-- ## What is taken out

-- An element is taken out by its live tags, which the shelf tells once it has absorbed the view.
pub record Removes (before : HostState) (object element number status told : ℕ) (after : HostState) : Type 0 where
  pub seen : HostState
  pub same : seen ≡ with_objects before seen.shelf
  pub objects : seen.shelf.objects ≡ before.shelf.objects
  pub done : ((tags : List UpdateId) × (tags_at (shelf_now before) object element ≡ Some tags)
      × SubmitsFor seen object (Remove tags) number status told after)
      ⊎ (IsAsBefore seen after number told
      × EndsSo ⊥ (IsUnseen (tags_at (shelf_now before) object element)) status_of_shelf status)
