-- What is said of a line that the journal does not gain.
use Rattle.std.specs.Prelude.{◌≡◌, ◌≢◌, ◌⊎◌, ◌≤◌, ◌<◌, ⊤, ℕ, ◌==◌, nat_le, Bool, true, false, List, [], ◌++◌}
use Rattle.std.specs.Prelude.{filter, codes, IsSome}
use Rattle.std.specs.Prelude.{length, Option, Some, None, slice_get, if◌then◌else◌}
use Rattle.std.specs.Option.{is_some}
use Rattle.la_set.specs.declared.counts.Counts.{Counts}
use Rattle.la_set.specs.declared.tags.TheConstants.{MAX_TAGS}
use Rattle.la_set.specs.declared.update.Op.{Op}
use Rattle.la_set.specs.declared.update.Op.TheVariants as op
use Rattle.la_set.specs.declared.update.Update.{Update}
use Rattle.la_set.specs.declared.update.UpdateId.{UpdateId}
use Rattle.la_set.specs.Counts.{from_counts}
use Rattle.la_set.specs.Histories.{Histories, history, count, get}
use Rattle.la_set.specs.ObjectOps.{ObjectOp}
use Rattle.la_own.specs.Own.{own_bytes_of}
use Rattle.la_proposer.specs.ProposerState.{op_on, submitted}
use Rattle.la_commit.specs.declared.outcome.Outcome.{Outcome}
use Rattle.la_object.specs.declared.error.ShelfError.{ShelfError}
use Rattle.la_object.specs.declared.error.ShelfError.TheVariants.{NoSuchObject, TooManyTags, Memory, Taken, NotFresh}
use Rattle.la_object.specs.declared.kind.Kind.{Kind}
use Rattle.la_object.specs.declared.query.Query.{Query}
use Rattle.la_object.specs.declared.query.Query.TheVariants as query
use Rattle.la_object.specs.declared.query.Answer.{Answer}
use Rattle.la_object.specs.Objects.{is_of_kind}
use Rattle.la_object.specs.Shelves.{ShelfState, kind_at, answer_at, tags_at}
use Rattle.la_replica.specs.declared.instance.Instance.{Instance}
use Rattle.la_replica.specs.declared.message.Message as code
use Rattle.la_replica.specs.Whole.{whole_mail}
use Rattle.la_replica.specs.Again.{again}
use Rattle.la_replica.specs.Bases.{AreToldIn}
use Rattle.la_replica.specs.Progress.{progress_of}
use Rattle.la_replica.specs.ReplicaState.{ReplicaState}
use Rattle.la_node.specs.declared.link.Links.{Links}
use Rattle.la_node.specs.declared.link.Sending.{Sending}
use Rattle.la_node.specs.Links.{letters_sent, noted_all, standing_of, wants_standing}
use Rattle.la_node.specs.Nodes.{returned_by}
use Rattle.la_wire.specs.declared.questions.Question.{Question}
use Rattle.la_wire.specs.declared.questions.Question.TheVariants.{Tags, Updates, Update as UpdateOf, Status}
use Rattle.la_wire.specs.declared.status.NodeStatus.{NodeStatus}
use Rattle.la_wire.specs.declared.status.Tally.{Tally}
use Rattle.la_wire.specs.Calls.{WireCall, Submit, Decide, Ask, Tick, Receive, Known}
use Rattle.la_wire.specs.Messages.{WireMessage}
use Rattle.la_wire.specs.Notes.{answered_note, refused_note, submitted_note, proposed_note, outcome_note, letters_text}
use Rattle.la_wire.specs.Notes.{known_line, tags_note, update_note, updates_note, waiting_note}
use Rattle.la_wire.specs.Status.{status_note}
use Rattle.la_durable.specs.Nodes.{parcel_of}
use Rattle.la_serve.specs.declared.said.Said.{Said}
use Rattle.la_serve.specs.declared.said.Said.TheVariants as said
use Rattle.la_serve.specs.declared.said.Why.{Why}
use Rattle.la_serve.specs.declared.said.Why.TheVariants as why
use Rattle.la_serve.specs.Heard.{HeardLine}
use Rattle.la_serve.specs.Numbered.{submission_under, is_next_number, proposal_by}

abbrev pub why_word : Why → List ℕ
why_word why.NoSuchObject = codes "NoSuchObject"
why_word why.Foreign = codes "Foreign"
why_word why.Stale = codes "Stale"
why_word why.Gap = codes "Gap"
why_word why.TooManyTags = codes "TooManyTags"
why_word why.Memory = codes "Memory"

-- what is written, of line k, a request of this name
abbrev pub said_text : (own k : ℕ) → (name : List ℕ) → Said → List ℕ
said_text own k name (said.Lines text) = text.items
said_text own k name (said.Refused w) = refused_note own k (why_word w) name

-- a text of which this holds; or there was no memory for it
abbrev pub IsSaidText : (List ℕ → Type 0) → Said → Type 0
IsSaidText Is (said.Lines text) = Is text.items
IsSaidText Is (said.Refused w) = w ≡ why.Memory

-- ## Questions

-- what a shelf of such objects is asked by a node's view
abbrev pub shelf_by : List (ℕ × Kind) → ReplicaState → ShelfState
shelf_by objects n = record { view = n.view; objects = objects }

-- an object's answer, or that there is no such object; `Memory` is told only of one that is there
abbrev pub IsSaidAnswer : (own object : ℕ) → (name : List ℕ) → Option Answer → Said → Type 0
IsSaidAnswer own object name o (said.Lines text) =
    (answer : Answer) × (o ≡ Some answer) × (text.items ≡ answered_note own object answer name)
IsSaidAnswer own object name o (said.Refused w) =
    ((w ≡ why.NoSuchObject) × (o ≡ None)) ⊎ ((w ≡ why.Memory) × IsSome o)

-- the live tags of an element, where they are no more than a remove may name
abbrev pub IsSaidTags : (own object : ℕ) → (name : List ℕ) → Option (List UpdateId) → Said → Type 0
IsSaidTags own object name o (said.Lines text) =
    (tags : List UpdateId) × (o ≡ Some tags) × (length tags ≤ MAX_TAGS) × (text.items ≡ tags_note own object tags name)
IsSaidTags own object name o (said.Refused w) =
    ((w ≡ why.NoSuchObject) × (o ≡ None))
    ⊎ (((w ≡ why.TooManyTags) × ((tags : List UpdateId) × (o ≡ Some tags) × (MAX_TAGS < length tags)))
    ⊎ ((w ≡ why.Memory) × IsSome o))

-- why no tags are told
abbrev pub IsUntagged : Option (List UpdateId) → ShelfError → Type 0
IsUntagged o NoSuchObject = o ≡ None
IsUntagged o TooManyTags = (tags : List UpdateId) × (o ≡ Some tags) × (MAX_TAGS < length tags)
IsUntagged o Memory = IsSome o
IsUntagged o Taken = ⊥
IsUntagged o NotFresh = ⊥

-- how many updates of an object a set has, of each replica
abbrev pub count_of : Histories → (object replica : ℕ) → ℕ
count_of view object r = length (filter (λ (d : ObjectOp). d.object == object) (history view r))

abbrev pub object_counts : Histories → (object : ℕ) → Counts
object_counts view object = from_counts (count_of view object)

-- a set has this update
abbrev pub is_there : Histories → UpdateId → Bool
is_there view id = nat_le id.number (count view id.replica)

-- the update that a question waits for, where a view has it not
abbrev pub still_awaited : Histories → Option UpdateId → Option UpdateId
still_awaited view None = None
still_awaited view (Some id) = if is_there view id then None else Some id

abbrev pub IsSaidUnless : ReplicaState → (name : List ℕ) → (awaited : Option UpdateId) → (Said → Type 0) → Said
    → Type 0
IsSaidUnless n name None Is s = Is s
IsSaidUnless n name (Some id) Is s = IsSaidText (λ text. text ≡ waiting_note n.own id name) s

-- what answers a question, once the view has the update that it waits for; until then, that it waits
abbrev pub IsSaidAfter : ReplicaState → (name : List ℕ) → (after : Option UpdateId) → (Said → Type 0) → Said → Type 0
IsSaidAfter n name after Is s = IsSaidUnless n name (still_awaited n.view after) Is s

-- what is said to a question that is a call
abbrev pub IsSaidToAsk : List (ℕ × Kind) → ReplicaState → (name : List ℕ) → (after : Option UpdateId) → (object : ℕ)
    → Query → Said → Type 0
IsSaidToAsk objects n name after object query s =
    IsSaidAfter n name after (IsSaidAnswer n.own object name (answer_at (shelf_by objects n) object query)) s

-- ## How a node stands

abbrev pub status_by : ReplicaState → Links → Tally → Option Instance → NodeStatus
status_by n known tally None = record {
  own = n.own;
  replicas = length n.votes;
  progress = progress_of n;
  submitted = 0;
  waiting = 0;
  ballot = 0;
  asking = false;
  known = known;
  tally = tally;
}
status_by n known tally (Some x) = record {
  own = n.own;
  replicas = length n.votes;
  progress = progress_of n;
  submitted = submitted x.proposer;
  waiting = length x.proposer.waiting;
  ballot = if x.proposer.is_asking then x.proposer.number else 0;
  asking = x.proposer.is_asking;
  known = known;
  tally = tally;
}

-- by its instance 0, and by what its process counted
abbrev pub told_status : ReplicaState → Links → Tally → NodeStatus
told_status n known tally = status_by n known tally (slice_get n.instances 0)

abbrev pub node_version : List ℕ
node_version = codes "0.5.0"

-- what its process counted is not told apart from other counts
abbrev pub IsSaidStatus : ReplicaState → (known : Links) → (name : List ℕ) → Said → Type 0
IsSaidStatus n known name s =
    IsSaidText (λ text. (tally : Tally) × (text ≡ status_note (told_status n known tally) node_version name)) s

-- whom a question is for
abbrev pub asks_of : Question → ℕ
asks_of (Tags replica object element) = replica
asks_of (Updates replica object) = replica
asks_of (UpdateOf replica id) = replica
asks_of (Status replica) = replica

-- the update that an id has, or that it is waited for
abbrev pub update_told : (own : ℕ) → (id : UpdateId) → (name : List ℕ) → Option Update → List ℕ
update_told own id name None = waiting_note own id name
update_told own id name (Some u) = update_note own u name

-- what is said to a question that is no call
abbrev pub IsSaidToQuestion : List (ℕ × Kind) → ReplicaState → (known : Links) → HeardLine → Question → Said → Type 0
IsSaidToQuestion objects n known h (Tags replica object element) s =
    IsSaidAfter n h.name h.after
    (IsSaidTags n.own object h.name (tags_at (shelf_by objects n) object element)) s
IsSaidToQuestion objects n known h (Updates replica object) s =
    IsSaidAfter n h.name h.after
    (IsSaidText (λ text. text ≡ updates_note n.own object (object_counts n.view object) h.name)) s
IsSaidToQuestion objects n known h (UpdateOf replica id) s =
    IsSaidText (λ text. text ≡ update_told n.own id h.name (get n.view id)) s
IsSaidToQuestion objects n known h (Status replica) s = IsSaidStatus n known h.name s

-- ## Ticks and messages

-- of what waits for an answer some, once more, as letters over these links, which note them; or there was no memory,
-- and then nothing is noted
abbrev pub IsSaidAgain : (over before : Links) → ReplicaState → Sending → Said → (after : Links) → Type 0
IsSaidAgain over before n reason (said.Lines text) after =
    (mail : List code.Message) × (whole_mail mail ≡ again n) × ((offered : Counts) → AreToldIn n offered mail)
    × (text.items ≡ letters_text (letters_sent over n reason mail))
    × (after ≡ noted_all over (letters_sent over n reason mail))
IsSaidAgain over before n reason (said.Refused w) after = (w ≡ why.Memory) × (after ≡ before)

-- a message over more than this node has, or that brings no news
abbrev pub is_idle : ReplicaState → WireMessage → Bool
is_idle n m = wants_standing n (parcel_of m)

-- it is answered by how far this node is, so that what is lacking is sent, and no more than that
abbrev pub IsSaidOfMessage : ReplicaState → WireMessage → Option Said → Type 0
IsSaidOfMessage n m None = is_idle n m ≡ false
IsSaidOfMessage n m (Some s) =
    (is_idle n m ≡ true) × IsSaidText (λ text. text ≡ known_line (standing_of n (parcel_of m))) s

-- ## Submissions

-- an object of a kind takes its own operations, and marks
abbrev pub object_takes : Kind → Op → Bool
object_takes kind op.Mark = true
object_takes kind does = is_of_kind kind does

-- by what an object of a kind that takes an operation can be asked
abbrev pub query_for : Op → Option Query
query_for (op.Inc by) = Some query.Total
query_for (op.Dec by) = Some query.Total
query_for (op.Raise to) = Some query.Largest
query_for (op.Put element) = Some query.Size
query_for (op.Remove tags) = Some query.Size
query_for op.Mark = None
query_for (op.Vote value sole) = None

-- why an operation is none of an object's on the shelf
abbrev pub unfit_here : Option Kind → Op → Option Why
unfit_here None does = Some why.NoSuchObject
unfit_here (Some kind) does = if object_takes kind does then None else Some why.Foreign

-- one of one's own goes to a number under which the shelf has none: objects of such types stand elsewhere
abbrev pub unfit_own : Option Kind → Option Why
unfit_own None = None
unfit_own (Some kind) = Some why.Foreign

-- why an operation is none of an object's
abbrev pub unfit : Option Kind → Op → Option Why
unfit there does = if is_some (own_bytes_of does) then unfit_own there else unfit_here there does

-- that a submission was done under this number, or that another was, or none
abbrev pub IsSaidNumbered : (own number : ℕ) → (name : List ℕ) → ObjectOp → Option ObjectOp → Said → Type 0
IsSaidNumbered own number name d o (said.Lines text) = (o ≡ Some d) × (text.items ≡ submitted_note own number name)
IsSaidNumbered own number name d o (said.Refused w) =
    ((w ≡ why.Stale) × ((e : ObjectOp) × (o ≡ Some e) × (e ≢ d)))
    ⊎ (((w ≡ why.Gap) × (o ≡ None)) ⊎ ((w ≡ why.Memory) × (o ≡ Some d)))

-- under a number that is not the next, by what was submitted under it: this very one, another, or nothing
abbrev pub IsSaidUnder : ReplicaState → (name : List ℕ) → ObjectOp → (asked : Option ℕ) → Option Said → Type 0
IsSaidUnder n name d None None = ⊤
IsSaidUnder n name d None (Some s) = ⊥
IsSaidUnder n name d (Some number) None = is_next_number n number ≡ true
IsSaidUnder n name d (Some number) (Some s) =
    (is_next_number n number ≡ false) × IsSaidNumbered n.own number name d (submission_under n number) s

-- an operation that the object does not take is refused
abbrev pub IsSaidUnlessFit : Option Why → ReplicaState → HeardLine → ObjectOp → Option Said → Type 0
IsSaidUnlessFit (Some w) n h d o = o ≡ Some (said.Refused w)
IsSaidUnlessFit None n h d o = IsSaidUnder n h.name d h.number o

abbrev pub IsSaidOfSubmission : List (ℕ × Kind) → ReplicaState → HeardLine → ObjectOp → Option Said → Type 0
IsSaidOfSubmission objects n h d o = IsSaidUnlessFit (unfit (kind_at objects d.object) d.op) n h d o

-- ## Proposals

abbrev pub is_vote_for : (value : ℕ) → Op → Bool
is_vote_for value (op.Vote v sole) = v == value
is_vote_for value _ = false

-- this value is what was proposed
abbrev pub is_this_value : (value : ℕ) → Option ObjectOp → Bool
is_this_value value None = false
is_this_value value (Some d) = is_vote_for value d.op

abbrev pub returned_text : (own commit : ℕ) → Option Outcome → List ℕ
returned_text own commit None = []
returned_text own commit (Some o) = outcome_note own commit o

-- the value under way, once more: that it is proposed, and what came of it, where it is known
abbrev pub IsSaidOfProposal : ReplicaState → (name : List ℕ) → (commit value : ℕ) → Option Said → Type 0
IsSaidOfProposal n name commit value None = is_this_value value (proposal_by n commit) ≡ false
IsSaidOfProposal n name commit value (Some s) =
    (is_this_value value (proposal_by n commit) ≡ true)
    × IsSaidText
    (λ text. text ≡ proposed_note n.own commit name ++ returned_text n.own commit (returned_by commit n)) s

-- ## Calls

-- a call that may be taken
abbrev pub may_be_taken : WireCall → Bool
may_be_taken (Submit replica object does) = true
may_be_taken (Decide replica commit value) = true
may_be_taken (Ask replica object query) = false
may_be_taken Tick = false
may_be_taken (Receive m) = true
may_be_taken (Known standing) = false

-- What is said of a call instead of taking it, if anything is. A tick sends letters, and of what is known of others
-- nothing is said.
abbrev pub IsSaidHere : List (ℕ × Kind) → ReplicaState → HeardLine → WireCall → Option Said → Type 0
IsSaidHere objects n h (Submit replica object does) o = IsSaidOfSubmission objects n h (op_on object does) o
IsSaidHere objects n h (Decide replica commit value) o = IsSaidOfProposal n h.name commit value o
IsSaidHere objects n h (Ask replica object query) None = ⊥
IsSaidHere objects n h (Ask replica object query) (Some s) = IsSaidToAsk objects n h.name h.after object query s
IsSaidHere objects n h Tick o = o ≡ None
IsSaidHere objects n h (Receive m) o = IsSaidOfMessage n m o
IsSaidHere objects n h (Known standing) o = o ≡ None
