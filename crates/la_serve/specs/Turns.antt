-- What a line comes to: what is written of it, what the journal gains, and the state after it.
use Rattle.std.specs.Prelude.{◌≡◌, ◌⊎◌, ℕ, ◌-◌, nat_lt, nat_le, ◌==◌, Bool, true, false, not, ◌||◌}
use Rattle.std.specs.Prelude.{List, [], ◌∷◌, ◌++◌, length, Option, Some, None, if◌then◌else◌}
use Rattle.la_set.specs.declared.counts.Counts.{Counts}
use Rattle.la_set.specs.declared.tags.TheConstants.{MAX_TAGS}
use Rattle.la_set.specs.Histories.{Histories, updates}
use Rattle.la_set.specs.Counts.{counts_of}
use Rattle.la_commit.specs.declared.outcome.Outcome.{Outcome}
use Rattle.la_commit.specs.Instances.{commit_of}
use Rattle.la_object.specs.declared.kind.Kind.{Kind}
use Rattle.la_replica.specs.declared.message.Message as code
use Rattle.la_replica.specs.Whole.{whole_mail}
use Rattle.la_replica.specs.Again.{again}
use Rattle.la_replica.specs.Bases.{AreToldIn}
use Rattle.la_replica.specs.Progress.{progress_of}
use Rattle.la_replica.specs.Steps.{learnt_in}
use Rattle.la_replica.specs.ReplicaState.{ReplicaState, submitted_in}
use Rattle.la_io.specs.Limits.{is_too_long}
use Rattle.la_wire.specs.declared.error.LineFault.{LineFault}
use Rattle.la_wire.specs.declared.error.LineFault.TheVariants.{TooLong}
use Rattle.la_wire.specs.declared.error.LineError.TheVariants.{Fault}
use Rattle.la_wire.specs.declared.questions.Question.{Question}
use Rattle.la_wire.specs.declared.questions.Take.{Take}
use Rattle.la_wire.specs.Calls.{WireCall, Submit, Decide, Ask, Tick, Receive, Known}
use Rattle.la_wire.specs.CallLines.{named_call}
use Rattle.la_wire.specs.Questions.{question_in, take_in}
use Rattle.la_durable.specs.declared.error.NodeError.{NodeError}
use Rattle.la_durable.specs.declared.error.NodeError.TheVariants.{Memory}
use Rattle.la_durable.specs.CallLines.{is_line}
use Rattle.la_node.specs.declared.link.Letter.{Letter}
use Rattle.la_node.specs.declared.link.Links.{Links}
use Rattle.la_node.specs.declared.link.Sending.{Sending}
use Rattle.la_node.specs.declared.link.Sending.TheVariants as sending
use Rattle.la_node.specs.declared.link.Standing.{Standing}
use Rattle.la_node.specs.Links.{known_with, answered_with, asked_with, is_lacked, letters_sent, noted_all}
use Rattle.la_node.specs.Steps.{Given, given_of}
use Rattle.la_durable.specs.Nodes.{acts, leaves_be}
use Rattle.la_journal.specs.Staging.{kept_unless}
use Rattle.la_durable.specs.Errors.{IsForMemory}
use Rattle.la_durable.specs.Inputs.{IsInputRefusal}
use Rattle.la_serve.specs.declared.keeping.Kept.{Kept}
use Rattle.la_serve.specs.declared.keeping.Kept.TheVariants as kept
use Rattle.la_serve.specs.declared.said.Said.{Said}
use Rattle.la_serve.specs.declared.said.Said.TheVariants as said
use Rattle.la_serve.specs.declared.said.Why.TheVariants.{TooManyTags}
use Rattle.la_world.specs.LiveGroups.{LearntSet, learnt_set}
use Rattle.la_serve.specs.Names.{refusal_name}
use Rattle.la_wire.specs.Notes.{submitted_note, proposed_note, learnt_note, view_note, outcome_note}
use Rattle.la_wire.specs.Notes.{refused_note, line_fault_line, letters_text}
use Rattle.la_wire.specs.Wrongs.{wrong_of}
use Rattle.la_serve.specs.Heard.{HeardLine, unheard, bare, heard_name, heard_call, heard_take}
use Rattle.la_serve.specs.Said.{said_text, IsSaidHere, IsSaidToQuestion, asks_of}
use Rattle.la_serve.specs.Takes.{taken_tags}

-- what a node stands on as it takes lines: what it keeps, and how far others are, as far as it heard
pub record ServerState : Type 0 where
  pub kept : ReplicaState
  pub known : Links

abbrev pub own_of : ServerState → ℕ
own_of n = n.kept.own

-- ## What is written of a call that is kept

abbrev pub submitted_text : (own : ℕ) → Option ℕ → (name : List ℕ) → List ℕ
submitted_text own None name = []
submitted_text own (Some number) name = submitted_note own number name

-- a submission and a proposal are answered, each by the name of its request
abbrev pub taken_text : (after : ReplicaState) → WireCall → (name : List ℕ) → List ℕ
taken_text after (Submit replica object op) name = submitted_text after.own (submitted_in after 0) name
taken_text after (Decide replica commit value) name = proposed_note after.own commit name
taken_text after (Ask replica object query) name = []
taken_text after Tick name = []
taken_text after (Receive m) name = []
taken_text after (Known standing) name = []

-- what was learnt by a message of an instance and a ballot
abbrev pub learnt_line : (own instance ballot : ℕ) → Option Histories → List ℕ
learnt_line own instance ballot None = []
learnt_line own instance ballot (Some learnt) = learnt_note own instance ballot (counts_of learnt)

-- the view, where it has more updates than before
abbrev pub growth_text : (own before : ℕ) → (view : Histories) → List ℕ
growth_text own before view = if nat_lt before (length (updates view)) then view_note own (counts_of view) else []

-- what is returned from an object, after a message of its second instance
abbrev pub return_text : (own instance : ℕ) → Option Outcome → List ℕ
return_text own instance None = []
return_text own instance (Some o) = outcome_note own (commit_of (instance - 1)) o

-- and what else a message came to: before it the view had so many updates
abbrev pub receipt_text : (before : ℕ) → (after : ReplicaState) → WireCall → Given → List ℕ
receipt_text before after (Receive m) given =
    learnt_line after.own m.instance m.ballot (learnt_in given.said) ++
    growth_text after.own before after.view ++
    return_text after.own m.instance given.outcome
receipt_text before after (Submit replica object op) given = []
receipt_text before after (Decide replica commit value) given = []
receipt_text before after (Ask replica object query) given = []
receipt_text before after Tick given = []
receipt_text before after (Known standing) given = []

-- the sets that it notes as learnt
abbrev pub noted_by : (own : ℕ) → WireCall → Given → List LearntSet
noted_by own (Receive m) given = learnt_set m.instance own (learnt_in given.said)
noted_by own (Submit replica object op) given = []
noted_by own (Decide replica commit value) given = []
noted_by own (Ask replica object query) given = []
noted_by own Tick given = []
noted_by own (Known standing) given = []

-- first the notes, then the messages, in order, each as a letter over what is known of its receiver
abbrev pub call_text : (before : ℕ) → (known : Links) → (after : ReplicaState) → WireCall → (name : List ℕ) → Given
    → List ℕ
call_text before known after call name given =
    taken_text after call name ++ receipt_text before after call given
    ++ letters_text (letters_sent known after sending.Call given.mail)

-- ## Lines that are passed over

-- an empty one, or a note
abbrev pub is_note : List ℕ → Bool
is_note [] = true
is_note (b ∷ bytes) = b == 35

-- a call for another node
abbrev pub is_elsewhere : ReplicaState → WireCall → Bool
is_elsewhere n (Submit replica object op) = not (replica == n.own)
is_elsewhere n (Decide replica commit value) = not (replica == n.own)
is_elsewhere n (Ask replica object query) = not (replica == n.own)
is_elsewhere n Tick = false
is_elsewhere n (Receive m) = not (m.replicas == length n.votes) || not (m.to == n.own)
is_elsewhere n (Known s) = not (s.replicas == length n.votes) || not (s.to == n.own)

-- ## What is heard of others

-- how far another is: in answer to a letter of this node, or of another one
abbrev pub hearing_known : ReplicaState → Links → Standing → Links
hearing_known n known s = if s.to == n.own then answered_with known s else known_with known s.from s.progress

-- how far the replica is that a call comes from, where it is one of this group
abbrev pub known_after : ReplicaState → Links → WireCall → Links
known_after n known (Submit replica object op) = known
known_after n known (Decide replica commit value) = known
known_after n known (Ask replica object query) = known
known_after n known Tick = known
known_after n known (Receive m) =
    if m.replicas == length n.votes then known_with known m.from m.progress else known
known_after n known (Known s) = if s.replicas == length n.votes then hearing_known n known s else known

-- a call by which this replica says how far it is
abbrev pub IsKnownOf : (replica : ℕ) → WireCall → Type 0
IsKnownOf r (Known s) = s.from ≡ r
IsKnownOf r call = ⊥

abbrev pub after_hearing : ServerState → WireCall → ServerState
after_hearing n call = record { kept = n.kept; known = known_after n.kept n.known call }

-- ## A turn

-- what a line comes to
pub record Turn : Type 0 where
  -- the line, as it is heard
  pub heard : HeardLine
  -- what is written of it
  pub text : List ℕ
  -- the letters among that, and the sets that it notes as learnt
  pub sent : List Letter
  pub learnt : List LearntSet
  -- the lines that the journal gains by it: what the line calls for, or none
  pub kept : List (List ℕ)
  -- what is told of it on standard error, line by line
  pub told : List (List ℕ)
  -- what the node stands on after it
  pub after : ServerState

-- only this is written, and nothing changes
abbrev pub only_writes : ServerState → HeardLine → (text : List ℕ) → Turn
only_writes n heard text =
    record { heard = heard; text = text; sent = []; learnt = []; kept = []; told = []; after = n }

-- or only these letters, of which note is taken
abbrev pub only_sends : ServerState → HeardLine → List Letter → (noted : Links) → Turn
only_sends n heard letters noted =
    record {
      heard = heard;
      text = letters_text letters;
      sent = letters;
      learnt = [];
      kept = [];
      told = [];
      after = record { kept = n.kept; known = noted };
    }

-- or this is said, of line k
abbrev pub only_says : ServerState → (k : ℕ) → HeardLine → Said → Turn
only_says n k heard s = only_writes n heard (said_text (own_of n) k heard.name s)

-- line k was refused for this
abbrev pub turn_refused : ServerState → (k : ℕ) → HeardLine → NodeError → Turn
turn_refused n k heard e = only_writes n heard (refused_note (own_of n) k (refusal_name e) heard.name)

-- line k has this fault: it is told, with the part that is wrong, and nothing is written
abbrev pub faulty : ServerState → (k : ℕ) → HeardLine → LineFault → Turn
faulty n k heard fault =
    record {
      heard = heard;
      text = [];
      sent = [];
      learnt = [];
      kept = [];
      told = line_fault_line k fault (wrong_of fault heard.call) heard.name ∷ [];
      after = n;
    }

-- what became of a call that is to be kept: its line is in the journal, if it changed anything; or nothing has changed
abbrev pub IsOutcome : (n after : ReplicaState) (call : WireCall) (line : List ℕ)
    (journal_before journal_after : List (List ℕ)) → Kept → Type 0
IsOutcome n after call line journal_before journal_after (kept.Taken given) =
    (acts n call ≡ Some (given_of given, after))
    × (journal_after ≡ journal_before ++ kept_unless (leaves_be n after call (given_of given)) line)
IsOutcome n after call line journal_before journal_after (kept.Refused why) =
    (IsForMemory why ⊎ (acts n call ≡ None)) × (after ≡ n) × (journal_after ≡ journal_before)

-- letters are noted; or there was no memory to write them
abbrev pub AreNoted : (before : Links) → List Letter → (after : Links) → Type 0
AreNoted before letters after = (after ≡ noted_all before letters) ⊎ (after ≡ before)

-- a call was taken: its line is in the journal, if it changed anything
pub record IsCallTaken (n : ServerState) (call : WireCall) (t : Turn) : Type 0 where
  pub given : Given
  pub acted : acts n.kept call ≡ Some (given, t.after.kept)
  pub known : AreNoted n.known t.sent t.after.known
  pub written : t.text ≡ call_text (length (updates n.kept.view)) n.known t.after.kept call t.heard.name given
  pub sent : t.sent ≡ letters_sent n.known t.after.kept sending.Call given.mail
  pub learnt : t.learnt ≡ noted_by n.kept.own call given
  pub journal : t.kept ≡ kept_unless (leaves_be n.kept t.after.kept call given) t.heard.call
  pub silent : t.told ≡ []

-- or it was refused, and then nothing has changed: where there is memory, exactly where the node has no step
pub record IsRefused (n : ServerState) (k : ℕ) (call : WireCall) (t : Turn) : Type 0 where
  pub why : NodeError
  pub cause : IsForMemory why ⊎ (acts n.kept call ≡ None)
  pub turn : t ≡ turn_refused n k t.heard why

abbrev pub IsKeptTurn : ServerState → (k : ℕ) → WireCall → Turn → Type 0
IsKeptTurn n k call t = IsCallTaken n call t ⊎ IsRefused n k call t

-- nothing changed for want of memory
abbrev pub IsStarved : ServerState → (k : ℕ) → Turn → Type 0
IsStarved n k t = t ≡ turn_refused n k t.heard Memory

-- of what waits for an answer some is sent once more, as letters over these links
pub record IsSentAgain (n : ServerState) (links : Links) (why : Sending) (t : Turn) : Type 0 where
  pub mail : List code.Message
  pub whole : whole_mail mail ≡ again n.kept
  pub over : (offered : Counts) → AreToldIn n.kept offered mail
  pub turn :
      t
      ≡ only_sends n t.heard (letters_sent links n.kept why mail)
      (noted_all links (letters_sent links n.kept why mail))

-- once the timer has run out: who is not heard is asked how far it is
abbrev pub IsTimerTurn : ServerState → Turn → Type 0
IsTimerTurn n t = IsSentAgain n (asked_with n.known (progress_of n.kept)) sending.Timer t

-- once a replica said that it lacks something: that is told anew
abbrev pub IsMendingTurn : ServerState → (replica : ℕ) → Turn → Type 0
IsMendingTurn n r t = IsSentAgain n n.known (sending.Lack r) t

-- one of two
abbrev pub OneOf : Bool → (A B : Type 0) → Type 0
OneOf true A B = A
OneOf false A B = B

-- ## A call

-- something is said of it, or it is taken
abbrev pub IsSaidTurn : ServerState → (k : ℕ) → WireCall → Option Said → Turn → Type 0
IsSaidTurn n k call None t = IsKeptTurn n k call t
IsSaidTurn n k call (Some s) t = t ≡ only_says n k t.heard s

abbrev pub IsAnsweredTurn : List (ℕ × Kind) → ServerState → (k : ℕ) → WireCall → Turn → Type 0
IsAnsweredTurn objects n k call t =
    (o : Option Said) × IsSaidHere objects n.kept t.heard call o × IsSaidTurn n k call o t

abbrev pub IsTurnHere : List (ℕ × Kind) → ServerState → (k : ℕ) → WireCall → Turn → Type 0
IsTurnHere objects n k (Submit replica object op) t = IsAnsweredTurn objects n k (Submit replica object op) t
IsTurnHere objects n k (Decide replica commit value) t = IsAnsweredTurn objects n k (Decide replica commit value) t
IsTurnHere objects n k (Ask replica object query) t = IsAnsweredTurn objects n k (Ask replica object query) t
IsTurnHere objects n k Tick t = IsTimerTurn n t ⊎ IsStarved n k t
IsTurnHere objects n k (Receive m) t = IsAnsweredTurn objects n k (Receive m) t
IsTurnHere objects n k (Known s) t =
    OneOf (is_lacked n.known s.from) (IsMendingTurn n s.from t ⊎ IsStarved n k t) (t ≡ only_writes n t.heard [])

-- a call that is for another node is passed over
abbrev pub IsTurnOf : List (ℕ × Kind) → ServerState → (k : ℕ) → WireCall → Turn → Type 0
IsTurnOf objects n k call t =
    OneOf (is_elsewhere n.kept call) (t ≡ only_writes n t.heard []) (IsTurnHere objects n k call t)

-- first it is heard how far its sender is
abbrev pub IsCallTurn : List (ℕ × Kind) → ServerState → (k : ℕ) → WireCall → Turn → Type 0
IsCallTurn objects n k call t = IsTurnOf objects (after_hearing n call) k call t

-- a line that says a call which a journal may have
pub record SaysCall (objects : List (ℕ × Kind)) (n : ServerState) (k : ℕ) (t : Turn) : Type 0 where
  pub call : WireCall
  pub says : named_call t.heard.call ≡ Some call
  pub stands : is_line t.heard.call ≡ true
  pub turn : IsCallTurn objects n k call t

-- one that has a fault
pub record HasFault (n : ServerState) (k : ℕ) (t : Turn) : Type 0 where
  pub fault : LineFault
  pub is : IsInputRefusal t.heard.call (Fault fault)
  pub turn : t ≡ faulty n k t.heard fault

-- what was heard so
abbrev pub IsHeardTurn : List (ℕ × Kind) → ServerState → (k : ℕ) → HeardLine → Turn → Type 0
IsHeardTurn objects n k heard t = (t.heard ≡ heard) × (SaysCall objects n k t ⊎ HasFault n k t)

-- this is said of a line of which no more than the name is heard
abbrev pub IsSayingTurn : ServerState → (k : ℕ) → (Said → Type 0) → Turn → Type 0
IsSayingTurn n k Is t = (s : Said) × Is s × (t ≡ only_says n k (heard_name t.heard.line) s)

-- ## A question that is no call

-- for this node, or passed over
abbrev pub IsQuestionTurn : List (ℕ × Kind) → ServerState → (k : ℕ) → Question → Turn → Type 0
IsQuestionTurn objects n k q t =
    OneOf (asks_of q == own_of n)
    (IsSayingTurn n k (IsSaidToQuestion objects n.kept n.known (heard_name t.heard.line) q) t)
    (t ≡ only_writes n (heard_name t.heard.line) [])

-- ## What takes an element out

-- as a remove of what is to be taken; where that is too much for one it is refused
abbrev pub IsTakeTurn : List (ℕ × Kind) → ServerState → (k : ℕ) → Take → Turn → Type 0
IsTakeTurn objects n k take t =
    OneOf (nat_le (length (taken_tags objects n.kept take)) MAX_TAGS)
    (IsHeardTurn objects n k (heard_take t.heard.line take (taken_tags objects n.kept take)) t)
    (t ≡ only_says n k (heard_name t.heard.line) (said.Refused TooManyTags))

-- ## A line

abbrev pub IsRequestTurn : List (ℕ × Kind) → ServerState → (k : ℕ) → Option Question → Option Take → Turn → Type 0
IsRequestTurn objects n k (Some q) take t = IsQuestionTurn objects n k q t
IsRequestTurn objects n k None (Some take) t = IsTakeTurn objects n k take t
IsRequestTurn objects n k None None t = IsHeardTurn objects n k (heard_call t.heard.line) t

-- a line that is not too long
abbrev pub IsShortTurn : List (ℕ × Kind) → ServerState → (k : ℕ) → Turn → Type 0
IsShortTurn objects n k t =
    OneOf (is_note t.heard.line) (t ≡ only_writes n (unheard t.heard.line) [])
    (IsRequestTurn objects n k (question_in (bare t.heard.line)) (take_in (bare t.heard.line)) t
    ⊎ (t ≡ turn_refused n k (heard_name t.heard.line) Memory))

-- what line k comes to, where the node keeps this before it: of one that is too long no name is known
unfoldable pub IsTurn : List (ℕ × Kind) → ServerState → (k : ℕ) → Turn → Type 0
IsTurn objects n k t =
    OneOf (is_too_long t.heard.line) (t ≡ faulty n k (unheard t.heard.line) TooLong) (IsShortTurn objects n k t)
