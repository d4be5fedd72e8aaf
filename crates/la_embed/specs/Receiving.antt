-- What a host makes of a line from another replica.
use Rattle.std.specs.Prelude.{◌≡◌, ◌⊎◌, ℕ, ◌==◌, Bool, true, false, ◌&&◌, List, [], ◌∷◌, Ok, Err, Result}
use Rattle.std.specs.Prelude.{length, drop}
use Rattle.std.specs.Prelude.{Option, Some, None, if◌then◌else◌}
use Rattle.la_replica.specs.ReplicaState.{ReplicaState}
use Rattle.la_node.specs.declared.link.Letter.{Letter}
use Rattle.la_node.specs.declared.link.Links.{Links}
use Rattle.la_node.specs.declared.link.Standing.{Standing}
use Rattle.la_node.specs.Links.{answered_with, known_with, standing_of, wants_standing}
use Rattle.la_wire.specs.declared.error.LineFault.{LineFault}
use Rattle.la_wire.specs.Calls.{WireCall, Submit, Decide, Ask, Tick, Receive, Known}
use Rattle.la_wire.specs.CallLines.{bounded_call_of, may_stand}
use Rattle.la_wire.specs.Messages.{letter_message}
use Rattle.la_wire.specs.MessageLines.{message_text}
use Rattle.la_wire.specs.Writable.{IsTypedMessage}
use Rattle.la_durable.specs.Errors.{RefusesLetter}
use Rattle.la_durable.specs.declared.error.NodeError.{NodeError}
use Rattle.la_durable.specs.declared.error.NodeError.TheVariants.{Elsewhere}
use Rattle.la_embed.specs.declared.error.HostError.{HostError}
use Rattle.la_embed.specs.declared.error.HostError.TheVariants.{Line, NoMessage, Node, Memory}
use Rattle.la_embed.specs.declared.outgoing.Outgoing.{Outgoing}
use Rattle.la_embed.specs.declared.outgoing.Outgoing.TheVariants as out
use Rattle.la_embed.specs.Journals.{IsRefusedOver}
use Rattle.la_embed.specs.Hosts.{HostState, TakesCall, IsToldBack, IsMended, with_links, with_mail, with_noted}
use Rattle.la_embed.specs.Hosts.{with_lost, lost_once}
use Rattle.la_embed.specs.Refusals.{host_error_of_node}

-- ## What a host makes of it

-- for this replica of this group
abbrev pub is_for_host : ReplicaState → (replicas to : ℕ) → Bool
is_for_host kept replicas to = (replicas == length kept.votes) && (to == kept.own)

-- what is known once a letter was heard
abbrev pub links_by : HostState → Letter → Links
links_by before letter = known_with before.links letter.parcel.from letter.progress

-- Another says how far it is: where it lacks what a letter was told over, it is told that.
abbrev pub TakesStanding : HostState → Standing → HostState → Type 0
TakesStanding before s after =
    IsMended before.kept (answered_with before.links s) s.from before.mail after.mail after.links before.lost after.lost
    × (after ≡ with_noted (with_lost before after.lost) after.mail after.links)

-- How far the host is is told to another; what it would tell to itself it takes at once.
abbrev pub AnswersIf : (own : Bool) → HostState → Standing → HostState → Type 0
AnswersIf true before s after = TakesStanding before s after
AnswersIf false before s after =
    IsToldBack s before.mail after.mail before.lost after.lost
    × (after ≡ with_mail (with_lost before after.lost) after.mail)

abbrev pub Answers : HostState → Standing → HostState → Type 0
Answers before s after = AnswersIf (s.to == before.kept.own) before s after

-- A letter over more than the host has, or that brings nothing, is answered by how far the host is. Any other is
-- received.
abbrev pub IsTaken : HostState → Letter → (idle : Bool) → HostState → Type 0
IsTaken before letter true after =
    Answers (with_links before (links_by before letter)) (standing_of before.kept letter.parcel) after
IsTaken before letter false after =
    TakesCall before (links_by before letter) (Receive (letter_message letter)) after

pub record TakesLetter (before : HostState) (letter : Letter) (after : HostState) : Type 0 where
  pub here : is_for_host before.kept letter.replicas letter.parcel.to ≡ true
  pub taken : IsTaken before letter (wants_standing before.kept letter.parcel) after

-- a letter, or how far another is, was read
abbrev pub TakesRead : HostState → Result WireCall LineFault → HostState → Type 0
TakesRead before (Err fault) after = ⊥
TakesRead before (Ok (Receive m)) after = (letter : Letter) × (letter_message letter ≡ m)
    × TakesLetter before letter after
TakesRead before (Ok (Known s)) after =
    (is_for_host before.kept s.replicas s.to ≡ true) × TakesStanding before s after
TakesRead before (Ok (Submit replica object op)) after = ⊥
TakesRead before (Ok (Decide replica commit value)) after = ⊥
TakesRead before (Ok (Ask replica object query)) after = ⊥
TakesRead before (Ok Tick) after = ⊥

abbrev pub TakesHostLine : HostState → (line : List ℕ) → HostState → Type 0
TakesHostLine before line after = TakesRead before (bounded_call_of line) after

-- ## Refusals

-- what a client asks for is no message
abbrev pub is_from_peer : WireCall → Bool
is_from_peer (Receive m) = true
is_from_peer (Known s) = true
is_from_peer _ = false

-- a letter for another, or one that the node refuses, or whose line no journal may have
abbrev pub RefusesHere : HostState → (unsaid : Type 0) → Letter → HostError → Type 0
RefusesHere before unsaid letter e =
    ((is_for_host before.kept letter.replicas letter.parcel.to ≡ false) × (e ≡ Node Elsewhere))
    ⊎ ((is_for_host before.kept letter.replicas letter.parcel.to ≡ true)
    × ((refused : NodeError) × IsRefusedOver before.journal unsaid (RefusesLetter before.kept letter) refused
    × (e ≡ host_error_of_node refused)))

abbrev pub RefusesCall : HostState → (unsaid : Type 0) → WireCall → HostError → Type 0
RefusesCall before unsaid (Receive m) e =
    (letter : Letter) × (letter_message letter ≡ m) × RefusesHere before unsaid letter e
RefusesCall before unsaid (Known s) e = (is_for_host before.kept s.replicas s.to ≡ false) × (e ≡ Node Elsewhere)
RefusesCall before unsaid (Submit replica object op) e = e ≡ NoMessage
RefusesCall before unsaid (Decide replica commit value) e = e ≡ NoMessage
RefusesCall before unsaid (Ask replica object query) e = e ≡ NoMessage
RefusesCall before unsaid Tick e = e ≡ NoMessage

abbrev pub RefusesRead : HostState → (unsaid : Type 0) → Result WireCall LineFault → HostError → Type 0
RefusesRead before unsaid (Err fault) e = (e ≡ Line fault) ⊎ (e ≡ Memory)
RefusesRead before unsaid (Ok call) e = RefusesCall before unsaid call e ⊎ (e ≡ Memory)

abbrev pub IsLineRefusal : HostState → (line : List ℕ) → HostError → Type 0
IsLineRefusal before line e = RefusesRead before (may_stand line ≡ false) (bounded_call_of line) e

-- ## What it sends to itself

-- the letter that waits first, where it is for this replica itself
abbrev pub letter_to_own : ReplicaState → Outgoing → Option Letter
letter_to_own kept (out.Letter letter) = if letter.parcel.to == kept.own then Some letter else None
letter_to_own kept (out.Standing standing) = None

abbrev pub own_first : ReplicaState → List Outgoing → Option Letter
own_first kept [] = None
own_first kept (first ∷ mail) = letter_to_own kept first

-- it is received by the line that is put of it
abbrev pub TakesByLine : HostState → Letter → HostState → Type 0
TakesByLine before letter after =
    IsTypedMessage (letter_message letter) × TakesHostLine before (message_text (letter_message letter)) after

-- it is taken from what waits, and received, by its line where there is a journal, or lost, which is counted
abbrev pub BringsOwn : HostState → Option Letter → (brought : Bool) → HostState → Type 0
BringsOwn before None brought after = (brought ≡ false) × (after ≡ before)
BringsOwn before (Some letter) brought after =
    (brought ≡ true) × (let left = with_mail before (drop 1 before.mail) in
    TakesLetter left letter after ⊎ TakesByLine left letter after ⊎ (after ≡ with_lost left (lost_once left.lost)))
