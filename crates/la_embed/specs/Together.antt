-- Hosts of a group, together, over a transport that brings any line which any of them put: late, again, in any order,
-- or never.
use Rattle.std.specs.Prelude.{◌≡◌, ⊤, ℕ, List, [], ◌∷◌, ◌++◌, Bool, map, slice_get, slice_set, Contains, Some}
use Rattle.la_replica.specs.ReplicaState.{ReplicaState}
use Rattle.la_replica.specs.Steps.{learnt_in}
use Rattle.la_node.specs.declared.config.Config.{Config}
use Rattle.la_node.specs.declared.link.Letter.{Letter}
use Rattle.la_node.specs.declared.link.Links.{Links}
use Rattle.la_node.specs.Calls.{NodeCall, Submitted, Proposed, Received}
use Rattle.la_node.specs.Configs.{IsConfig}
use Rattle.la_node.specs.Links.{letters_of}
use Rattle.la_node.specs.Steps.{Given}
use Rattle.la_wire.specs.Messages.{WireMessage, letter_message}
use Rattle.la_wire.specs.MessageLines.{message_text}
use Rattle.la_wire.specs.Calls.{WireCall, Receive}
use Rattle.la_wire.specs.CallLines.{named_call}
use Rattle.la_wire.specs.Writable.{IsTypedMessage}
use Rattle.la_journal.specs.Machine.{LeadsToSome}
use Rattle.la_durable.specs.CallLines.{CallLine}
use Rattle.la_durable.specs.Nodes.{node_call, step}
use Rattle.la_durable.specs.Restarts.{leads_from, IsCallOf}
use Rattle.la_world.specs.Calls.{replica_states_at_start}
use Rattle.la_world.specs.LiveGroups.{LearntSet, learnt_set}
use Rattle.la_world.specs.Moments.{GroupMoment, MomentsKeepAll, EventsKeepAll}
use Rattle.la_world.specs.Together.{AreTogether}
use Rattle.la_embed.specs.declared.outgoing.Outgoing.{Outgoing}
use Rattle.la_embed.specs.declared.outgoing.Outgoing.TheVariants as out
use Rattle.la_embed.specs.Hosts.{HostState, IsHostStep, IsPostedAgain, host_of, with_noted}
use Rattle.la_embed.specs.Receiving.{TakesHostLine, BringsOwn, own_first}

-- ## What they are

-- what they keep
abbrev pub kept_of_hosts : List HostState → List ReplicaState
kept_of_hosts hosts = map (λ (h : HostState). h.kept) hosts

-- this letter waits to be sent
abbrev pub IsWaiting : Letter → HostState → Type 0
IsWaiting letter h = Contains h.mail (out.Letter letter)

-- The hosts of a group of this config, from replica 0 on, the calls that any of them took, the newest first, the
-- letters that any of them may be said to have sent, and the sets that any of them has learnt: all by one group, whose
-- promises hold of them.
pub record AreHostsTogether (c : Config) (calls : List (ℕ × NodeCall)) (hosts : List HostState) (letters : List Letter)
    (learnt : List LearntSet) : Type 0 where
  pub together : AreTogether c calls (kept_of_hosts hosts) letters learnt
  -- each is the replica of its place
  pub places : (r : ℕ) (h : HostState) → slice_get hosts r ≡ Some h → h.kept.own ≡ r
  -- whatever letter can be pulled from one of them was sent
  pub sent : (r : ℕ) (h : HostState) (letter : Letter) →
      slice_get hosts r ≡ Some h → IsWaiting letter h → Contains letters letter

-- calls of replica r alone, of which this holds
abbrev pub AreCallsOfHost : (r : ℕ) → (NodeCall → Type 0) → List (ℕ × NodeCall) → Type 0
AreCallsOfHost r Is more = (x : ℕ × NodeCall) → Contains more x → (x.0 ≡ r) × Is x.1

-- a call that is a message: nothing was submitted or proposed by it
abbrev pub IsReceipt : NodeCall → Type 0
IsReceipt (Received m) = ⊤
IsReceipt (Submitted d) = ⊥
IsReceipt (Proposed k value) = ⊥

-- no call at all
abbrev pub IsNoCall : NodeCall → Type 0
IsNoCall call = ⊥

-- Hosts are together once replica r is this one, which took some calls of this kind meanwhile: with some letters more
-- and some sets more.
pub record AreStillTogether (c : Config) (calls : List (ℕ × NodeCall)) (hosts : List HostState)
    (letters : List Letter) (learnt : List LearntSet) (r : ℕ) (Is : NodeCall → Type 0) (after : HostState)
    : Type 0 where
  pub newer : List (ℕ × NodeCall)
  pub of_host : AreCallsOfHost r Is newer
  pub more : List Letter
  pub said : List LearntSet
  pub together :
      AreHostsTogether c (newer ++ calls) (slice_set hosts r after) (letters ++ more) (learnt ++ said)

-- ## What they may be handed

-- the line that was put of a letter, whose numbers have the ranges of their types, as `Outgoing::put` ensures of each
pub record IsPutLine (letter : Letter) (line : List ℕ) : Type 0 where
  pub typed : IsTypedMessage (letter_message letter)
  pub text : line ≡ message_text (letter_message letter)

-- A line that replica r may be handed: where it is a message to that one, it is byte by byte the line of one of these
-- letters. Any other it may be handed: what tells how far another is, be it so or not, and what says nothing.
abbrev pub IsLineOfSent : List Letter → (r : ℕ) → (line : List ℕ) → Type 0
IsLineOfSent letters r line =
    (m : WireMessage) → named_call line ≡ Some (Receive m) → m.to ≡ r →
    (letter : Letter) × Contains letters letter × IsPutLine letter line

-- what it receives says what one of these letters says; its own calls are free
abbrev pub IsCallOfSent : List Letter → WireCall → Type 0
IsCallOfSent letters (Receive m) = (letter : Letter) × Contains letters letter × (letter_message letter ≡ m)
IsCallOfSent letters _ = Unit {0}

-- so of each call that these lines say
abbrev pub AreLinesOfSent : List Letter → List CallLine → Type 0
AreLinesOfSent letters lines =
    (c : CallLine) → Contains lines c → (call : WireCall) → named_call c.line ≡ Some call → IsCallOfSent letters call

-- what replica r learnt by a call
abbrev pub learnt_by_host : (r : ℕ) → WireCall → Given → List LearntSet
learnt_by_host r (Receive m) given = learnt_set m.instance r (learnt_in given.said)
learnt_by_host r _ given = []

-- ## They stay together

-- when nothing has happened
abbrev pub NewHostsAreTogether : Type 0
NewHostsAreTogether =
    (c : Config) → IsConfig c → AreHostsTogether c [] (map host_of (replica_states_at_start c)) [] []

-- After a step of one of them, with all the letters of the step, and its call. Where its mail was lost for want of
-- memory, or stays since its receiver is not heard, these letters are as good as sent and lost on their way.
abbrev pub StepsKeepHostsTogether : Type 0
StepsKeepHostsTogether =
    (c : Config) (calls : List (ℕ × NodeCall)) (hosts : List HostState) (letters : List Letter)
    (learnt : List LearntSet) (r : ℕ) (before after : HostState) (heard : Links) (call : WireCall) (given : Given) →
    AreHostsTogether c calls hosts letters learnt → slice_get hosts r ≡ Some before → IsCallOfSent letters call →
    IsHostStep before heard call given after →
    (action : NodeCall) × (node_call before.kept call ≡ Some action)
    × AreHostsTogether c ((r, action) ∷ calls) (slice_set hosts r after)
    (letters ++ letters_of heard after.kept given.mail) (learnt ++ learnt_by_host r call given)

-- after whatever one of them makes of a line
abbrev pub LinesKeepHostsTogether : Type 0
LinesKeepHostsTogether =
    (c : Config) (calls : List (ℕ × NodeCall)) (hosts : List HostState) (letters : List Letter)
    (learnt : List LearntSet) (r : ℕ) (before after : HostState) (line : List ℕ) →
    AreHostsTogether c calls hosts letters learnt → slice_get hosts r ≡ Some before → IsLineOfSent letters r line →
    TakesHostLine before line after →
    AreStillTogether c calls hosts letters learnt r IsReceipt after

-- after one of them has taken what it sends to itself
abbrev pub OwnMailKeepsHostsTogether : Type 0
OwnMailKeepsHostsTogether =
    (c : Config) (calls : List (ℕ × NodeCall)) (hosts : List HostState) (letters : List Letter)
    (learnt : List LearntSet) (r : ℕ) (before after : HostState) (brought : Bool) →
    AreHostsTogether c calls hosts letters learnt → slice_get hosts r ≡ Some before →
    BringsOwn before (own_first before.kept before.mail) brought after →
    AreStillTogether c calls hosts letters learnt r IsReceipt after

-- once one of them has sent again what waits for an answer
abbrev pub RepeatsKeepHostsTogether : Type 0
RepeatsKeepHostsTogether =
    (c : Config) (calls : List (ℕ × NodeCall)) (hosts : List HostState) (letters : List Letter)
    (learnt : List LearntSet) (r : ℕ) (before : HostState) (mail : List Outgoing) (noted : Links) →
    AreHostsTogether c calls hosts letters learnt → slice_get hosts r ≡ Some before →
    IsPostedAgain before mail noted →
    AreStillTogether c calls hosts letters learnt r IsNoCall (with_noted before mail noted)

-- after anything that leaves what one of them keeps, and puts no letter to what waits: so are mail that was sent,
-- updates that were handed on, objects and questions
abbrev pub OthersKeepHostsTogether : Type 0
OthersKeepHostsTogether =
    (c : Config) (calls : List (ℕ × NodeCall)) (hosts : List HostState) (letters : List Letter)
    (learnt : List LearntSet) (r : ℕ) (before after : HostState) →
    AreHostsTogether c calls hosts letters learnt → slice_get hosts r ≡ Some before →
    after.kept ≡ before.kept → ((letter : Letter) → IsWaiting letter after → IsWaiting letter before) →
    AreHostsTogether c calls (slice_set hosts r after) letters learnt

-- a line of these says this call
abbrev pub IsSaidByLines : List CallLine → NodeCall → Type 0
IsSaidByLines lines call = (q : ReplicaState) × IsCallOf lines q call

-- Once one of them has crashed and was made anew. Of its journal a crash left a file that leads on, by the first some
-- of these calls, from what it was when all was last on the disk; what it received among these was sent. It sends
-- nothing of what waited.
abbrev pub RestartsKeepHostsTogether : Type 0
RestartsKeepHostsTogether =
    (c : Config) (calls : List (ℕ × NodeCall)) (hosts : List HostState) (letters : List Letter)
    (learnt : List LearntSet) (r : ℕ) (before after : HostState) (start : ReplicaState) (lines : List CallLine)
    (file : List ℕ) →
    AreHostsTogether c calls hosts letters learnt → slice_get hosts r ≡ Some before → AreLinesOfSent letters lines →
    LeadsToSome (leads_from start) step lines before.kept file → leads_from start file ≡ Some after.kept →
    after.mail ≡ [] →
    AreStillTogether c calls hosts letters learnt r (IsSaidByLines lines) after

-- ## What they keep

-- a moment of hosts
abbrev pub moment_of_hosts : (calls : List (ℕ × NodeCall)) → List HostState → List LearntSet → GroupMoment
moment_of_hosts calls hosts learnt = record { calls = calls; states = kept_of_hosts hosts; learnt = learnt }

-- of hosts after some calls, and after these and more
abbrev pub HostsKeepAll : Type 0
HostsKeepAll =
    (c : Config) (more calls : List (ℕ × NodeCall)) (before after : List HostState) (letters others : List Letter)
    (was is : List LearntSet) →
    AreHostsTogether c calls before letters was → AreHostsTogether c (more ++ calls) after others is →
    MomentsKeepAll c (moment_of_hosts calls before was) (moment_of_hosts (more ++ calls) after is)

-- and at each moment, in every instance
abbrev pub HostsKeepAllOfEvents : Type 0
HostsKeepAllOfEvents =
    (c : Config) (calls : List (ℕ × NodeCall)) (hosts : List HostState) (letters : List Letter)
    (learnt : List LearntSet) →
    AreHostsTogether c calls hosts letters learnt → EventsKeepAll c (moment_of_hosts calls hosts learnt)
