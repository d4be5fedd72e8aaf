-- Nodes of a group as processes of their own, together, over a transport that brings any line which any of them wrote,
-- late, again, in any order, or never: each may be killed at any moment and started again.
use Rattle.std.specs.Prelude.{◌≡◌, ◌⊎◌, ℕ, List, [], ◌∷◌, ◌++◌, map, slice_get, slice_set, Contains, Some}
use Rattle.la_object.specs.declared.kind.Kind.{Kind}
use Rattle.la_journal.specs.Machine.{LeadsToSome}
use Rattle.la_node.specs.declared.config.Config.{Config}
use Rattle.la_node.specs.declared.link.Letter.{Letter}
use Rattle.la_node.specs.Calls.{NodeCall}
use Rattle.la_node.specs.Configs.{IsConfig}
use Rattle.la_replica.specs.ReplicaState.{ReplicaState}
use Rattle.la_wire.specs.Messages.{WireMessage, letter_message}
use Rattle.la_wire.specs.Calls.{WireCall, Receive}
use Rattle.la_wire.specs.CallLines.{named_call}
use Rattle.la_wire.specs.MessageLines.{message_text}
use Rattle.la_wire.specs.Writable.{IsTypedMessage}
use Rattle.la_durable.specs.CallLines.{CallLine}
use Rattle.la_durable.specs.Nodes.{node_call, step}
use Rattle.la_durable.specs.Restarts.{leads_from, LeadBetween}
use Rattle.la_world.specs.Calls.{replica_states_at_start}
use Rattle.la_world.specs.LiveGroups.{LearntSet}
use Rattle.la_world.specs.Moments.{GroupMoment, MomentsKeepAll, EventsKeepAll}
use Rattle.la_world.specs.Together.{AreTogether, newest_first}
use Rattle.la_serve.specs.Heard.{heard_call}
use Rattle.la_serve.specs.Turns.{ServerState, Turn, IsTurn}
use Rattle.la_serve.specs.Starting.{newly_started}

-- what they keep
abbrev pub kept_of_all : List ServerState → List ReplicaState
kept_of_all nodes = map (λ (n : ServerState). n.kept) nodes

-- The nodes of a group of this config, from replica 0 on, the calls that any of them took, the newest first, the
-- letters that any of them wrote, and the sets that any of them noted as learnt: all by one group, whose promises hold
-- of them (`la_world`'s law `replicas_together_keep_promises`).
pub record AreProcesses (c : Config) (calls : List (ℕ × NodeCall)) (nodes : List ServerState) (letters : List Letter)
    (learnt : List LearntSet) : Type 0 where
  pub together : AreTogether c calls (kept_of_all nodes) letters learnt
  pub own : (r : ℕ) (n : ServerState) → slice_get nodes r ≡ Some n → n.kept.own ≡ r

-- the line that was written of a letter, whose numbers have the ranges of their types, as `put_letter_line` ensures of
-- each that it writes
pub record IsLineOf (letter : Letter) (line : List ℕ) : Type 0 where
  pub typed : IsTypedMessage (letter_message letter)
  pub text : line ≡ message_text (letter_message letter)

-- What replica r may be called for: where it is a message to that one, it is byte by byte the line of one of these
-- letters. Whatever else it is, a client's call or no call at all.
abbrev pub IsHandedCall : List Letter → (r : ℕ) → (line : List ℕ) → Type 0
IsHandedCall letters r line =
    (m : WireMessage) → named_call line ≡ Some (Receive m) → m.to ≡ r →
    (letter : Letter) × Contains letters letter × IsLineOf letter line

-- A line that it may be handed: so is what this calls for, apart from what a client may put around that. A line that
-- takes an element out calls for no message.
abbrev pub IsHandedLine : List Letter → (r : ℕ) → (line : List ℕ) → Type 0
IsHandedLine letters r line = IsHandedCall letters r (heard_call line).call

-- the call that a turn takes: what its line says to the node
pub record IsCallOfTurn (n : ServerState) (t : Turn) (call : NodeCall) : Type 0 where
  pub says : WireCall
  pub named : named_call t.heard.call ≡ Some says
  pub is : node_call n.kept says ≡ Some call

-- the calls that a turn of replica r takes: none, or one
abbrev pub AreCallsOfTurn : (r : ℕ) → ServerState → Turn → List (ℕ × NodeCall) → Type 0
AreCallsOfTurn r n t more = (more ≡ []) ⊎ ((call : NodeCall) × (more ≡ (r, call) ∷ []) × IsCallOfTurn n t call)

-- ## They stay together

-- started for the first time
abbrev pub NewProcessesAreTogether : Type 0
NewProcessesAreTogether =
    (c : Config) (nodes : List ServerState) → IsConfig c →
    kept_of_all nodes ≡ replica_states_at_start c → AreProcesses c [] nodes [] []

-- after whatever one of them makes of a line
abbrev pub TurnsKeepTogether : Type 0
TurnsKeepTogether =
    (c : Config) (calls : List (ℕ × NodeCall)) (nodes : List ServerState) (letters : List Letter)
    (learnt : List LearntSet) (objects : List (ℕ × Kind)) (r k : ℕ) (n : ServerState) (t : Turn) →
    AreProcesses c calls nodes letters learnt → slice_get nodes r ≡ Some n →
    IsTurn objects n k t → IsHandedLine letters r t.heard.line →
    (more : List (ℕ × NodeCall)) × AreCallsOfTurn r n t more
    × AreProcesses c (more ++ calls) (slice_set nodes r t.after) (letters ++ t.sent) (learnt ++ t.learnt)

-- One of them was this when it last gave something out. It was then handed these lines, and killed, and started again
-- on what the crash left: a journal that leads to where the first some of these lines lead
-- (`killed_nodes_go_on` has that of every crash). The calls that these say count as taken.
abbrev pub RestartsKeepTogether : Type 0
RestartsKeepTogether =
    (c : Config) (calls : List (ℕ × NodeCall)) (nodes : List ServerState) (letters : List Letter)
    (learnt : List LearntSet) (r : ℕ) (n : ServerState) (start after : ReplicaState) (handed : List CallLine)
    (file : List ℕ) →
    AreProcesses c calls nodes letters learnt → slice_get nodes r ≡ Some n →
    ((line : CallLine) → Contains handed line → IsHandedCall letters r line.line) →
    LeadsToSome (leads_from start) step handed n.kept file → leads_from start file ≡ Some after →
    (lost : List NodeCall) × LeadBetween handed lost n.kept after
    × AreProcesses c (newest_first r lost ++ calls) (slice_set nodes r (newly_started after)) letters learnt

-- ## What they keep

-- a moment of processes
abbrev pub moment_of_processes : (calls : List (ℕ × NodeCall)) → List ServerState → List LearntSet → GroupMoment
moment_of_processes calls nodes learnt = record { calls = calls; states = kept_of_all nodes; learnt = learnt }

-- of processes after some calls, and after these and more
abbrev pub ProcessesKeepAll : Type 0
ProcessesKeepAll =
    (c : Config) (more calls : List (ℕ × NodeCall)) (before after : List ServerState) (letters others : List Letter)
    (was is : List LearntSet) →
    AreProcesses c calls before letters was → AreProcesses c (more ++ calls) after others is →
    MomentsKeepAll c (moment_of_processes calls before was) (moment_of_processes (more ++ calls) after is)

-- and at each moment, in every instance
abbrev pub ProcessesKeepAllOfEvents : Type 0
ProcessesKeepAllOfEvents =
    (c : Config) (calls : List (ℕ × NodeCall)) (nodes : List ServerState) (letters : List Letter)
    (learnt : List LearntSet) →
    AreProcesses c calls nodes letters learnt → EventsKeepAll c (moment_of_processes calls nodes learnt)
