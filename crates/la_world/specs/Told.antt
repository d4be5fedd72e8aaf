-- How what was sent is told: over what its receiver has, as the mail of a node's steps is.
use Rattle.std.specs.Prelude.{◌≡◌, ℕ, true, List, [], ◌∷◌, ◌++◌, map, slice_get, Option, Some, None}
use Rattle.la_set.specs.declared.counts.Counts.{Counts}
use Rattle.la_set.specs.Counts.{counts_of, zero_counts, HasCounts}
use Rattle.la_replica.specs.declared.message.Message as code
use Rattle.la_replica.specs.declared.message.Body as code_body
use Rattle.la_replica.specs.declared.message.Body.TheVariants as body
use Rattle.la_replica.specs.Whole.{Message, set_of, whole_of}
use Rattle.la_replica.specs.Bases.{offered_by}
use Rattle.la_node.specs.Telling.{told_over, base_told}
use Rattle.la_world.specs.Groups.{Group, replicas}
use Rattle.la_world.specs.Events.{Past}
use Rattle.la_world.specs.Trace.{Entry, Trace}
use Rattle.la_world.specs.Sent.{sent_at}
use Rattle.la_world.specs.Acceptors.{accepted_there}
use Rattle.la_world.specs.Ballots.{round}
use Rattle.la_world.specs.Playing.{counts_reply, trace}
use Rattle.la_world.specs.Hearing.{reported_set}

-- the base of a message which was sent by the event that left this trace, and delivered what offers this
abbrev pub base_of : Trace → (offered : Counts) → Message → Counts
base_of t offered m =
    base_told (counts_of (reported_set t m.instance m.from m.to)) offered m.body

abbrev pub offered_to : Option Message → Counts
offered_to None = zero_counts
offered_to (Some m) = offered_by m

-- what an event sent, as it is told
abbrev pub sent_as_told : (n : ℕ) → Entry → Trace → List code.Message
sent_as_told n x t =
    map (λ m. told_over (base_of (x ∷ t) (offered_to x.delivered) m) m) (sent_at n x)

-- all that was sent, as it is told
unfoldable pub told_messages : (n : ℕ) → Trace → List code.Message
told_messages n [] = []
told_messages n (x ∷ t) = told_messages n t ++ sent_as_told n x t

-- ## What its receiver has

-- the set that it was made of has its base; that of an offer lies in what its receiver has accepted,
-- and that of a refusal which counts is what the open ballot's set has
abbrev pub StandsBody : Trace → code.Message → code_body.Body → Type 0
StandsBody t m (body.Offer d) =
    HasCounts (set_of d) d.base × HasCounts (accepted_there t m.instance m.to) d.base
StandsBody t m body.Yes = Unit {0}
StandsBody t m (body.No d) =
    HasCounts (set_of d) d.base
    × (counts_reply t (whole_of m) ≡ true → d.base ≡ counts_of (round t m.instance m.to).updates)
StandsBody t m (body.Tell told_messages) = Unit {0}

-- so it is of all that was sent
abbrev pub ToldMessagesStand : Type 0
ToldMessagesStand = (g : Group) (events : Past) (k : ℕ) (m : code.Message) →
    let t = trace g events in slice_get (told_messages (replicas g) t) k ≡ Some m → StandsBody t m m.body
