-- What was sent, as it is told, is received as it was sent, and fits.
use Rattle.std.proofs.Common.{◌≡◌, ℕ, ◌≤◌, slice_get, Option, Some, None, IsSomeAnd, IfSome, refl, sym, subst}
use Rattle.la_set.specs.declared.error.SetError.{SetError}
use Rattle.la_set.specs.declared.error.SetError.TheVariants as set_error
use Rattle.la_set.specs.Deltas.{IsOver, IsRebuildRefusal}
use Rattle.la_replica.specs.declared.error.ReplicaError.{ReplicaError}
use Rattle.la_replica.specs.declared.error.ReplicaError.TheVariants.{NoSuchReplica, NoSuchInstance, Full, NoBase, Gap, Clash, BallotsSpent, Memory}
use Rattle.la_replica.specs.declared.instance.Instance.{Instance}
use Rattle.la_replica.specs.declared.message.Message as code
use Rattle.la_replica.specs.Whole.{whole_of}
use Rattle.la_replica.specs.ReplicaState.{ReplicaState}
use Rattle.la_replica.specs.Received.{Told, told_at, StandsAt, IsUnbuilt, IsCarriedIn, StandsIn}
use Rattle.la_replica.specs.Refusals.{IsReceiveRefusal, IsReceiptRefusal}
use Rattle.la_replica.specs.Fitting.{FitsReceiver}
use Rattle.la_replica.proofs.lemmas.Carrying.{carried_fits, carried_refusal}
use Rattle.la_world.specs.Groups.{Group, replicas}
use Rattle.la_world.specs.Events.{Past}
use Rattle.la_world.specs.Trace.{Trace}
use Rattle.la_world.specs.Sent.{sent}
use Rattle.la_world.specs.Playing.{trace}
use Rattle.la_world.specs.ReplicaStates.{replica_state}
use Rattle.la_world.specs.StandsFor.{IsLegalTrace}
use Rattle.la_replica.specs.Stored.{IsMade}
use Rattle.la_world.specs.Told.{told_messages}
use Rattle.la_world.specs.Following.{DeliveriesFit}
use Rattle.la_world.proofs.Lists.{AllIn_at, IsIn_get}
use Rattle.la_world.proofs.Legal.{legal_between}
use Rattle.la_world.proofs.OneReplicaSteps.{get_instance}
use Rattle.la_world.proofs.RefusedForMemory.{delivery_fits}
use Rattle.la_world.proofs.Tellings.{told_are_made}
use Rattle.la_world.proofs.Delivered.{told_sent, told_deliverable}
use Rattle.la_world.proofs.Deliverable.{IsDeliverableAt, IsDeliverableIn, deliverable_stands, deliverable_agrees, deliverable_carried}

-- what stands is rebuilt, but for memory
told_stands : (o : Option Told) → IfSome o (λ t. IsOver t.over t.delta) → (e : SetError)
    → IsSomeAnd o (λ t. IsRebuildRefusal t.over t.delta e) → e ≡ set_error.Memory
told_stands None over e h = absurd h
told_stands (Some t) over set_error.NoBase h = absurd (h over.base)
told_stands (Some t) over set_error.Gap h = absurd (h.1 over.next)
told_stands (Some t) over set_error.Memory h = refl
told_stands (Some t) over set_error.TooManyTags h = absurd h
told_stands (Some t) over (set_error.Clash id) h = absurd h

there_stands : (m : code.Message) (o : Option Instance) → IsSomeAnd o (λ x. StandsAt x m) → (e : SetError)
    → IsSomeAnd o (λ x. IsUnbuilt x m e) → e ≡ set_error.Memory
there_stands m None over e h = absurd h
there_stands m (Some x) over e h = told_stands (told_at x m) over e h

module _ (g : Group) (events : Past) (few : replicas g ≤ 8) (small : g.cap ≤ 1000000) (legal : IsLegalTrace g events) (k : ℕ)
    (m : code.Message) (stored : slice_get (told_messages (replicas g) (trace g events)) k ≡ Some m) where
  abbrev t : Trace
  t = trace g events

  abbrev at : ReplicaState
  at = replica_state g t m.to

  is_sent : slice_get (sent (replicas g) t) k ≡ Some (whole_of m)
  is_sent = told_sent g events legal small k m stored

  whole : FitsReceiver at (whole_of m) × ((e : ReplicaError) → IsReceiveRefusal at (whole_of m) e → e ≡ Memory)
  whole = delivery_fits g events k (whole_of m) few small legal is_sent

  is_made : IsMade m
  is_made = AllIn_at IsMade (told_messages (replicas g) t) m (told_are_made g events) (IsIn_get (told_messages (replicas g) t) k m stored)

  is_deliverable : IsDeliverableIn at m
  is_deliverable =
      subst (λ o. IsSomeAnd o (λ x. IsDeliverableAt x m))
      (sym (get_instance g t m.to m.instance (legal_between g events legal k (whole_of m) is_sent).instance))
      (told_deliverable g events legal small k m stored)

  stands : StandsIn at m
  stands = deliverable_stands at m is_made is_deliverable

  carried : IsCarriedIn at m
  carried = deliverable_carried at m is_made is_deliverable

  unbuilt : (e : SetError) → IsSomeAnd (slice_get at.instances m.instance) (λ x. IsUnbuilt x m e) → e ≡ set_error.Memory
  unbuilt = there_stands m (slice_get at.instances m.instance) stands

  refusal : (e : ReplicaError) → IsReceiptRefusal at m e → e ≡ Memory
  refusal NoSuchReplica h = whole.1 NoSuchReplica (carried_refusal at m carried NoSuchReplica h)
  refusal NoSuchInstance h = whole.1 NoSuchInstance (carried_refusal at m carried NoSuchInstance h)
  refusal NoBase h = let is = unbuilt set_error.NoBase h.1 in absurd (cc)
  refusal Gap h = let is = unbuilt set_error.Gap h.1 in absurd (cc)
  refusal Full h = whole.1 Full (carried_refusal at m carried Full h.1)
  refusal (Clash id) h = whole.1 (Clash id) (carried_refusal at m carried (Clash id) h.1)
  refusal BallotsSpent h = whole.1 BallotsSpent (carried_refusal at m carried BallotsSpent h.1)
  refusal Memory h = refl

pub deliveries_fit : DeliveriesFit
deliveries_fit g events k m few small legal stored = record {
  stands = stands g events few small legal k m stored;
  agrees =
      deliverable_agrees (replica_state g (trace g events) m.to) m (is_made g events few small legal k m stored)
      (is_deliverable g events few small legal k m stored);
  carried = carried g events few small legal k m stored;
  fits =
      carried_fits (replica_state g (trace g events) m.to) m (carried g events few small legal k m stored)
      (whole g events few small legal k m stored).0;
  memory = refusal g events few small legal k m stored;
}
