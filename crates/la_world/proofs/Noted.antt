-- What a call has put together where its replica's step was taken: the world of the replica
-- afterwards, and of a journal in which the step was noted, or nothing was.
use Rattle.std.proofs.Common.{◌≡◌, ℕ, ◌+◌, ◌<◌, ◌≤◌, ◌^◌, List, ◌++◌, length, slice_set, Option, None, ap, ap₂, sym, ◌∙◌, subst, subst₂}
use Rattle.std.specs.Prelude.{option_and_then}
use Rattle.la_set.specs.Histories.{Histories}
use Rattle.la_commit.specs.declared.outcome.Outcome.{Outcome}
use Rattle.la_replica.specs.declared.message.Message as code
use Rattle.la_replica.specs.ReplicaState.{ReplicaState}
use Rattle.la_node.specs.declared.done.Done.{Done}
use Rattle.la_world.specs.declared.journal.Journal.{Journal}
use Rattle.la_world.specs.declared.speaker.Speaker.{Speaker}
use Rattle.la_world.specs.declared.step.Step.{Step}
use Rattle.la_world.specs.Events.{Event}
use Rattle.la_commit.specs.Outcomes.{outcome_in}
use Rattle.la_world.specs.Printable.{named_by, IsPrintable}
use Rattle.la_world.specs.Shown.{shown_by, learnings_by, shown_step}
use Rattle.la_world.specs.StandsFor.{World, world_of}
use Rattle.la_world.specs.Calls.{HoldsWorldInvariant, PlaysEvent}
use Rattle.la_world.proofs.WorldSteps.{receiver_speaks, submitter_speaks}
use Rattle.la_world.proofs.Worlds.{world_with, step_with, IsDelivery}

-- room was made, and nothing was noted
module _ {w : World} (invariant : HoldsWorldInvariant w) (journal : Journal) (a : journal.messages.items ≡ w.messages)
    (b : journal.learnt.items ≡ w.learnt) (d : journal.count ≡ w.count) where
  pub holds_reserved : HoldsWorldInvariant (world_of w.config w.replica_states w.shelves journal)
  holds_reserved = subst HoldsWorldInvariant (λ j. record { config = w.config; replica_states = w.replica_states; shelves = w.shelves; messages = sym a j; learnt = sym b j; count = sym d j }) invariant

-- room was made, and then it was noted what replica s did
pub record IsNoted (w : World) (s : Speaker) (done : Done) (copy : Option Histories) (room after : Journal)
    (made : Step) : Type 0 where
  pub messages : room.messages.items ≡ w.messages
  pub learnt : room.learnt.items ≡ w.learnt
  pub count : room.count ≡ w.count
  pub step : made ≡ shown_step s room done
  pub messages_after : after.messages.items ≡ room.messages.items ++ done.mail
  pub learnt_after : after.learnt.items ≡ room.learnt.items ++ learnings_by s room.count copy
  pub count_after : after.count ≡ room.count + 1
  pub numbers : length room.messages.items + length done.mail < 2 ^ 64

-- of a submission
pub submission_noted : {w : World} (i r : ℕ) (room after : Journal) (done : Done) {made : Step} → HoldsWorldInvariant w
    → room.messages.items ≡ w.messages → room.learnt.items ≡ w.learnt → room.count ≡ w.count
    → made ≡ shown_step (submitter_speaks w i r) room done → after.messages.items ≡ room.messages.items ++ done.mail
    → after.learnt.items ≡ room.learnt.items ++ learnings_by (submitter_speaks w i r) room.count None
    → after.count ≡ room.count + 1 → length room.messages.items + length done.mail < 2 ^ 64
    → IsNoted w (submitter_speaks w i r) done None room after made
submission_noted i r room after done invariant messages learnt count step messages_after learnt_after count_after
    numbers =
    record { messages = messages; learnt = learnt; count = count; step = step; messages_after = messages_after; learnt_after = learnt_after; count_after = count_after; numbers = numbers }

-- of a delivery, where it was computed what the receiver returns by what it learns
module _ {w : World} {k : ℕ} {m : code.Message} {at : ReplicaState} (d : IsDelivery w k m at) (copy : Option Histories)
    {returns : Option Outcome} (a : returns ≡ option_and_then (outcome_in m.instance m.to) copy) where
  abbrev speaks : Speaker
  speaks = record { replicas = w.config.replicas; replica = m.to; instance = m.instance; ballot = m.ballot; outcome = returns }

  pub delivery_noted : (room after : Journal) (done : Done) {made : Step} → room.messages.items ≡ w.messages
      → room.learnt.items ≡ w.learnt → room.count ≡ w.count → made ≡ shown_step speaks room done
      → after.messages.items ≡ room.messages.items ++ done.mail
      → after.learnt.items ≡ room.learnt.items ++ learnings_by speaks room.count copy → after.count ≡ room.count + 1
      → length room.messages.items + length done.mail < 2 ^ 64
      → IsNoted w (receiver_speaks w m copy) done copy room after made
  delivery_noted room after done {made = made} messages learnt count step messages_after learnt_after count_after
      numbers =
      subst (λ o. IsNoted w (record { replicas = w.config.replicas; replica = m.to; instance = m.instance; ballot = m.ballot; outcome = o }) done copy room after made) a
      record { messages = messages; learnt = learnt; count = count; step = step; messages_after = messages_after; learnt_after = learnt_after; count_after = count_after; numbers = numbers }

module _ {w : World} {s : Speaker} {done : Done} {copy : Option Histories} {room after : Journal} {made : Step}
    (n : IsNoted w s done copy room after made) where
  module _ (r : ℕ) (m : ReplicaState) where
    abbrev noted : World
    noted = world_of w.config (slice_set w.replica_states r m) w.shelves after

    noted_as : noted ≡ world_with w r m s done copy
    noted_as =
        let messages : after.messages.items ≡ w.messages ++ done.mail =
        n.messages_after ∙ ap (λ ms. ms ++ done.mail) n.messages in
        let learnt : after.learnt.items ≡ w.learnt ++ learnings_by s w.count copy =
        n.learnt_after ∙ ap₂ (λ ls k. ls ++ learnings_by s k copy) n.learnt n.count in
        let count : after.count ≡ w.count + 1 = n.count_after ∙ ap (λ k. k + 1) n.count in
        λ j. record { config = w.config; replica_states = slice_set w.replica_states r m; shelves = w.shelves; messages = messages j; learnt = learnt j; count = count j }

    pub noted_holds : HoldsWorldInvariant (world_with w r m s done copy) → HoldsWorldInvariant noted
    noted_holds h = subst HoldsWorldInvariant (sym noted_as) h

    step_as : made ≡ step_with w s done
    step_as = n.step ∙ ap₂ (λ k (ms : List code.Message). record { did = shown_by s k done.said done.voted; first = length ms; sent = length done.mail }) n.count n.messages

    pub noted_plays : {old : World} → w ≡ old → (events : List Event) (e : Event)
        → PlaysEvent w events e (step_with w s done) (world_with w r m s done copy) → PlaysEvent old events e made noted
    noted_plays same events e played =
        subst (λ v. PlaysEvent v events e made noted) same
        (subst₂ (λ t v. PlaysEvent w events e t v) (sym step_as) (sym noted_as) played)

  pub noted_prints : named_by (shown_by s w.count done.said done.voted) ≤ length done.mail → IsPrintable made
  noted_prints named = subst IsPrintable (sym n.step) record { numbers = n.numbers; messages = subst (λ k. named_by (shown_by s k done.said done.voted) ≤ length done.mail) (sym n.count) named }
