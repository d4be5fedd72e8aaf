-- What was sent, told over whatever base, is received as it was sent, or refused; and a parcel of it is it.
use Rattle.std.proofs.Common.{◌≡◌, ℕ, ◌≤◌, ◌==◌, if◌then◌else◌, Bool, true, false, eqb-true, slice_get, Option, Some, None, IsSomeAnd, refl, inl, inr}
use Rattle.la_set.specs.declared.counts.Counts.{Counts}
use Rattle.la_set.specs.Histories.{Histories, empty}
use Rattle.la_set.specs.Join.{IsCompatible}
use Rattle.la_set.proofs.lemmas.Inclusions.{compatible-subset}
use Rattle.la_replica.specs.declared.error.ReplicaError.{ReplicaError}
use Rattle.la_replica.specs.declared.error.ReplicaError.TheVariants.{Memory}
use Rattle.la_replica.specs.declared.instance.Instance.{Instance}
use Rattle.la_replica.specs.declared.message.Message as code
use Rattle.la_replica.specs.declared.message.Body as code_body
use Rattle.la_replica.specs.declared.message.Body.TheVariants as body
use Rattle.la_replica.specs.Parcels.{view_of, IsOneTold, IsTellWithinLimit}
use Rattle.la_replica.specs.Whole.{whole_body, whole_of}
use Rattle.la_replica.specs.ReplicaState.{ReplicaState}
use Rattle.la_replica.specs.Rebased.{rebased_message, MayBeOver, IsOneIn, IsRefusalOver}
use Rattle.la_replica.specs.Fitting.{FitsReceiver, FitsViewBody}
use Rattle.la_replica.specs.Refusals.{IsReceiveRefusal}
use Rattle.la_replica.proofs.lemmas.Parcelling.{parcel_unwraps, parcel_unwrapped}
use Rattle.la_replica.proofs.lemmas.Rebasing.{over_stands, over_agrees, over_received, over_fits, over_refused, receivable_one}
use Rattle.la_world.specs.Groups.{Group, replicas}
use Rattle.la_world.specs.Events.{Past}
use Rattle.la_world.specs.Playing.{trace}
use Rattle.la_world.specs.ReplicaStates.{replica_state}
use Rattle.la_world.specs.StandsFor.{IsLegalTrace}
use Rattle.la_world.specs.Told.{told_messages}
use Rattle.la_world.specs.Rebased.{IsRefusedFor, IsReceivedOver, DeliveriesFitOver, IsUnwrapped, ParcelsFit}
use Rattle.la_world.proofs.RefusedForMemory.{delivery_fits}
use Rattle.la_world.proofs.LargestViews.{empty_least}
use Rattle.la_world.proofs.Delivered.{told_sent, known, within_limit}

-- nothing clashes with no updates
one_here : (here : Bool) (view set : Histories) → (here ≡ true → IsCompatible view set)
    → IsCompatible (if here then view else empty) set
one_here true view set one = one refl
one_here false view set one = compatible-subset empty set (empty_least set)

module _ (g : Group) (events : Past) (few : replicas g ≤ 8) (small : g.cap ≤ 1000000) (legal : IsLegalTrace g events) (k : ℕ)
    (m : code.Message) (stored : slice_get (told_messages (replicas g) (trace g events)) k ≡ Some m) where
  abbrev at : ReplicaState
  at = replica_state g (trace g events) m.to

  whole : FitsReceiver at (whole_of m) × ((e : ReplicaError) → IsReceiveRefusal at (whole_of m) e → e ≡ Memory)
  whole = delivery_fits g events k (whole_of m) few small legal (told_sent g events legal small k m stored)

  -- under no id has it another update than its receiver
  pub sent_one : IsOneIn at m
  sent_one = receivable_one at m whole.0.receivable

  -- nor than what the view has of its instance
  pub sent_one_told : IsOneTold (view_of at m.instance) m.body
  sent_one_told = go (slice_get at.instances m.instance) whole.0.view
    where
      for_body : (x : Instance) (c : code_body.Body) → FitsViewBody x at.view (whole_of m) (whole_body c)
          → IsOneTold (view_of at m.instance) c
      for_body x (body.Offer d) h = tt
      for_body x body.Yes h = tt
      for_body x (body.No d) h = tt
      for_body x (body.Tell set) h = one_here (m.instance == 0) at.view set (λ e. h (eqb-true m.instance 0 e))

      go : (o : Option Instance) → IsSomeAnd o (λ x. FitsViewBody x at.view (whole_of m) (whole_body m.body))
          → IsOneTold (view_of at m.instance) m.body
      go None h = absurd h
      go (Some x) h = for_body x m.body h

  -- and no number in it is over the limit
  pub sent_within_limit : IsTellWithinLimit m.body
  sent_within_limit = for_body m.body refl
    where
      for_body : (c : code_body.Body) → m.body ≡ c → IsTellWithinLimit c
      for_body (body.Offer d) is = tt
      for_body body.Yes is = tt
      for_body (body.No d) is = tt
      for_body (body.Tell set) is =
          within_limit g events legal small k m stored set (known g events legal small k m stored (body.Tell set) is)

  pub unwrapped_here : (believed : Counts) → IsUnwrapped at believed m
  unwrapped_here believed = record {
    unwraps = λ has. parcel_unwraps (view_of at m.instance) believed m has sent_one_told sent_within_limit;
    same = λ stands. parcel_unwrapped (view_of at m.instance) believed m stands sent_one_told sent_within_limit;
  }

  module _ (b : Counts) (may : MayBeOver b m.body) where
    refusal : (e : ReplicaError) → IsRefusalOver at (rebased_message b m) m e → IsRefusedFor at (rebased_message b m) e
    refusal e (inl h) = inl h
    refusal e (inr (inl h)) = inr h
    refusal e (inr (inr h)) = inr (whole.1 e h)

    pub received_over : IsReceivedOver at b m
    received_over = record {
      stands = over_stands at b m may sent_one;
      agrees = over_agrees at b m may sent_one;
      received =
          λ has. over_received at b m may (over_stands at b m may sent_one has) (over_agrees at b m may sent_one has);
      fits =
          λ has. over_fits at b m may (over_stands at b m may sent_one has) (over_agrees at b m may sent_one has) whole.0;
      refused = λ e h. refusal e (over_refused at b m may sent_one e h);
    }

pub deliveries_fit_over : DeliveriesFitOver
deliveries_fit_over g events k m b few small legal stored may = received_over g events few small legal k m stored b may

pub parcels_fit : ParcelsFit
parcels_fit g events k m believed few small legal stored = unwrapped_here g events few small legal k m stored believed
