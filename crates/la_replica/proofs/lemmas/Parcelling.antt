-- A parcel is the message that was wrapped, wherever its told set's base is.
use Rattle.std.proofs.Common.{◌≡◌, min, slice_get, Option, Some, None, Result, Ok, Err, IfErr, IsSomeAnd, refl, ap, sym, subst, ◌∙◌, inl, inr, arith}
use Rattle.std.specs.Prelude.{IsOk}
use Rattle.std.proofs.lemmas.Option.{slice_get_past}
use Rattle.la_set.specs.declared.counts.Counts.{Counts}
use Rattle.la_set.specs.declared.error.SetError.{SetError}
use Rattle.la_set.specs.declared.error.SetError.TheVariants as set_error
use Rattle.la_set.specs.Histories.{Histories}
use Rattle.la_set.specs.Counts.{HasCounts, count_in, counts_of, within, zero_counts}
use Rattle.la_set.specs.Deltas.{pushed}
use Rattle.la_set.proofs.lemmas.Counting.{HasCounts-known, count_in-from_counts, count_in-counts_of}
use Rattle.la_set.proofs.lemmas.Theorems.{rebuilt-over, stands-over, same-within, rebuilt-within, within-zero}
use Rattle.la_replica.specs.declared.error.ReplicaError.{ReplicaError}
use Rattle.la_replica.specs.declared.error.ReplicaError.TheVariants.{NoSuchReplica, NoSuchInstance, Full, NoBase, Gap, Clash, BallotsSpent, Memory}
use Rattle.la_replica.specs.declared.instance.Instance.{Instance}
use Rattle.la_replica.specs.declared.message.Message as code
use Rattle.la_replica.specs.declared.message.Body as code_body
use Rattle.la_replica.specs.declared.message.Body.TheVariants as body
use Rattle.la_replica.specs.declared.parcel.Parcel.{Parcel}
use Rattle.la_replica.specs.declared.parcel.Content.{Content}
use Rattle.la_replica.specs.declared.parcel.Content.TheVariants as content
use Rattle.la_replica.specs.Alike.{AreAlikeBodies, AreAlike}
use Rattle.la_replica.specs.Memory.{IsFree, IsFreeMessage}
use Rattle.la_replica.specs.Parcels.{AreAlikeContents, AreAlikeParcels, told_base, wrapped_body, wrapped, IsTellWithinLimit, unwrapped_body, unwrapped, Unwraps, IsShut, base_of_told, TellsNothing, view_of, unwrapped_in, UnwrapsIn, IsUnwrapRefusal, HasToldBase, IsOneTold}
use Rattle.la_replica.specs.Received.{received_in, IsTellWithin, IsSeenWithin}
use Rattle.la_replica.specs.ReplicaState.{ReplicaState}
use Rattle.la_replica.proofs.lemmas.Rebasing.{over_alike}

-- ## Wrapped, and unwrapped

pub told_base_has : (believed : Counts) (told : Histories) → HasCounts told (told_base believed told)
told_base_has believed told = HasCounts-known told (told_base believed told) (λ r lt.
    omega (arith, count_in-from_counts (λ q. min (count_in believed q) (count_in (counts_of told) q)) r lt, count_in-counts_of told r))

module _ (over : Histories) (believed : Counts) where
  body_unwraps : (c : code_body.Body) → HasToldBase over believed c → IsOneTold over c → IsTellWithinLimit c
      → Unwraps over (wrapped_body believed c)
  body_unwraps (body.Offer d) has one few = tt
  body_unwraps body.Yes has one few = tt
  body_unwraps (body.No d) has one few = tt
  body_unwraps (body.Tell told) has one few =
      let base = told_base believed told in let theirs = told_base_has believed told in
      stands-over over told base has theirs few (same-within over told base has theirs one)

  body_based : (c : code_body.Body) → Unwraps over (wrapped_body believed c) → HasToldBase over believed c
  body_based (body.Offer d) over = tt
  body_based body.Yes over = tt
  body_based (body.No d) over = tt
  body_based (body.Tell told) over = over.base

  body_unwrapped : (c : code_body.Body) → HasToldBase over believed c → IsOneTold over c → IsTellWithinLimit c
      → unwrapped_body over (wrapped_body believed c) ≡ c
  body_unwrapped (body.Offer d) has one few = refl
  body_unwrapped body.Yes has one few = refl
  body_unwrapped (body.No d) has one few = refl
  body_unwrapped (body.Tell told) has one few =
      let base = told_base believed told in let theirs = told_base_has believed told in
      ap body.Tell (rebuilt-over over told base has theirs few (same-within over told base has theirs one))

  pub parcel_unwraps : (m : code.Message) → HasToldBase over believed m.body → IsOneTold over m.body
      → IsTellWithinLimit m.body → Unwraps over (wrapped_body believed m.body)
  parcel_unwraps m = body_unwraps m.body

  pub parcel_based : (m : code.Message) → Unwraps over (wrapped_body believed m.body) → HasToldBase over believed m.body
  parcel_based m = body_based m.body

  pub parcel_unwrapped : (m : code.Message) → Unwraps over (wrapped_body believed m.body) → IsOneTold over m.body
      → IsTellWithinLimit m.body → unwrapped over (wrapped believed m) ≡ m
  parcel_unwrapped m stands one few = ap (λ c. record { instance = m.instance; from = m.from; to = m.to; ballot = m.ballot; body = c }) (body_unwrapped m.body (body_based m.body stands) one few)

-- ## Made anew

body_alike : (over : Histories) (c e : Content) → AreAlikeContents c e
    → AreAlikeBodies (unwrapped_body over c) (unwrapped_body over e)
body_alike over (content.Offer d) (content.Offer e) h = h
body_alike over content.Yes content.Yes h = tt
body_alike over (content.No d) (content.No e) h = h
body_alike over (content.Tell d) (content.Tell e) h = λ i. pushed (within over (h.0 i)) (h.1 i)
body_alike over _ _ h = absurd h

pub parcel_alike : (over : Histories) (p q : Parcel) → AreAlikeParcels p q
    → AreAlike (unwrapped over p) (unwrapped over q)
parcel_alike over p q h = record {
  instance = h.instance;
  from = h.from;
  to = h.to;
  ballot = h.ballot;
  body = body_alike over p.content q.content h.content;
}

content_alike : (over : Histories) (c e : Content) → AreAlikeContents c e → Unwraps over c → Unwraps over e
content_alike over (content.Offer d) (content.Offer e) h stands = tt
content_alike over content.Yes content.Yes h stands = tt
content_alike over (content.No d) (content.No e) h stands = tt
content_alike over (content.Tell d) (content.Tell e) h stands = over_alike over d e h stands
content_alike over _ _ h stands = absurd h

pub parcel_alike_stands : (over : Histories) (p q : Parcel) → AreAlikeParcels p q → Unwraps over p.content
    → Unwraps over q.content
parcel_alike_stands over p q h = content_alike over p.content q.content h.content

-- ## Within its base it has what the view has

within_body : (over : Histories) (c : Content) → Unwraps over c
    → IsTellWithin over (base_of_told c) (unwrapped_body over c)
within_body over (content.Offer d) stands = tt
within_body over content.Yes stands = tt
within_body over (content.No d) stands = tt
within_body over (content.Tell d) stands = sym (rebuilt-within over d stands)

tell_zero : (view : Histories) (c : code_body.Body) → IsTellWithin view zero_counts c
tell_zero view (body.Offer d) = tt
tell_zero view body.Yes = tt
tell_zero view (body.No d) = tt
tell_zero view (body.Tell t) = within-zero view t

-- within no counts each told set has
pub seen_zero : (r : ReplicaState) (m : code.Message) (b : Counts) → b ≡ zero_counts → IsSeenWithin r b m
seen_zero r m b is = subst (λ n. IsSeenWithin r n m) (sym is) (λ first. tell_zero r.view m.body)

unwrapped_within : (r : ReplicaState) (p : Parcel) (k : code.Message) → k ≡ unwrapped_in r p → UnwrapsIn r p
    → IsSeenWithin r (base_of_told p.content) k
unwrapped_within r p k is stands first =
    let place : p.instance ≡ 0 = sym (ap (λ (z : code.Message). z.instance) is) ∙ first in
    subst (λ v. IsTellWithin v (base_of_told p.content) k.body) (ap (view_of r) place)
    (subst (λ (z : code.Message). IsTellWithin (view_of r p.instance) (base_of_told p.content) z.body) (sym is)
    (within_body (view_of r p.instance) p.content stands))

pub seen_over : (r : ReplicaState) (p : Parcel) (k : code.Message) (over : Histories) → over ≡ view_of r p.instance
    → k ≡ unwrapped over p → Unwraps over p.content → IsSeenWithin r (base_of_told p.content) k
seen_over r p k over is same stands =
    unwrapped_within r p k (subst (λ v. k ≡ unwrapped v p) is same) (subst (λ v. Unwraps v p.content) is stands)

-- ## Refused

module _ (r : ReplicaState) (p : Parcel) where
  -- where nothing is told, and it is for this replica and of an instance here, it is a message
  tells_something : (c : Content) (e : SetError) → TellsNothing c → ¬ IsShut (view_of r p.instance) c e
  tells_something (content.Offer d) e none shut = shut
  tells_something content.Yes e none shut = shut
  tells_something (content.No d) e none shut = shut
  tells_something (content.Tell d) e none shut = none

  shut_tells : (o : Option Instance) (e : SetError) → TellsNothing p.content
      → ¬ IsSomeAnd o (λ x. IsShut (view_of r p.instance) p.content e)
  shut_tells None e none shut = shut
  shut_tells (Some x) e none shut = tells_something p.content e none shut

  never : TellsNothing p.content → IsFree r (received_in r (unwrapped_in r p)) → (e : ReplicaError)
      → ¬ IsUnwrapRefusal r p e
  never none free NoSuchReplica (inl out) = let lt = free.0.0 in absurd (omega arith)
  never none free NoSuchReplica (inr other) = other free.0.1
  never none free NoSuchInstance past =
      subst (λ o. IsSomeAnd o (λ x. IsFreeMessage x r.view (received_in r (unwrapped_in r p))))
      (slice_get_past r.instances p.instance past.1) free.1
  never none free NoBase shut = shut_tells (slice_get r.instances p.instance) set_error.NoBase none shut.1
  never none free Gap shut = shut_tells (slice_get r.instances p.instance) set_error.Gap none shut.1
  never none free Memory shut = shut_tells (slice_get r.instances p.instance) set_error.Memory none shut.1
  never none free Full shut = shut
  never none free (Clash id) shut = shut
  never none free BallotsSpent shut = shut

  pub unwraps_free : {T : Type 0} (a : Result T ReplicaError) → IfErr a (IsUnwrapRefusal r p) → TellsNothing p.content
      → IsFree r (received_in r (unwrapped_in r p)) → IsOk a
  unwraps_free (Ok m) refused none free = refl
  unwraps_free (Err e) refused none free = absurd (never none free e refused)
