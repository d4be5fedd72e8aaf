-- A message that was sent stands at its receiver for what was sent. Each part of what that needs may be
-- shown from any list of events that leads to a world: it is a comparison of numbers, or of updates.
use Rattle.std.proofs.Common.{◌≡◌, ℕ, Bool, true, false, Option, Some, None, IfSome, IsSomeAnd, slice_get, sym, ap, subst, ◌∙◌}
use Rattle.std.proofs.Math.Logic.{∥∥₁_elim}
use Rattle.std.proofs.Math.Bridge.{le_prop}
use Rattle.std.proofs.lemmas.Option.{same_Some}
use Rattle.la_set.specs.Histories.{IsWithinLimit}
use Rattle.la_set.specs.Join.{IsCompatible}
use Rattle.la_set.specs.Counts.{HasCounts, within}
use Rattle.la_set.specs.Deltas.{DeltaState, delta_over, rebuilt, IsOver, AgreesWithin}
use Rattle.la_set.proofs.lemmas.Theorems.{rebuilt-over, stands-over, same-within}
use Rattle.la_proposer.specs.ProposerState as proposer
use Rattle.la_replica.specs.declared.instance.Instance.{Instance}
use Rattle.la_replica.specs.declared.message.Message as code
use Rattle.la_replica.specs.declared.message.Body as code_body
use Rattle.la_replica.specs.declared.message.Body.TheVariants as body
use Rattle.la_replica.specs.Whole.{set_of}
use Rattle.la_replica.specs.ReplicaState.{ReplicaState}
use Rattle.la_replica.specs.Received.{Told, refusal_over, told_in_body, told_at, rebuilt_of, StandsAt, AgreesAt, IsCarried, StandsIn, AgreesIn, IsCarriedIn}
use Rattle.la_replica.specs.Stored.{IsMadeBody, IsMade}
use Rattle.la_world.proofs.Receivers.{compatible_from}

-- what a delta needs, to stand for the set that it was made of
pub record IsDeliverable (told : Told) : Type 0 where
  pub mine : HasCounts told.over told.delta.base
  pub theirs : HasCounts (set_of told.delta) told.delta.base
  pub few : IsWithinLimit (set_of told.delta)
  pub fits : IsCompatible told.over (set_of told.delta)

pub deliverable_from : {A : Type 0} → ∥ A ∥₁ → (o : Option Told) → (A → IfSome o IsDeliverable) → IfSome o IsDeliverable
deliverable_from some None h = tt
deliverable_from some (Some told) h = record {
  mine = λ r. ∥∥₁_elim some (hlevel (le_prop)) (λ x. (h x).mine r);
  theirs = λ r. ∥∥₁_elim some (hlevel (le_prop)) (λ x. (h x).theirs r);
  few = λ r. ∥∥₁_elim some (hlevel (le_prop)) (λ x. (h x).few r);
  fits = compatible_from some told.over (set_of told.delta) (λ x. (h x).fits);
}

abbrev IsMadeTold : Told → Type 0
IsMadeTold told = told.delta ≡ delta_over (set_of told.delta) told.delta.base

module _ (told : Told) (made : IsMadeTold told) (h : IsDeliverable told) where
  same : within told.over told.delta.base ≡ within (set_of told.delta) told.delta.base
  same = same-within told.over (set_of told.delta) told.delta.base h.mine h.theirs h.fits

  told_stands : IsOver told.over told.delta
  told_stands =
      subst (IsOver told.over) (sym made)
      (stands-over told.over (set_of told.delta) told.delta.base h.mine h.theirs h.few same)

  told_agrees : AgreesWithin told.over told.delta
  told_agrees whole is =
      same
      ∙ ap (λ z. within z told.delta.base)
      (same_Some (set_of told.delta) whole (sym (ap (λ (d : DeltaState). d.made_of) made) ∙ is))

  told_carried : rebuilt_of told ≡ set_of told.delta
  told_carried =
      ap (rebuilt told.over) made ∙ rebuilt-over told.over (set_of told.delta) told.delta.base h.mine h.theirs h.few same

made_told : (x : Instance) (from ballot : ℕ) (b : code_body.Body) → IsMadeBody b
    → IfSome (told_in_body x from ballot b) IsMadeTold
made_told x from ballot (body.Offer d) made = made
made_told x from ballot body.Yes made = tt
made_told x from ballot (body.No d) made = go (proposer.counts x.proposer from ballot)
  where
    go : (v : Bool) → IfSome (refusal_over v x.proposer.updates d) IsMadeTold
    go true = made
    go false = tt
made_told x from ballot (body.Tell set) made = tt

where_told : (P Q R : Told → Type 0) (o : Option Told) → ((t : Told) → P t → Q t → R t) → IfSome o P → IfSome o Q
    → IfSome o R
where_told P Q R None f p q = tt
where_told P Q R (Some t) f p q = f t p q

abbrev pub IsDeliverableAt : Instance → code.Message → Type 0
IsDeliverableAt x m = IfSome (told_at x m) IsDeliverable

abbrev pub IsDeliverableIn : ReplicaState → code.Message → Type 0
IsDeliverableIn r m = IsSomeAnd (slice_get r.instances m.instance) (λ x. IsDeliverableAt x m)

module _ (r : ReplicaState) (m : code.Message) (made : IsMade m) where
  at_all : (P : Instance → Type 0) (o : Option Instance) → ((x : Instance) → IsDeliverableAt x m → P x)
      → IsSomeAnd o (λ x. IsDeliverableAt x m) → IsSomeAnd o P
  at_all P None f h = h
  at_all P (Some x) f h = f x h

  pub deliverable_stands : IsDeliverableIn r m → StandsIn r m
  deliverable_stands =
      at_all (λ x. StandsAt x m) (slice_get r.instances m.instance)
      (λ x.
      where_told IsMadeTold IsDeliverable (λ t. IsOver t.over t.delta) (told_at x m) told_stands
      (made_told x m.from m.ballot m.body made))

  pub deliverable_agrees : IsDeliverableIn r m → AgreesIn r m
  deliverable_agrees =
      at_all (λ x. AgreesAt x m) (slice_get r.instances m.instance)
      (λ x.
      where_told IsMadeTold IsDeliverable (λ t. AgreesWithin t.over t.delta) (told_at x m) told_agrees
      (made_told x m.from m.ballot m.body made))

  pub deliverable_carried : IsDeliverableIn r m → IsCarriedIn r m
  deliverable_carried =
      at_all (λ x. IsCarried x m) (slice_get r.instances m.instance)
      (λ x.
      where_told IsMadeTold IsDeliverable (λ t. rebuilt_of t ≡ set_of t.delta) (told_at x m) told_carried
      (made_told x m.from m.ballot m.body made))

-- the same from any list of events
pub deliverable_in : {A : Type 0} (r : ReplicaState) (m : code.Message) → ∥ A ∥₁ → (x : Instance)
    → slice_get r.instances m.instance ≡ Some x → (A → IsDeliverableAt x m) → IsDeliverableIn r m
deliverable_in r m some x there h =
    subst (λ o. IsSomeAnd o (λ y. IsDeliverableAt y m)) (sym there) (deliverable_from some (told_at x m) h)
