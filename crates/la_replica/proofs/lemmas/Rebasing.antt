-- A message whose set is told over whatever base: received as it was sent, or refused.
use Rattle.std.proofs.Common.{◌≡◌, ℕ, Bool, true, false, slice_get, Option, Some, None, IsSomeAnd, IfSome, refl, ap, sym, subst, subst₂, ◌∙◌, inl, inr}
use Rattle.std.proofs.lemmas.Option.{same_Some}
use Rattle.std.proofs.lemmas.Bool.{cases_Bool, both_ways}
use Rattle.la_set.specs.declared.update.UpdateId.{UpdateId}
use Rattle.la_set.specs.Histories.{get}
use Rattle.la_set.specs.ObjectOps.{update_eq}
use Rattle.la_set.specs.Join.{ClashesAt}
use Rattle.la_set.proofs.lemmas.Decisions.{update_eq-Decides}
use Rattle.la_replica.specs.Alike.{AreAlikeDeltas, AreAlikeBodies, AreAlike}
use Rattle.la_replica.specs.Refusals.{FitsBody, IsReceivable}
use Rattle.la_set.specs.declared.counts.Counts.{Counts}
use Rattle.la_set.specs.declared.error.SetError.TheVariants as set_error
use Rattle.la_set.specs.Histories.{Histories}
use Rattle.la_set.specs.Join.{IsCompatible}
use Rattle.la_set.specs.Counts.{HasCounts, within}
use Rattle.la_set.specs.Deltas.{DeltaState, delta_over, rebuilt, IsOver, AreNext, AgreesWithin, IsRebuildRefusal}
use Rattle.la_set.proofs.lemmas.Theorems.{rebuilt-over, stands-over, same-within}
use Rattle.la_proposer.specs.ProposerState.{counts}
use Rattle.la_replica.specs.declared.error.ReplicaError.{ReplicaError}
use Rattle.la_replica.specs.declared.error.ReplicaError.TheVariants.{NoSuchReplica, NoSuchInstance, Full, NoBase, Gap, Clash, BallotsSpent, Memory}
use Rattle.la_replica.specs.declared.instance.Instance.{Instance}
use Rattle.la_replica.specs.declared.message.Message as code
use Rattle.la_replica.specs.declared.message.Body as code_body
use Rattle.la_replica.specs.declared.message.Body.TheVariants as body
use Rattle.la_replica.specs.Whole.{whole_body, whole_of, set_of}
use Rattle.la_replica.specs.ReplicaState.{ReplicaState, receives}
use Rattle.la_replica.specs.Received.{Told, told_in_body, told_at, refusal_over, rebuilt_of, received_in, StandsAt, StandsIn, AgreesAt, AgreesIn, IsUnbuilt, IsCarried, IsCarriedIn}
use Rattle.la_replica.specs.Refusals.{IsReceiveRefusal, IsReceiptRefusal}
use Rattle.la_replica.specs.Fitting.{FitsReceiver}
use Rattle.la_replica.specs.Rebased.{rebased, rebased_body, rebased_message, IsBaseOf, MayBeOver, HasBaseAt, HasBaseIn, IsOneAt, IsOneIn, IsRefusalOver}
use Rattle.la_replica.proofs.lemmas.Carrying.{carried_received, carried_fits, carried_refusal}

-- ## A delta

-- what stands for the set that it was made of
record IsSound (t : Told) : Type 0 where
  stands : IsOver t.over t.delta
  agrees : AgreesWithin t.over t.delta
  carried : rebuilt_of t ≡ set_of t.delta

-- a delta of a set over one of its bases
record IsRebased (t : Told) : Type 0 where
  made : t.delta ≡ delta_over (set_of t.delta) t.delta.base
  base : IsBaseOf t.delta.base (set_of t.delta)

module _ (t : Told) (is : IsRebased t) where
  sound : HasCounts t.over t.delta.base → within t.over t.delta.base ≡ within (set_of t.delta) t.delta.base → IsSound t
  sound has same = record {
    stands =
        subst (IsOver t.over) (sym is.made)
        (stands-over t.over (set_of t.delta) t.delta.base has is.base.has is.base.few same);
    agrees =
        λ whole e.
        same
        ∙ ap (λ z. within z t.delta.base)
        (same_Some (set_of t.delta) whole (sym (ap (λ (d : DeltaState). d.made_of) is.made) ∙ e));
    carried =
        ap (rebuilt t.over) is.made ∙ rebuilt-over t.over (set_of t.delta) t.delta.base has is.base.has is.base.few same;
  }

  sound_one : HasCounts t.over t.delta.base → IsCompatible t.over (set_of t.delta) → IsSound t
  sound_one has one = sound has (same-within t.over (set_of t.delta) t.delta.base has is.base.has one)

  sound_agreeing : IsOver t.over t.delta → AgreesWithin t.over t.delta → IsSound t
  sound_agreeing over agrees = sound over.base (agrees (set_of t.delta) (ap (λ (d : DeltaState). d.made_of) is.made))

both : (P Q R : Told → Type 0) (o : Option Told) → ((t : Told) → P t → Q t → R t) → IfSome o P → IfSome o Q → IfSome o R
both P Q R None f p q = tt
both P Q R (Some t) f p q = f t p q

one_of : (P Q : Told → Type 0) (o : Option Told) → ((t : Told) → P t → Q t) → IfSome o P → IfSome o Q
one_of P Q None f p = tt
one_of P Q (Some t) f p = f t p

-- ## A message

abbrev One : Told → Type 0
One t = IsCompatible t.over (set_of t.delta)

module _ (x : Instance) (from ballot : ℕ) (b : Counts) where
  body_rebased : (c : code_body.Body) → MayBeOver b c → IfSome (told_in_body x from ballot (rebased_body b c)) IsRebased
  body_rebased (body.Offer d) may = record { made = refl; base = may }
  body_rebased body.Yes may = tt
  body_rebased (body.No d) may = go (counts x.proposer from ballot)
    where
      go : (v : Bool) → IfSome (refusal_over v x.proposer.updates (rebased b d)) IsRebased
      go true = record { made = refl; base = may }
      go false = tt
  body_rebased (body.Tell told) may = tt

  -- what fits the message as it was sent fits it over the base
  body_one : (c : code_body.Body) → IfSome (told_in_body x from ballot c) One
      → IfSome (told_in_body x from ballot (rebased_body b c)) One
  body_one (body.Offer d) one = one
  body_one body.Yes one = tt
  body_one (body.No d) one = go (counts x.proposer from ballot) one
    where
      go : (v : Bool) → IfSome (refusal_over v x.proposer.updates d) One
          → IfSome (refusal_over v x.proposer.updates (rebased b d)) One
      go true h = h
      go false h = tt
  body_one (body.Tell told) one = tt

body_whole : (b : Counts) (c : code_body.Body) → whole_body (rebased_body b c) ≡ whole_body c
body_whole b (body.Offer d) = refl
body_whole b body.Yes = refl
body_whole b (body.No d) = refl
body_whole b (body.Tell told) = refl

-- it says what was sent
pub rebased_whole : (b : Counts) (m : code.Message) → whole_of (rebased_message b m) ≡ whole_of m
rebased_whole b m = ap (λ c. record { instance = m.instance; from = m.from; to = m.to; ballot = m.ballot; body = c }) (body_whole b m.body)

-- ## In a replica

module _ (r : ReplicaState) (b : Counts) (m : code.Message) (may : MayBeOver b m.body) where
  abbrev n : code.Message
  n = rebased_message b m

  at_both : (P Q R : Instance → Type 0) (o : Option Instance) → ((x : Instance) → P x → Q x → R x) → IsSomeAnd o P
      → IsSomeAnd o Q → IsSomeAnd o R
  at_both P Q R None f p q = p
  at_both P Q R (Some x) f p q = f x p q

  is_rebased : (x : Instance) → IfSome (told_at x n) IsRebased
  is_rebased x = body_rebased x m.from m.ballot b m.body may

  here_one : (x : Instance) → HasBaseAt x n → IsOneAt x m → IfSome (told_at x n) IsSound
  here_one x has one =
      both (λ t. HasCounts t.over t.delta.base) (λ t. IsRebased t × One t) IsSound (told_at x n)
      (λ t h k. sound_one t k.0 h k.1) has
      (both IsRebased One (λ t. IsRebased t × One t) (told_at x n) (λ t p q. (p, q)) (is_rebased x)
      (body_one x m.from m.ballot b m.body one))

  here_agreeing : (x : Instance) → StandsAt x n → AgreesAt x n → IfSome (told_at x n) IsSound
  here_agreeing x stands agrees =
      both (λ t. IsOver t.over t.delta) (λ t. IsRebased t × AgreesWithin t.over t.delta) IsSound (told_at x n)
      (λ t h k. sound_agreeing t k.0 h k.1) stands
      (both IsRebased (λ t. AgreesWithin t.over t.delta) (λ t. IsRebased t × AgreesWithin t.over t.delta) (told_at x n)
      (λ t p q. (p, q)) (is_rebased x) agrees)

  pub over_stands : IsOneIn r m → HasBaseIn r n → StandsIn r n
  over_stands one has =
      at_both (λ x. HasBaseAt x n) (λ x. IsOneAt x m) (λ x. StandsAt x n) (slice_get r.instances m.instance)
      (λ x p q. one_of IsSound (λ t. IsOver t.over t.delta) (told_at x n) (λ t s. s.stands) (here_one x p q)) has one

  pub over_agrees : IsOneIn r m → HasBaseIn r n → AgreesIn r n
  over_agrees one has =
      at_both (λ x. HasBaseAt x n) (λ x. IsOneAt x m) (λ x. AgreesAt x n) (slice_get r.instances m.instance)
      (λ x p q. one_of IsSound (λ t. AgreesWithin t.over t.delta) (told_at x n) (λ t s. s.agrees) (here_one x p q)) has
      one

  pub over_carried : StandsIn r n → AgreesIn r n → IsCarriedIn r n
  over_carried = at_both (λ x. StandsAt x n) (λ x. AgreesAt x n) (λ x. IsCarried x n) (slice_get r.instances m.instance)
      (λ x p q.
      one_of IsSound (λ t. rebuilt_of t ≡ set_of t.delta) (told_at x n) (λ t s. s.carried) (here_agreeing x p q))

  pub over_received : StandsIn r n → AgreesIn r n → receives r (received_in r n) ≡ receives r (whole_of m)
  over_received stands agrees = carried_received r n (over_carried stands agrees) ∙ ap (receives r) (rebased_whole b m)

  pub over_fits : StandsIn r n → AgreesIn r n → FitsReceiver r (whole_of m) → FitsReceiver r (received_in r n)
  over_fits stands agrees h =
      carried_fits r n (over_carried stands agrees) (subst (FitsReceiver r) (sym (rebased_whole b m)) h)

  -- what stands has its base
  stands_base : StandsIn r n → HasBaseIn r n
  stands_base h =
      at_both (λ x. StandsAt x n) (λ x. StandsAt x n) (λ x. HasBaseAt x n) (slice_get r.instances m.instance)
      (λ x p q. one_of (λ t. IsOver t.over t.delta) (λ t. HasCounts t.over t.delta.base) (told_at x n) (λ t s. s.base) p)
      h h

  -- it is refused for want of its base only where that is wanting, and never for a gap
  want : (o : Option Told) → IsSomeAnd o (λ t. IsRebuildRefusal t.over t.delta set_error.NoBase)
      → ¬ IfSome o (λ t. HasCounts t.over t.delta.base)
  want None h has = absurd h
  want (Some t) h has = h has

  wanting : (o : Option Instance) → IsSomeAnd o (λ x. IsUnbuilt x n set_error.NoBase)
      → ¬ IsSomeAnd o (λ x. HasBaseAt x n)
  wanting None h has = absurd h
  wanting (Some x) h has = want (told_at x n) h has

  gapless : (o : Option Told) → IsSomeAnd o (λ t. IsRebuildRefusal t.over t.delta set_error.Gap)
      → (IfSome o (λ t. HasCounts t.over t.delta.base) → IfSome o IsSound) → ⊥
  gapless None h s = absurd h
  gapless (Some t) h s = h.1 ((s h.0).stands.next)

  no_gap : (o : Option Instance) → IsSomeAnd o (λ x. IsUnbuilt x n set_error.Gap) → IsSomeAnd o (λ x. IsOneAt x m) → ⊥
  no_gap None h one = absurd h
  no_gap (Some x) h one = gapless (told_at x n) h (λ has. here_one x has one)

  module _ (one : IsOneIn r m) where
    as_sent : (e : ReplicaError) → StandsIn r n → IsReceiveRefusal r (received_in r n) e
        → IsReceiveRefusal r (whole_of m) e
    as_sent e stands h =
        subst (λ w. IsReceiveRefusal r w e) (rebased_whole b m)
        (carried_refusal r n (over_carried stands (over_agrees one (stands_base stands))) e h)

    pub over_refused : (e : ReplicaError) → IsReceiptRefusal r n e → IsRefusalOver r n m e
    over_refused NoSuchReplica h = inr (inr h)
    over_refused NoSuchInstance h = inr (inr h)
    over_refused NoBase h = inl (refl, wanting (slice_get r.instances m.instance) h.1)
    over_refused Gap h = absurd (no_gap (slice_get r.instances m.instance) h.1 one)
    over_refused Memory h = inr (inl refl)
    over_refused Full h = inr (inr (as_sent Full h.0 h.1))
    over_refused (Clash id) h = inr (inr (as_sent (Clash id) h.0 h.1))
    over_refused BallotsSpent h = inr (inr (as_sent BallotsSpent h.0 h.1))

  -- where no id has two updates, what stands is received as it was sent
  pub over_one : IsOneIn r m → StandsIn r n → IsCarriedIn r n
  over_one one stands = over_carried stands (over_agrees one (stands_base stands))

-- ## What fits

-- no id clashes
unclashed : (a b : Histories) → ((id : UpdateId) → ¬ ClashesAt a b id) → IsCompatible a b
unclashed a b none u v has_u has_v same = elim (cases_Bool (update_eq u v)) [
  | inl equal ↦ (update_eq-Decides u v).0 equal
  | inr other ↦ absurd (none u.id
      (subst (λ o. IsSomeAnd o (λ x. IsSomeAnd (get b u.id) (λ y. x ≡ y → ⊥))) (sym has_u)
      (subst (λ o. IsSomeAnd o (λ y. u ≡ y → ⊥)) (sym (ap (get b) same ∙ has_v))
      (λ is. both_ways _ other ((update_eq-Decides u v).1 is)))))
]

-- of a message that fits as it was sent, and what is here, no id has two updates
module _ (r : ReplicaState) (m : code.Message) where
  fits_one : (x : Instance) (c : code_body.Body) → FitsBody x (whole_of m) (whole_body c)
      → IfSome (told_in_body x m.from m.ballot c) One
  fits_one x (body.Offer d) h = h
  fits_one x body.Yes h = tt
  fits_one x (body.No d) h = go (counts x.proposer m.from m.ballot) refl
    where
      go : (v : Bool) → counts x.proposer m.from m.ballot ≡ v → IfSome (refusal_over v x.proposer.updates d) One
      go true e = unclashed x.proposer.updates (set_of d) (λ id clash. h e id (inl (inl clash)))
      go false e = tt
  fits_one x (body.Tell told) h = tt

  pub receivable_one : IsReceivable r (whole_of m) → IsOneIn r m
  receivable_one h = go (slice_get r.instances m.instance) h.1
    where
      go : (o : Option Instance) → IsSomeAnd o (λ x. FitsBody x (whole_of m) (whole_body m.body))
          → IsSomeAnd o (λ x. IsOneAt x m)
      go None k = k
      go (Some x) k = fits_one x m.body k

-- ## Made anew

pub over_alike : (s : Histories) (d e : DeltaState) → AreAlikeDeltas d e → IsOver s d → IsOver s e
over_alike s d e h over = record {
  base = subst (HasCounts s) h.0 over.base;
  next = subst₂ (λ c us. AreNext (within s c) us) h.0 h.1 over.next;
}

abbrev StandsBody : Instance → (from ballot : ℕ) → code_body.Body → Type 0
StandsBody x from ballot c = IfSome (told_in_body x from ballot c) (λ t. IsOver t.over t.delta)

body_alike : (x : Instance) (from ballot : ℕ) (c e : code_body.Body) → AreAlikeBodies c e → StandsBody x from ballot c
    → StandsBody x from ballot e
body_alike x from ballot (body.Offer d) (body.Offer e) h over = over_alike x.acceptor d e h over
body_alike x from ballot body.Yes body.Yes h over = tt
body_alike x from ballot (body.No d) (body.No e) h over = go (counts x.proposer from ballot) over
  where
    go : (v : Bool) → IfSome (refusal_over v x.proposer.updates d) (λ t. IsOver t.over t.delta)
        → IfSome (refusal_over v x.proposer.updates e) (λ t. IsOver t.over t.delta)
    go true k = over_alike x.proposer.updates d e h k
    go false k = tt
body_alike x from ballot (body.Tell s) (body.Tell t) h over = tt
body_alike x from ballot _ _ h over = absurd h

-- what stands stands as it is made anew
pub alike_stands : (r : ReplicaState) (m n : code.Message) → AreAlike m n → StandsIn r m → StandsIn r n
alike_stands r m n h stands =
    subst (λ i. IsSomeAnd (slice_get r.instances i) (λ x. StandsAt x n)) h.instance
    (go (slice_get r.instances m.instance) stands)
  where
    go : (o : Option Instance) → IsSomeAnd o (λ x. StandsAt x m) → IsSomeAnd o (λ x. StandsAt x n)
    go None k = k
    go (Some x) k =
        subst₂ (λ f b. StandsBody x f b n.body) h.from h.ballot (body_alike x m.from m.ballot m.body n.body h.body k)
