-- A message that is told further.
use Rattle.std.proofs.Common.{◌≡◌, ◌⊎◌, Option, Some, None, IfSome, unwrap_or, refl, ap, sym, subst, inl, inr}
use Rattle.la_set.specs.declared.counts.Counts.{Counts}
use Rattle.la_set.specs.Histories.{Histories, empty}
use Rattle.la_set.specs.Deltas.{DeltaState, delta_over, further_of, further_base}
use Rattle.la_replica.specs.declared.message.Message as code
use Rattle.la_replica.specs.declared.message.Body as code_body
use Rattle.la_replica.specs.declared.message.Body.TheVariants as body
use Rattle.la_replica.specs.Whole.{set_of}
use Rattle.la_replica.specs.Rebased.{rebased, rebased_body, IsBaseOf, MayBeOver, further_body, further_counts}
use Rattle.la_replica.specs.Rebased.{IsOfferOver, FurtherIsRebased}

delta_is : (c : Counts) (d : DeltaState) (o : Option Histories) → d.made_of ≡ o
    → IfSome (further_of o c d).made_of (IsBaseOf (further_of o c d).base)
    → (further_of o c d ≡ d) ⊎ ((b : Counts) × IsBaseOf b (set_of d) × (further_of o c d ≡ rebased b d))
delta_is c d None e over = inl refl
delta_is c d (Some s) e over = inr (
  further_base s d.base c,
  subst (λ z. IsBaseOf (further_base s d.base c) (unwrap_or z empty)) (sym e) over,
  ap (λ z. delta_over (unwrap_or z empty) (further_base s d.base c)) (sym e),
)

body_is : (c : Counts) (b : code_body.Body) → IsOfferOver (further_body c b)
    → (further_body c b ≡ b) ⊎ ((k : Counts) × MayBeOver k b × (further_body c b ≡ rebased_body k b))
body_is c (body.Offer d) over = elim (delta_is c d d.made_of refl over) [
  | inl same ↦ inl (ap body.Offer same)
  | inr is ↦ inr (is.0, is.1, ap body.Offer is.2)
]
body_is c body.Yes over = inl refl
body_is c (body.No d) over = inl refl
body_is c (body.Tell told) over = inl refl

abbrev with_body : code.Message → code_body.Body → code.Message
with_body m b = record { instance = m.instance; from = m.from; to = m.to; ballot = m.ballot; body = b }

pub further_is_rebased : FurtherIsRebased
further_is_rebased c m over = elim (body_is (further_counts c m.instance) m.body over) [
  | inl same ↦ inl (ap (with_body m) same)
  | inr is ↦ inr (is.0, is.1, ap (with_body m) is.2)
]
