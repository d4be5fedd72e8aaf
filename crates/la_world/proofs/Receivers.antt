-- That a message fits its receiver may be shown from any list of events that leads to a world: each part
-- of it is decided, or is a denial.
use Rattle.std.proofs.Common.{◌≡◌, Bool, true, false, Option, Some, None, IsSomeAnd, slice_get, refl, sym, ◌∙◌}
use Rattle.std.proofs.Math.Logic.{∥∥₁_elim}
use Rattle.std.proofs.Math.Nat.{ℕ_set}
use Rattle.std.proofs.Math.Bridge.{le_prop}
use Rattle.std.proofs.lemmas.Bool.{false≢true}
use Rattle.la_set.specs.Histories.{Histories}
use Rattle.la_set.specs.ObjectOps.{update_eq}
use Rattle.la_set.specs.Join.{IsCompatible}
use Rattle.la_set.proofs.lemmas.Decisions.{update_eq-Decides}
use Rattle.la_replica.specs.declared.instance.Instance.{Instance}
use Rattle.la_replica.specs.Whole.{Message, Body, Offer, Yes, No, Tell}
use Rattle.la_replica.specs.ReplicaState.{ReplicaState}
use Rattle.la_replica.specs.Refusals.{IsFor, FitsBody, SparesBody}
use Rattle.la_replica.specs.Fitting.{FitsReceiver, FitsViewBody}

module _ {A : Type 0} (some : ∥ A ∥₁) where
  never : (A → ⊥) → ⊥
  never f = ∥∥₁_elim some (hlevel) f

  pub compatible_from : (a b : Histories) → (A → IsCompatible a b) → IsCompatible a b
  compatible_from a b h u v p q e = go (update_eq u v) refl
    where
      go : (w : Bool) → update_eq u v ≡ w → u ≡ v
      go true is = (update_eq-Decides u v).0 is
      go false is = absurd (never (λ x. false≢true (sym is ∙ (update_eq-Decides u v).1 (h x u v p q e))))

  body_fits : (at : Instance) (m : Message) (b : Body) → (A → FitsBody at m b) → FitsBody at m b
  body_fits at m (Offer s) h = compatible_from at.acceptor s h
  body_fits at m Yes h = tt
  body_fits at m (No s) h = λ c id k. never (λ x. h x c id k)
  body_fits at m (Tell s) h = tt

  body_spares : (at : Instance) (m : Message) (b : Body) → (A → SparesBody at m b) → SparesBody at m b
  body_spares at m (Offer s) h = tt
  body_spares at m Yes h = λ c k. never (λ x. h x c k)
  body_spares at m (No s) h = λ c k. never (λ x. h x c k)
  body_spares at m (Tell s) h = tt

  view_fits : (at : Instance) (view : Histories) (m : Message) (b : Body) → (A → FitsViewBody at view m b)
      → FitsViewBody at view m b
  view_fits at view m (Offer s) h = tt
  view_fits at view m Yes h = λ e. compatible_from view at.proposer.updates (λ x. h x e)
  view_fits at view m (No s) h = λ e. compatible_from view at.proposer.updates (λ x. h x e)
  view_fits at view m (Tell s) h = λ e. compatible_from view s (λ x. h x e)

  in_some : (o : Option Instance) (P : Instance → Type 0) → ((at : Instance) → (A → P at) → P at) → (A → IsSomeAnd o P)
      → IsSomeAnd o P
  in_some None P f h = absurd (never h)
  in_some (Some at) P f h = f at h

  is_for : (m : ReplicaState) (message : Message) → (A → IsFor m message) → IsFor m message
  is_for m message h =
      (∥∥₁_elim some (hlevel (ℕ_set, le_prop)) (λ x. (h x).0), ∥∥₁_elim some (hlevel (ℕ_set, le_prop)) (λ x. (h x).1))

pub fits_from : {A : Type 0} (at : ReplicaState) (m : Message) → ∥ A ∥₁ → (A → FitsReceiver at m) → FitsReceiver at m
fits_from at m some h = record {
  receivable = (
    is_for some at m (λ x. (h x).receivable.0),
    in_some some (slice_get at.instances m.instance) (λ y. FitsBody y m m.body) (λ y. body_fits some y m m.body)
        (λ x. (h x).receivable.1),
  );
  spares =
      in_some some (slice_get at.instances m.instance) (λ y. SparesBody y m m.body) (λ y. body_spares some y m m.body)
      (λ x. (h x).spares);
  view =
      in_some some (slice_get at.instances m.instance) (λ y. FitsViewBody y at.view m m.body)
      (λ y. view_fits some y at.view m m.body) (λ x. (h x).view);
}
