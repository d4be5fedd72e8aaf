-- How far the view and the sets of instance 0's ballots agree, step after step.
use Rattle.std.proofs.Common.{◌≡◌, ◌<◌, Option, Some, None, IfSome, [], ◌∷◌, sym, ap, subst, subst₂}
use Rattle.la_set.specs.ObjectOps.{ObjectOp}
use Rattle.la_set.specs.declared.counts.Counts.{Counts}
use Rattle.la_set.specs.Histories.{Histories}
use Rattle.la_set.specs.Inclusion.{IsSubset}
use Rattle.la_set.specs.AgreeWithin.{AgreeWithin}
use Rattle.la_set.specs.Counts.{counts_of}
use Rattle.la_set.proofs.lemmas.WithinCounts.{agree_by}
use Rattle.la_set.proofs.lemmas.Theorems.{subset-refl, subset-join_left}
use Rattle.la_acceptor.specs.declared.reply.Reply.TheVariants as replied
use Rattle.la_proposer.specs.Inputs.{Submitted, Replied}
use Rattle.la_proposer.proofs.lemmas.Growing.{inputs_grow}
use Rattle.la_replica.specs.declared.change.Change.{Change}
use Rattle.la_replica.specs.declared.instance.Instance.{Instance}
use Rattle.la_replica.specs.declared.out.Out.{Out}
use Rattle.la_replica.specs.declared.sender.Sender.{Sender}
use Rattle.la_replica.specs.Whole.{Message, Body, Offer, Yes, No, Tell, whole_out}
use Rattle.la_replica.specs.Steps.{Step, submits, receives, receives_body}
use Rattle.la_replica.specs.Changes.{proposer_after, view_next, step_by, LeavesAgreeing, SaysWhatIsLearnt}
use Rattle.la_replica.proofs.lemmas.Growing.{body_grows}

-- ## Sets

learnt_agrees : (s t : Histories) → IsSubset s t → AgreeWithin (counts_of s) s t
learnt_agrees s t sub = agree_by s s t (subset-refl s) sub

-- ## Steps

body_updates : (s : Sender) (x : Instance) (view : Histories) (m : Message) (b : Body) → x.proposer.own < 8
    → IsSubset x.proposer.updates (receives_body s x view m b).at.proposer.updates
body_updates s x view m (Offer offered) known = subset-refl x.proposer.updates
body_updates s x view m Yes known = inputs_grow x.proposer (Replied m.from m.ballot replied.Yes ∷ []) known
body_updates s x view m (No accepted) known =
    inputs_grow x.proposer (Replied m.from m.ballot (replied.No accepted) ∷ []) known
body_updates s x view m (Tell told) known = subset-refl x.proposer.updates

body_accepts : (s : Sender) (x : Instance) (view : Histories) (m : Message) (b : Body)
    → IsSubset x.acceptor (receives_body s x view m b).at.acceptor
body_accepts s x view m (Offer offered) = subset-join_left x.acceptor offered
body_accepts s x view m Yes = subset-refl x.acceptor
body_accepts s x view m (No accepted) = subset-refl x.acceptor
body_accepts s x view m (Tell told) = subset-refl x.acceptor

module _ (x : Instance) (view : Histories) (out : Out) (c : Change) where
  abbrev after : Histories
  after = (proposer_after x.proposer c.proposer).updates

  said : IsSubset x.proposer.updates after → (o : Option Counts)
      → IfSome o (λ b. (b ≡ counts_of x.proposer.updates) × (c.view ≡ Some x.proposer.updates))
      → IfSome o (λ b. AgreeWithin b (view_next view c.view) after)
  said grows None says = tt
  said grows (Some b) says =
      subst₂ (λ n v. AgreeWithin n v after) (sym says.0) (sym (ap (view_next view) says.1))
      (learnt_agrees x.proposer.updates after grows)

  pub message_leaves : (s : Sender) (m : Message) → x.proposer.own < 8
      → receives s x view m ≡ step_by x view (whole_out out) c → SaysWhatIsLearnt x.proposer c → LeavesAgreeing view x c
  message_leaves s m known step says =
      let grows : IsSubset x.proposer.updates after =
      subst (IsSubset x.proposer.updates) (ap (λ (z : Step). z.at.proposer.updates) step)
      (body_updates s x view m m.body known) in
      record {
        accepted_grows =
            subst (IsSubset x.acceptor) (ap (λ (z : Step). z.at.acceptor) step) (body_accepts s x view m m.body);
        view_grows = subst (IsSubset view) (ap (λ (z : Step). z.view) step) (body_grows s x view m m.body);
        updates_grow = grows;
        agreed = said grows c.agreed says;
      }

  pub submission_leaves : (s : Sender) (d : ObjectOp) → x.proposer.own < 8
      → submits s x view d ≡ step_by x view (whole_out out) c → c.agreed ≡ None → LeavesAgreeing view x c
  submission_leaves s d known step none = record {
    accepted_grows =
        subst (IsSubset x.acceptor) (ap (λ (z : Step). z.at.acceptor) step) (subset-refl x.acceptor);
    view_grows = subst (IsSubset view) (ap (λ (z : Step). z.view) step) (subset-refl view);
    updates_grow =
        subst (IsSubset x.proposer.updates) (ap (λ (z : Step). z.at.proposer.updates) step)
        (inputs_grow x.proposer (Submitted d ∷ []) known);
    agreed = subst (λ o. IfSome o (λ b. AgreeWithin b (view_next view c.view) after)) (sym none) tt;
  }
