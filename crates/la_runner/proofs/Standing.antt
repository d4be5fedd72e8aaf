-- What is true of every member.
use Rattle.std.proofs.Common.{◌≡◌, ◌⊎◌, inl, inr, ℕ, zero, suc, List, [], ◌∷◌, ◌++◌, Option, Some, None, refl, sym, ◌∙◌, subst}
use Rattle.std.specs.Prelude.{IfSome}
use Rattle.std.specs.List.{slice_get}
use Rattle.std.proofs.lemmas.Bool.{cases_eq}
use Rattle.la_set.specs.ObjectOps.{ObjectOp, object_op_of}
use Rattle.la_set.specs.declared.update.Update.{Update}
use Rattle.la_set.specs.Histories.{Histories, history, object_op_number, ContainsUpdate}
use Rattle.la_set.proofs.lemmas.Theorems.{object_op-contains}
use Rattle.la_proposer.specs.Inputs.{all_submitted}
use Rattle.la_shared.specs.History.{HasEntry}
use Rattle.la_runner.specs.Certificates.{mine_at, HasCertificate, HasOwnCertificate}
use Rattle.la_runner.specs.Instances.{InstanceState, IsLearntSet}
use Rattle.la_runner.specs.Invariant.{IsIn, IsMember}
use Rattle.la_runner.specs.Laws.{CertifiedCompare, OwnAreCertified, CertificatesStay, ViewsAreCertified, ViewsCompare, LearntAreOwnCertified, NothingIsInvented}
use Rattle.la_acceptor.specs.declared.reply.Reply.{Reply}
use Rattle.la_runner.specs.Members.{MemberState, passes_of, passes_in, submitted_of, member_submitted, instance_learnt, instance_view, member_view}
use Rattle.la_runner.specs.Sound.{IsPassAt, IsView, IsMemberSubmission, WasTold}
use Rattle.la_set.specs.Inclusion.{IsSubset}
use Rattle.la_runner.proofs.Viewing.{empty_within}
use Rattle.la_runner.proofs.Certified.{mine_at_is, own_certificate, certificate_stays, own_certificate_stays, certificates_compare}

are_in : (m : MemberState) (is : IsMember m) (i : ℕ) (o : Option InstanceState) → slice_get m.instances i ≡ o → (a : ℕ)
    → IsPassAt (slice_get (passes_of o) a)
are_in m is i None e a = tt
are_in m is i (Some x) e a = (is.each i x e).0.sound.are a

pub passes_are : (m : MemberState) → IsMember m → (i a : ℕ) → IsPassAt (slice_get (passes_in m i) a)
passes_are m is i a = are_in m is i (slice_get m.instances i) refl a

pub certified_compare : CertifiedCompare
certified_compare m is i s t c d = certificates_compare m.votes (passes_in m i) s t (passes_are m is i) c d

pub own_are : OwnAreCertified
own_are m is i s c = own_certificate m.votes (passes_in m i) s (passes_are m is i) c

pub stay : CertificatesStay
stay old new g i s = (
  λ c.
      subst (λ vs. HasCertificate vs (passes_in new i) s) (sym g.votes)
      (certificate_stays old.votes (passes_in old i) (passes_in new i) s (g.seen i) c),
  λ c.
      subst (λ vs. HasOwnCertificate vs (passes_in new i) s) (sym g.votes)
      (own_certificate_stays old.votes (passes_in old i) (passes_in new i) s (g.mine i) c),
)

pub view_is : ViewsAreCertified
view_is m is = go (slice_get m.instances 0) refl
  where
    go : (o : Option InstanceState) → slice_get m.instances 0 ≡ o → IsView m.votes (passes_of o) (instance_view o)
    go None e = inl refl
    go (Some x) e = let in_m = is.each 0 x e in subst (λ vs. IsView vs x.passes x.view) in_m.1 in_m.0.view

pub view_compares : ViewsCompare
view_compares m is s c = elim (view_is m is) [
  | inl e ↦ inr (subst (λ z. IsSubset z s) (sym e) (empty_within s))
  | inr d ↦ certified_compare m is 0 s (member_view m) c d
]

pub learnt_is : LearntAreOwnCertified
learnt_is m is i s = go (slice_get m.instances i) refl
  where
    go : (o : Option InstanceState) → slice_get m.instances i ≡ o → instance_learnt o ≡ Some s
        → HasOwnCertificate m.votes (passes_of o) s
    go None e l = absurd (cc)
    go (Some x) e l =
        let in_m = is.each i x e in
        subst (λ vs. HasOwnCertificate vs x.passes s) in_m.1
        (subst (λ z. IfSome z (IsLearntSet x.proposer x.passes)) l in_m.0.learnt).own

get_first : (xs ys : List ObjectOp) (k : ℕ) (d : ObjectOp) → slice_get xs k ≡ Some d → slice_get (xs ++ ys) k ≡ Some d
get_first [] ys k d e = absurd (cc)
get_first (x ∷ xs) ys zero d e = e
get_first (x ∷ xs) ys (suc k) d e = get_first xs ys k d e

number_first : (xs ys : List ObjectOp) (n : ℕ) (d : ObjectOp) → object_op_number xs n ≡ Some d
    → object_op_number (xs ++ ys) n ≡ Some d
number_first xs ys zero d e = e
number_first xs ys (suc k) d e = get_first xs ys k d e

-- an own update of the last ballot's set was submitted
own_there : (m : MemberState) (x : InstanceState) → IsIn m x → (u : Update) → ContainsUpdate x.proposer.updates u
    → u.id.replica ≡ x.proposer.own → IsMemberSubmission m.replica (all_submitted x.proposer) u
own_there m x in_m u here e = (
  e
      ∙ in_m.2,
  number_first (history x.proposer.updates x.proposer.own) x.proposer.waiting u.id.number (object_op_of u)
      (subst (λ o. object_op_number (history x.proposer.updates o) u.id.number ≡ Some (object_op_of u)) e
      (object_op-contains x.proposer.updates u here)),
)

-- of an own offer's set the member's own updates are its submissions
pub own_submitted : (m : MemberState) → IsMember m → (i a : ℕ) (s : Histories) (r : Reply)
    → HasEntry (mine_at (passes_in m i) a) s r → (u : Update) → ContainsUpdate s u → u.id.replica ≡ m.replica
    → IsMemberSubmission m.replica (member_submitted m i) u
own_submitted m is i a s r entry u has own = go (slice_get m.instances i) refl entry
  where
    go : (o : Option InstanceState) → slice_get m.instances i ≡ o → HasEntry (mine_at (passes_of o) a) s r
        → IsMemberSubmission m.replica (submitted_of o) u
    go None e h = absurd (subst (λ l. HasEntry l s r) (mine_at_is [] a) h)
    go (Some x) e h =
        let in_m = is.each i x e in own_there m x in_m u (in_m.0.sound.within a s r h u has) (own ∙ sym in_m.2)

pub told_or_own : NothingIsInvented
told_or_own m is i a s r entry u has = go (slice_get m.instances i) refl entry
  where
    own_or_told : (x : InstanceState) → IsIn m x → ContainsUpdate x.proposer.updates u
        → IsMemberSubmission m.replica (all_submitted x.proposer) u ⊎ WasTold x.passes u
    own_or_told x in_m here = elim (cases_eq u.id.replica x.proposer.own) [
      | inl e ↦ inl (own_there m x in_m u here e)
      | inr ne ↦ inr (in_m.0.sound.told u here ne)
    ]

    go : (o : Option InstanceState) → slice_get m.instances i ≡ o → HasEntry (mine_at (passes_of o) a) s r
        → IsMemberSubmission m.replica (submitted_of o) u ⊎ WasTold (passes_of o) u
    go None e h = absurd (subst (λ l. HasEntry l s r) (mine_at_is [] a) h)
    go (Some x) e h = let in_m = is.each i x e in own_or_told x in_m (in_m.0.sound.within a s r h u has)
