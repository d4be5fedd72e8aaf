-- What the test decides by which a replica is taken up again.
use Rattle.std.proofs.Common.{◌≡◌, ℕ, ◌≤◌, true, List, [], ◌∷◌, length, slice_get, IsSomeAnd, refl, sym, subst, subst₂, arith, nat_eq, leb}
use Rattle.std.specs.Bool.{Decides}
use Rattle.std.specs.List.{list_all}
use Rattle.std.specs.Cmp.Lexicographic.{pointwise}
use Rattle.std.proofs.lemmas.Bool.{leb-true, le-leb}
use Rattle.std.proofs.lemmas.Bool.Decides.{Decides-and, Decides-like, Decides-by_and, Decides-ltb, Decides-eqb}
use Rattle.std.proofs.lemmas.Slice.Eq.{slice_eq-Decides}
use Rattle.la_set.specs.declared.counts.Counts.{Counts}
use Rattle.la_set.specs.Counts.{zero_counts}
use Rattle.la_set.specs.Histories.{Histories}
use Rattle.la_set.specs.AgreeWithin.{AgreeWithin}
use Rattle.la_set.proofs.lemmas.WithinCounts.{none_agreed}
use Rattle.la_replica.specs.declared.instance.Instance.{Instance}
use Rattle.la_replica.specs.ReplicaState.{ReplicaState}
use Rattle.la_replica.specs.Invariant.{IsOf, IsReplicaState}
use Rattle.la_replica.specs.Fields.{AgreesSoFar, AgreesAccepted, AcceptedSoFar}
use Rattle.la_replica.specs.Resuming.{is_instance_of, may_resume_replica, IsResumableReplica}

Decides-leb : (a b : ℕ) → Decides (leb a b) (a ≤ b)
Decides-leb a b = (leb-true a b, le-leb a b)

module _ (r : ReplicaState) where
  one-Decides : (x : Instance) → Decides (is_instance_of r.votes r.own x) (IsOf r.votes r.own x)
  one-Decides x =
      Decides-and _ _ (slice_eq-Decides Decides-eqb x.proposer.votes r.votes (pointwise nat_eq x.proposer.votes r.votes) refl)
      (Decides-eqb x.proposer.own r.own)

  pub may_resume_replica-Decides : Decides (may_resume_replica r) (IsResumableReplica r)
  unfolding may_resume_replica
  may_resume_replica-Decides =
      Decides-like (may_resume_replica r)
      (λ q. record {
        is_replica = record { known = q.0; few = q.1.0; numbered = q.1.1.1.0; alike = q.1.1.1.1 };
        has_first = q.1.1.0;
      })
      (λ is. let s = is.is_replica in (s.known, (s.few, (is.has_first, (s.numbered, s.alike)))))
      (Decides-and _ _ (Decides-ltb r.own (length r.votes))
      (Decides-and _ _ (Decides-leb (length r.votes) 8)
      (Decides-and _ _ (Decides-leb 1 (length r.instances))
      (Decides-and _ _ (Decides-leb (length r.instances) 33)
      (Decides-by_and (is_instance_of r.votes r.own) (IsOf r.votes r.own) (list_all (is_instance_of r.votes r.own)) one-Decides refl (λ _ _. refl) r.instances)))))

first_agrees : (xs : List Instance) (view : Histories) → 1 ≤ length xs
    → IsSomeAnd (slice_get xs 0) (λ x. AgreeWithin zero_counts view x.proposer.updates)
first_agrees [] view some = absurd (omega arith)
first_agrees (x ∷ xs) view some = none_agreed view x.proposer.updates

first_accepted : (xs : List Instance) (view : Histories) → 1 ≤ length xs
    → IsSomeAnd (slice_get xs 0) (AgreesAccepted zero_counts zero_counts view)
first_accepted [] view some = absurd (omega arith)
first_accepted (x ∷ xs) view some = (none_agreed view x.acceptor, none_agreed x.acceptor x.proposer.updates)

-- the invariant of what is taken up again: within no counts all sets agree
pub resumes : (r : ReplicaState) (none of_view of_ballot : Counts) → none ≡ zero_counts → of_view ≡ zero_counts
    → of_ballot ≡ zero_counts → may_resume_replica r ≡ true
    → IsReplicaState r × (AgreesSoFar none r × AcceptedSoFar of_view of_ballot r)
resumes r none of_view of_ballot is view_is ballot_is e =
    let may = (may_resume_replica-Decides r).0 e in (
      may.is_replica,
      (
        subst (λ n. AgreesSoFar n r) (sym is) (first_agrees r.instances r.view may.has_first),
        subst₂ (λ v b. AcceptedSoFar v b r) (sym view_is) (sym ballot_is)
            (first_accepted r.instances r.view may.has_first),
      ),
    )

has_first : (xs : List Instance) (P : Instance → Type 0) → IsSomeAnd (slice_get xs 0) P → 1 ≤ length xs
has_first [] P there = absurd there
has_first (x ∷ xs) P there = omega arith

-- every replica may be
pub replicas_resume : (r : ReplicaState) (agreed : Counts) → IsReplicaState r × AgreesSoFar agreed r
    → may_resume_replica r ≡ true
replicas_resume r agreed is =
    (may_resume_replica-Decides r).1 (record {
      is_replica = is.0;
      has_first = has_first r.instances (λ x. AgreeWithin agreed r.view x.proposer.updates) is.1;
    })
