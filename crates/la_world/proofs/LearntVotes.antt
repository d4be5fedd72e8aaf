-- What a set holds that was learnt in an instance of an adopt-commit object, where no event is
-- refused: only votes that were submitted there.
use Rattle.std.proofs.Common.{◌≡◌, ℕ, zero, suc, ◌<◌, ◌≤◌, inl, inr, List, [], ◌∷◌, Contains, Some, option_and_then, sym, ◌∙◌, ap, subst, arith}
use Rattle.std.proofs.lemmas.Bool.{cases_lt}
use Rattle.std.proofs.lemmas.Option.{same_Some, none-some}
use Rattle.la_set.specs.declared.update.Update.{Update}
use Rattle.la_set.specs.ObjectOps.{ObjectOp, object_op_of, update_of}
use Rattle.la_set.specs.Histories.{object_op_number, ContainsUpdate}
use Rattle.la_set.specs.Inclusion.{IsSubset}
use Rattle.la_set.proofs.lemmas.SetHistories.{history_past}
use Rattle.la_set.proofs.lemmas.Inclusions.{object_op-contains}
use Rattle.la_commit.specs.declared.vote.Vote.{Vote}
use Rattle.la_commit.specs.Votes.{vote_of, votes, HoldsVote, first_vote_for, second_vote_for, casts}
use Rattle.la_commit.proofs.lemmas.Casting.{votes-cast}
use Rattle.la_commit.specs.Instances.{first_instance, second_instance}
use Rattle.la_world.specs.declared.step.Opening.{Opening}
use Rattle.la_world.specs.declared.step.Learnt.{Learnt}
use Rattle.la_world.specs.Groups.{Group, replicas}
use Rattle.la_world.specs.Events.{Event, Decide}
use Rattle.la_world.specs.Trace.{Trace}
use Rattle.la_world.specs.Ballots.{ballots}
use Rattle.la_world.specs.Submissions.{submitted_ops, whole}
use Rattle.la_world.specs.Learnings.{learnt}
use Rattle.la_world.specs.Playing.{trace}
use Rattle.la_world.specs.StandsFor.{IsLegalTrace}
use Rattle.la_world.proofs.Lists.{IsIn, AllIn_at, contains_IsIn}
use Rattle.la_world.proofs.Quorum.{learnt_ballot}
use Rattle.la_world.proofs.Within.{IsBallotWithin}
use Rattle.la_world.proofs.SubmittedBound.{history-whole}
use Rattle.la_world.proofs.Traces.{holds}
use Rattle.la_world.proofs.Chains.{learning_justified}
use Rattle.la_world.proofs.InGroup.{IsOfGroup, grouped}
use Rattle.la_world.proofs.SubmittedVotes.{proposals, HasProposed, HasVoted, second_votes_cast}
use Rattle.la_world.proofs.OwnFirst.{learnt_first}

-- ## One update

numbered_none : (n : ℕ) (d : ObjectOp) → object_op_number [] n ≡ Some d → ⊥
numbered_none zero d e = none-some d e
numbered_none (suc n) d e = none-some d e

numbered_one : (c : ObjectOp) (n : ℕ) (d : ObjectOp) → object_op_number (c ∷ []) n ≡ Some d → c ≡ d
numbered_one c zero d e = absurd (none-some d e)
numbered_one c (suc zero) d e = same_Some c d e
numbered_one c (suc (suc n)) d e = absurd (none-some d e)

-- ## A learnt set

-- a vote of it is that of a value which was proposed to object k
pub record IsProposal (events : List Event) (k : ℕ) (v : Vote) : Type 0 where
  pub replica : ℕ
  pub value : ℕ
  pub accepted : Contains events (Decide replica k value)
  pub is : v ≡ first_vote_for value

-- a vote of it is one to which such a set of some replica leads
pub record IsSecond (t : Trace) (k : ℕ) (v : Vote) : Type 0 where
  pub replica : ℕ
  pub voted : HasVoted t k replica
  pub is : v ≡ second_vote_for voted.first.updates voted.value

module _ (g : Group) (events : List Event) (few : replicas g ≤ 8) (legal : IsLegalTrace g events) (x : Learnt)
    (was : Contains (learnt (trace g events)) x) where
  opened : IsIn (learnt_ballot x) (ballots (trace g events) x.instance x.replica)
  opened = (learning_justified g events x (contains_IsIn (learnt (trace g events)) x was)).opened

  known : x.replica < 8
  known =
      let of =
      AllIn_at (λ (b : Opening). IsOfGroup g x.instance x.replica) (ballots (trace g events) x.instance x.replica)
      (learnt_ballot x) ((grouped g events legal).ballots x.instance x.replica) opened in
      let lt = of.replica in
      omega (arith, lt, few)

  within : IsSubset x.updates (whole (trace g events) x.instance)
  within =
      AllIn_at (IsBallotWithin whole (trace g events) x.instance) (ballots (trace g events) x.instance x.replica)
      (learnt_ballot x) ((holds g events).submitted.ballot x.instance x.replica) opened

  -- each of its updates was submitted
  update_submitted : (u : Update) → ContainsUpdate x.updates u
      → object_op_number (submitted_ops (trace g events) x.instance u.id.replica) u.id.number ≡ Some (object_op_of u)
  update_submitted u member =
      let t = trace g events in
      let at = object_op-contains (whole t x.instance) u (within u member) in
      elim (cases_lt u.id.replica 8) [
        | inl lt ↦ subst (λ ds. object_op_number ds u.id.number ≡ Some (object_op_of u)) (history-whole t x.instance u.id.replica lt) at
        | inr le ↦ absurd (numbered_none u.id.number (object_op_of u) (subst (λ ds. object_op_number ds u.id.number ≡ Some (object_op_of u)) (history_past (whole t x.instance) u.id.replica le) at))
      ]

  -- where these are all that its replica submitted there, it is one of them
  submitted_at : (i : ℕ) → x.instance ≡ i → (u : Update) → ContainsUpdate x.updates u → (ds : List ObjectOp)
      → submitted_ops (trace g events) i u.id.replica ≡ ds → object_op_number ds u.id.number ≡ Some (object_op_of u)
  submitted_at i at u member ds e =
      subst (λ zs. object_op_number zs u.id.number ≡ Some (object_op_of u))
      (ap (λ j. submitted_ops (trace g events) j u.id.replica) at ∙ e) (update_submitted u member)

  casts_only : (u : Update) (v w : Vote) (k : ℕ) → vote_of u.op ≡ Some v → casts k w ≡ object_op_of u → v ≡ w
  casts_only u v w k e same = sym (same_Some w v (ap (λ (d : ObjectOp). vote_of d.op) same ∙ e))

  pub first_votes : (k : ℕ) → x.instance ≡ first_instance k → (v : Vote) → Contains (votes x.updates) v
      → IsProposal events k v
  first_votes k at v has =
      let cast = votes-cast x.updates v has in
      let u = cast.update in
      let q = u.id.replica in
      elim (proposals g events legal k q) [
        | inl none ↦ absurd (numbered_none u.id.number (object_op_of u) (submitted_at (first_instance k) at u cast.member [] none))
        | inr p ↦
            let d = casts k (first_vote_for p.value) in
            record {
              replica = q;
              value = p.value;
              accepted = p.accepted;
              is =
                  casts_only u v (first_vote_for p.value) k cast.casts
                  (numbered_one d u.id.number (object_op_of u)
                  (submitted_at (first_instance k) at u cast.member (d ∷ []) p.all));
            }
      ]

  pub second_votes : (k : ℕ) → x.instance ≡ second_instance k → (v : Vote) → Contains (votes x.updates) v
      → IsSecond (trace g events) k v
  second_votes k at v has =
      let cast = votes-cast x.updates v has in
      let u = cast.update in
      let q = u.id.replica in
      elim (second_votes_cast g events legal k q) [
        | inl none ↦ absurd (numbered_none u.id.number (object_op_of u) (submitted_at (second_instance k) at u cast.member [] none))
        | inr w ↦
            let y = second_vote_for w.first.updates w.value in
            let d = casts k y in
            record {
              replica = q;
              voted = w;
              is =
                  casts_only u v y k cast.casts
                  (numbered_one d u.id.number (object_op_of u)
                  (submitted_at (second_instance k) at u cast.member (d ∷ []) w.all));
            }
      ]

  -- ## The learner's own vote

  abbrev r : ℕ
  r = x.replica

  abbrev own_op : ObjectOp
  own_op = (learnt_first g events x was).object_op

  own_submitted : (i : ℕ) → x.instance ≡ i → (ds : List ObjectOp) → submitted_ops (trace g events) i r ≡ ds
      → object_op_number ds 1 ≡ Some own_op
  own_submitted i at ds e = submitted_at i at (update_of r 1 own_op) (learnt_first g events x was).is ds e

  own_casts : (k : ℕ) (v : Vote) → casts k v ≡ own_op → HoldsVote x.updates r v
  own_casts k v same =
      ap (option_and_then (λ (u : Update). vote_of u.op)) (learnt_first g events x was).is
      ∙ sym (ap (λ (d : ObjectOp). vote_of d.op) same)

  pub own_first : (k : ℕ) → x.instance ≡ first_instance k
      → (p : HasProposed events (trace g events) k r) × HoldsVote x.updates r (first_vote_for p.value)
  own_first k at = elim (proposals g events legal k r) [
    | inl none ↦ absurd (numbered_none 1 own_op (own_submitted (first_instance k) at [] none))
    | inr p ↦ let d = casts k (first_vote_for p.value) in (p, own_casts k (first_vote_for p.value) (numbered_one d 1 own_op (own_submitted (first_instance k) at (d ∷ []) p.all)))
  ]

  pub own_second : (k : ℕ) → x.instance ≡ second_instance k
      → (w : HasVoted (trace g events) k r) × HoldsVote x.updates r (second_vote_for w.first.updates w.value)
  own_second k at = elim (second_votes_cast g events legal k r) [
    | inl none ↦ absurd (numbered_none 1 own_op (own_submitted (second_instance k) at [] none))
    | inr w ↦
        let v = second_vote_for w.first.updates w.value in
        let d = casts k v in
        (w, own_casts k v (numbered_one d 1 own_op (own_submitted (second_instance k) at (d ∷ []) w.all)))
  ]
