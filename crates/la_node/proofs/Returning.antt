-- What one replica returned it still returns after each of its steps, and what it is told to return by a
-- message it returns from then on.
use Rattle.std.proofs.Common.{◌≡◌, ◌≢◌, inl, inr, ℕ, zero, suc, ◌<◌, Bool, true, false, cond, List, [], ◌∷◌, Option, Some, None, IsSome, slice_get, slice_set, option_map, option_and_then, refl, ap, sym, ◌∙◌, subst, arith}
use Rattle.std.proofs.lemmas.Bool.{cases_eq}
use Rattle.std.proofs.lemmas.Option.{none-some, same_Some}
use Rattle.la_set.specs.ObjectOps.{ObjectOp}
use Rattle.la_set.specs.Histories.{Histories}
use Rattle.la_proposer.specs.declared.ballot.Ballot.{Ballot}
use Rattle.la_commit.specs.declared.outcome.Outcome.{Outcome}
use Rattle.la_commit.specs.Instances.{second_instance, is_second_instance}
use Rattle.la_commit.specs.Outcomes.{outcome_of}
use Rattle.la_replica.specs.declared.instance.Instance.{Instance}
use Rattle.la_replica.specs.declared.out.Said.{Said}
use Rattle.la_replica.specs.Whole.{Message, Out}
use Rattle.la_replica.specs.Steps.{Step, learnt_in}
use Rattle.la_replica.specs.Steps as steps
use Rattle.la_replica.specs.ReplicaState.{ReplicaState, learnt_of, with_instance, sender_of, submits, receives}
use Rattle.la_node.specs.SecondVotes.{Submission}
use Rattle.la_commit.specs.Outcomes.{outcome_in}
use Rattle.la_node.specs.Nodes.{returned_by}
use Rattle.la_node.specs.Taking.{Taken, with_vote, vote_due, then_votes, takes}
use Rattle.la_node.specs.Nodes.{IsParticipant, OutcomesStayIn, ReturnsIn, outcome_due}
use Rattle.la_node.proofs.lemmas.Items.{get_put}
use Rattle.la_node.proofs.SubmittingOnce.{body_learns}
use Rattle.la_node.proofs.Voters.{stepped, step, advances, is_first}

-- what stands at other places stays
get_else : {A : Type 0} (xs : List A) (k q : ℕ) (y : A) → k ≢ q → slice_get (slice_set xs k y) q ≡ slice_get xs q
get_else [] k q y ne = refl
get_else (x ∷ xs) zero zero y ne = absurd (ne refl)
get_else (x ∷ xs) zero (suc q) y ne = refl
get_else (x ∷ xs) (suc k) zero y ne = refl
get_else (x ∷ xs) (suc k) (suc q) y ne = get_else xs k q y (λ e. ne (ap suc e))

-- ## One instance

-- what r returns by what it learnt last
abbrev returns_by : (r : ℕ) → Option Ballot → Option Outcome
returns_by r learnt = option_and_then (λ s. outcome_of s r) (option_map (λ (b : Ballot). b.updates) learnt)

some_learnt : (r : ℕ) (l : Option Ballot) (o : Outcome) → returns_by r l ≡ Some o → IsSome l
some_learnt r None o e = absurd (none-some o e)
some_learnt r (Some b) o e = refl

module _ (r : ReplicaState) (i : ℕ) (x y : Instance) (view : Histories) (at : slice_get r.instances i ≡ Some x) where
  at_place : (k : ℕ) → i ≡ second_instance k
      → (returned_by k r ≡ returns_by r.own x.learnt)
      × (returned_by k (with_instance r i y view) ≡ returns_by r.own y.learnt)
  at_place k same = (
    ap (λ o. option_and_then (λ s. outcome_of s r.own) (learnt_of o))
        (subst (λ j. slice_get r.instances j ≡ Some x) same at),
    ap (λ o. option_and_then (λ s. outcome_of s r.own) (learnt_of o))
        (subst (λ j. slice_get (slice_set r.instances i y) j ≡ Some y) same (get_put r.instances i x y at)),
  )

  -- what was learnt in an instance of an object stays
  pub stays_with : (0 < i → IsSome x.learnt → y.learnt ≡ x.learnt) → OutcomesStayIn r (with_instance r i y view)
  stays_with keeps k o e = elim (cases_eq i (second_instance k)) [
    | inl same ↦
        let p = at_place k same in
        let had = sym p.0 ∙ e in
        p.1 ∙ ap (returns_by r.own) (keeps (omega (arith, same)) (some_learnt r.own x.learnt o had)) ∙ had
    | inr ne ↦ ap (λ l. option_and_then (λ s. outcome_of s r.own) (learnt_of l)) (get_else r.instances i (second_instance k) y ne) ∙ e
  ]

-- ## A submission, and a message

pub submission_stays : (r : ReplicaState) (i : ℕ) (d : ObjectOp) (out : Out) (end : ReplicaState)
    → submits r i d ≡ Some (out, end) → OutcomesStayIn r end
submission_stays r i d out end e =
    let did = stepped r i (λ x. steps.submits (sender_of r i) x r.view d) out end (slice_get r.instances i) refl e in
    subst (OutcomesStayIn r) (sym did.3)
    (stays_with r i did.0 (steps.submits (sender_of r i) did.0 r.view d).at r.view did.1 (λ lt some. refl))

module _ (r : ReplicaState) (m : Message) (out : Out) (after : ReplicaState) (is : IsParticipant r)
    (made : receives r m ≡ Some (out, after)) where
  abbrev f : Instance → Step
  f x = steps.receives (sender_of r m.instance) x r.view m

  receipt_stays : OutcomesStayIn r after
  receipt_stays =
      let did = step r m out after is made in
      subst (OutcomesStayIn r) (sym did.3)
      (stays_with r m.instance did.0 (f did.0).at (f did.0).view did.1
      (λ lt. (advances r m out after is made lt).learnt))

  -- where a set is learnt in a second instance, this is what is returned by it
  receipt_returns : (s : Histories) (k : ℕ) (o : Outcome) → learnt_in out.said ≡ Some s → m.instance ≡ second_instance k
      → outcome_of s r.own ≡ Some o → returned_by k after ≡ Some o
  receipt_returns s k o learns at e =
      let did = step r m out after is made in
      let kept = (body_learns (sender_of r m.instance) did.0 r.view m m.body s (ap learnt_in (sym did.2) ∙ learns)).1 in
      ap (returned_by k) did.3
      ∙ (at_place r m.instance did.0 (f did.0).at (f did.0).view did.1 k at).1
      ∙ ap (returns_by r.own) kept ∙ e

-- ## With the vote that is due

-- what a message leads to: without a vote, or with one
data Cases (r : ReplicaState) (m : Message) (taken : Taken) (end : ReplicaState) : Type 0 where
  plain : (out : Out) → receives r m ≡ Some (out, end) → taken.said ≡ out.said → Cases r m taken end
  votes : (out cast : Out) (then : ReplicaState) (vote : Submission) → receives r m ≡ Some (out, then)
      → vote_due m.instance r.own out.said ≡ Some vote → submits then vote.instance vote.object_op ≡ Some (cast, end)
      → taken.said ≡ out.said → Cases r m taken end

cases : (r : ReplicaState) (m : Message) (taken : Taken) (end : ReplicaState) → takes r m ≡ Some (taken, end)
    → Cases r m taken end
cases r m taken end e = go (receives r m) refl e
  where
    go : (o : Option (Out × ReplicaState)) → receives r m ≡ o
        → option_and_then (λ (made : Out × ReplicaState). then_votes made (vote_due m.instance r.own made.0.said)) o
        ≡ Some (taken, end) → Cases r m taken end
    go None received h = absurd (none-some _ h)
    go (Some made) received h = with_due (vote_due m.instance r.own made.0.said) refl h
      where
        with_due : (v : Option Submission) → vote_due m.instance r.own made.0.said ≡ v
            → then_votes made v ≡ Some (taken, end) → Cases r m taken end
        with_due None due l =
            let same = same_Some _ _ l in
            plain made.0 (received ∙ ap (λ (t : Taken × ReplicaState). Some (made.0, t.1)) same)
            (ap (λ (t : Taken × ReplicaState). t.0.said) (sym same))
        with_due (Some vote) due l = with_cast (submits made.1 vote.instance vote.object_op) refl l
          where
            with_cast : (c : Option (Out × ReplicaState)) → submits made.1 vote.instance vote.object_op ≡ c
                → option_map {U = Taken × ReplicaState}
                (λ (cast : Out × ReplicaState). (with_vote made.0 vote.instance cast.0, cast.1)) c ≡ Some (taken, end)
                → Cases r m taken end
            with_cast None cast l = absurd (none-some _ l)
            with_cast (Some c) cast l =
                let same = same_Some _ _ l in
                votes made.0 c.0 made.1 vote received due
                (cast ∙ ap (λ (t : Taken × ReplicaState). Some (c.0, t.1)) same)
                (ap (λ (t : Taken × ReplicaState). t.0.said) (sym same))

pub taken_stays : (r : ReplicaState) (m : Message) (taken : Taken) (end : ReplicaState) → IsParticipant r
    → takes r m ≡ Some (taken, end) → OutcomesStayIn r end
taken_stays r m taken end is e = go (cases r m taken end e)
  where
    go : Cases r m taken end → OutcomesStayIn r end
    go (plain out received said) = receipt_stays r m out end is received
    go (votes out cast then vote received due voted said) =
        λ k o had.
        submission_stays then vote.instance vote.object_op cast end voted k o
        (receipt_stays r m out then is received k o had)

-- an outcome is by a set that was learnt in a second instance
due_by : (i r : ℕ) (said : Said) (o : Outcome) → outcome_due i r said ≡ Some o
    → (s : Histories) × (learnt_in said ≡ Some s) × (outcome_of s r ≡ Some o)
due_by i r said o e = go (learnt_in said) refl e
  where
    in_second : (v : Bool) (s : Histories) → cond v (outcome_of s r) None ≡ Some o → outcome_of s r ≡ Some o
    in_second true s h = h
    in_second false s h = absurd (none-some o h)

    go : (l : Option Histories) → learnt_in said ≡ l → option_and_then (outcome_in i r) l ≡ Some o
        → (s : Histories) × (learnt_in said ≡ Some s) × (outcome_of s r ≡ Some o)
    go None f h = absurd (none-some o h)
    go (Some s) f h = (s, f, in_second (is_second_instance i) s h)

pub taken_returns : (r : ReplicaState) (m : Message) (taken : Taken) (end : ReplicaState) (told : Option Outcome)
    → IsParticipant r → takes r m ≡ Some (taken, end) → told ≡ outcome_due m.instance r.own taken.said
    → ReturnsIn m.instance told end
taken_returns r m taken end told is e tells k o at has = go (cases r m taken end e)
  where
    by : (s : Histories) × (learnt_in taken.said ≡ Some s) × (outcome_of s r.own ≡ Some o)
    by = due_by m.instance r.own taken.said o (sym tells ∙ has)

    go : Cases r m taken end → returned_by k end ≡ Some o
    go (plain out received said) =
        receipt_returns r m out end is received by.0 k o (ap learnt_in (sym said) ∙ by.1) at by.2
    go (votes out cast then vote received due voted said) =
        absurd (let first = is_first r m out then is received vote due in omega (arith, first, at))

-- what is told by a copy of what was learnt
pub told_by : (i own r : ℕ) (entry learnt : Option Histories) (said : Said) (told : Option Outcome)
    → told ≡ option_and_then (outcome_in i own) entry → entry ≡ learnt → learnt ≡ learnt_in said → own ≡ r
    → told ≡ outcome_due i r said
told_by i own r entry learnt said told is copied learns same =
    is ∙ ap (option_and_then (outcome_in i own)) (copied ∙ learns) ∙ ap (λ q. outcome_due i q said) same
