-- One replica as a participant of adopt-commit objects: whatever it receives it submits at most once in
-- each instance of an object, and in a second one after it has learnt in the first.
use Rattle.std.proofs.Common.{◌≡◌, ◌⊎◌, inl, inr, ℕ, zero, suc, ◌+◌, ◌*◌, ◌<◌, ◌≤◌, ◌%◌, true, List, ◌∷◌, length, replicate, slice_get, slice_set, Option, Some, None, IsSome, IsSomeAnd, option_map, option_and_then, refl, ap, sym, ◌∙◌, subst, arith, eqb-true}
use Rattle.std.proofs.Math.Nat.{div-add-mod, mod-lt}
use Rattle.std.proofs.lemmas.Bool.{true≢false}
use Rattle.std.proofs.lemmas.List.{length-set, length-replicate}
use Rattle.std.proofs.lemmas.Option.{none-some, same_Some, slice_get_within}
use Rattle.la_set.specs.ObjectOps.{ObjectOp}
use Rattle.la_set.specs.Histories.{Histories}
use Rattle.la_set.specs.Inclusion.{IsSubset}
use Rattle.la_set.proofs.lemmas.Inclusions.{subset-trans}
use Rattle.la_set.proofs.lemmas.SetHistories.{history-empty}
use Rattle.la_proposer.specs.ProposerState.{ProposerState, submitted}
use Rattle.la_proposer.specs.Refusals.{SubmissionSpends}
use Rattle.la_commit.specs.declared.instance.TheConstants.{MAX_COMMITS}
use Rattle.la_commit.specs.Instances.{first_instance, second_instance, is_first_instance, commit_of}
use Rattle.la_replica.specs.declared.instance.Instance.{Instance}
use Rattle.la_replica.specs.Whole.{Message, Out}
use Rattle.la_replica.specs.Refusals.{HasRoom, SubmittingSpares}
use Rattle.la_replica.specs.Steps.{Step, fresh, learnt_in, receives_body}
use Rattle.la_replica.specs.Steps as steps
use Rattle.la_replica.specs.ReplicaState.{ReplicaState, start, submitted_in, with_instance, after_step, sender_of, submits, receives}
use Rattle.la_replica.proofs.lemmas.Growing.{receives_grows, submits_grows}
use Rattle.la_node.specs.SecondVotes.{Submission, second_vote_in}
use Rattle.la_node.specs.Taking.{Taken, with_vote, vote_due, then_votes, takes, VoteFits}
use Rattle.la_node.specs.Nodes.{SubmitsOnce, IsParticipant}
use Rattle.la_node.proofs.lemmas.SecondVotes.{second_vote_in_is}
use Rattle.la_node.proofs.lemmas.Items.{exists, get_set, get_put}
use Rattle.la_node.proofs.SubmittingOnce.{none_learnt, submitted_once, Advances, body_advances, body_learns}

-- ## A replica

-- in the first instance of the object of which this is the second one, a set was learnt
abbrev Leads : ReplicaState → (instance : ℕ) → Type 0
Leads r i =
    (k : ℕ) (w : Instance) → i ≡ second_instance k → slice_get r.instances (first_instance k) ≡ Some w → IsSome w.learnt

module _ (r : ReplicaState) (i : ℕ) (x y : Instance) (view : Histories) (at : slice_get r.instances i ≡ Some x)
    (is : IsParticipant r) where
  after : ReplicaState
  after = with_instance r i y view

  long : length (slice_set r.instances i y) ≡ length r.instances
  long = length-set r.instances i y

  participates : (0 < i → SubmitsOnce y.proposer y.learnt) → (0 < i → IsSome x.learnt → IsSome y.learnt)
      → (0 < i → 1 ≤ submitted y.proposer → (1 ≤ submitted x.proposer) ⊎ Leads r i)
      → IsParticipant (with_instance r i y view)
  participates once learnt cast = record {
    odd = ap (λ n. n % 2) long ∙ is.odd;
    few = omega (arith, is.few, long);
    once = λ j z lt e. elim (get_set r.instances i j y z e) [
      | inl p ↦ subst (λ (w : Instance). SubmitsOnce w.proposer w.learnt) p.1 (once (omega (arith, lt, p.0)))
      | inr p ↦ is.once j z lt p
    ];
    second = second;
  }
    where
      voted : (k : ℕ) (a : Instance) → i ≡ second_instance k → slice_get r.instances (first_instance k) ≡ Some a
          → 1 ≤ submitted y.proposer → IsSome a.learnt
      voted k a e ea some = elim (cast (omega (arith, e)) some) [
        | inl was ↦ is.second k a x ea (subst (λ j. slice_get r.instances j ≡ Some x) e at) was
        | inr leads ↦ leads k a e ea
      ]

      second : (k : ℕ) (a b : Instance) → slice_get (slice_set r.instances i y) (first_instance k) ≡ Some a
          → slice_get (slice_set r.instances i y) (second_instance k) ≡ Some b → 1 ≤ submitted b.proposer
          → IsSome a.learnt
      second k a b ea eb some = elim (get_set r.instances i (first_instance k) y a ea) [
        | inl p ↦ elim (get_set r.instances i (second_instance k) y b eb) [
          | inl q ↦ absurd (omega (arith, p.0, q.0))
          | inr q ↦ subst (λ (w : Instance). IsSome w.learnt) p.1 (learnt (omega (arith, p.0)) (is.second k x b (subst (λ j. slice_get r.instances j ≡ Some x) (sym p.0) at) q some))
        ]
        | inr p ↦ elim (get_set r.instances i (second_instance k) y b eb) [
          | inl q ↦ voted k a (sym q.0) p (subst (λ (w : Instance). 1 ≤ submitted w.proposer) (sym q.1) some)
          | inr q ↦ is.second k a b p q some
        ]
      ]

-- what a step comes to, where there is such an instance
pub stepped : (r : ReplicaState) (i : ℕ) (f : Instance → Step) (out : Out) (end : ReplicaState) (o : Option Instance)
    → slice_get r.instances i ≡ o → option_map (λ x. after_step r i (f x)) o ≡ Some (out, end)
    → (x : Instance) × (slice_get r.instances i ≡ Some x) × (out.said ≡ (f x).said)
    × (end ≡ with_instance r i (f x).at (f x).view)
stepped r i f out end None at made = absurd (none-some _ made)
stepped r i f out end (Some x) at made =
    let same = same_Some _ _ made in
    (x, at, ap (λ (t : Out × ReplicaState). t.0.said) (sym same), ap (λ (t : Out × ReplicaState). t.1) (sym same))

pub received_in : (r : ReplicaState) (m : Message) (out : Out) (after : ReplicaState) → receives r m ≡ Some (out, after)
    → (x : Instance) × (slice_get r.instances m.instance ≡ Some x)
    × (out.said ≡ (receives_body (sender_of r m.instance) x r.view m m.body).said)
received_in r m out after made =
    let step =
    stepped r m.instance (λ x. steps.receives (sender_of r m.instance) x r.view m) out after
    (slice_get r.instances m.instance) refl made in
    (step.0, step.1, step.2)

is_zero : (n : ℕ) → (1 ≤ n → ⊥) → n ≡ 0
is_zero zero h = refl
is_zero (suc n) h = absurd (h (omega arith))

spares_unused : (p : ProposerState) → p.number ≡ 0 → SubmissionSpends p → ⊥
spares_unused p e h = let most = h.1 in omega (arith, most, e)

-- a second vote that is due: by this set, in the second instance of the same object
pub record IsVoteOf (i : ℕ) (vote : Submission) (o : Option Histories) : Type 0 where
  pub set : Histories
  pub learnt : o ≡ Some set
  pub first : is_first_instance i ≡ true
  pub second : vote.instance ≡ second_instance (commit_of i)

pub due_is : (i r : ℕ) (o : Option Histories) (vote : Submission) → option_and_then (second_vote_in i r) o ≡ Some vote
    → IsVoteOf i vote o
due_is i r None vote e = absurd (none-some vote e)
due_is i r (Some s) vote e =
    let is = second_vote_in_is i r s vote e in
    record { set = s; learnt = refl; first = is.0; second = is.1 }

-- a submission in an instance of an object in which there was none
submission_participates : (r : ReplicaState) (i : ℕ) (d : ObjectOp) (out : Out) (end : ReplicaState) → IsParticipant r
    → ((y : Instance) → slice_get r.instances i ≡ Some y → submitted y.proposer ≡ 0) → Leads r i
    → submits r i d ≡ Some (out, end) → IsParticipant end
submission_participates r i d out end is none leads e =
    let step = stepped r i (λ x. steps.submits (sender_of r i) x r.view d) out end (slice_get r.instances i) refl e in
    subst IsParticipant (sym step.3)
    (participates r i step.0 _ _ step.1 is
    (λ lt. submitted_once step.0.proposer step.0.learnt (is.once i step.0 lt step.1) d (none step.0 step.1))
    (λ lt some. some) (λ lt some. inr leads))

module _ (r : ReplicaState) (m : Message) (out : Out) (after : ReplicaState) (is : IsParticipant r)
    (made : receives r m ≡ Some (out, after)) where
  abbrev f : Instance → Step
  f x = steps.receives (sender_of r m.instance) x r.view m

  pub step : (x : Instance) × (slice_get r.instances m.instance ≡ Some x) × (out.said ≡ (f x).said)
      × (after ≡ with_instance r m.instance (f x).at (f x).view)
  step = stepped r m.instance f out after (slice_get r.instances m.instance) refl made

  pub advances : 0 < m.instance → Advances step.0 (f step.0).at
  advances lt = body_advances (sender_of r m.instance) step.0 r.view m m.body (is.once m.instance step.0 lt step.1)

  pub receipt_participates : IsParticipant after
  receipt_participates = subst IsParticipant (sym step.3)
      (participates r m.instance step.0 (f step.0).at (f step.0).view step.1 is (λ lt. (advances lt).once)
      (λ lt some. subst IsSome (sym ((advances lt).learnt some)) some)
      (λ lt some. inl ((advances lt).submitted some)))

  -- ## The second vote

  module _ (vote : Submission) (due : vote_due m.instance r.own out.said ≡ Some vote) where
    is_due : IsVoteOf m.instance vote (learnt_in out.said)
    is_due = due_is m.instance r.own (learnt_in out.said) vote due

    abbrev k : ℕ
    k = commit_of m.instance

    pub is_first : m.instance ≡ first_instance k
    is_first = let odd = eqb-true (m.instance % 2) 1 is_due.first in omega (arith, div-add-mod m.instance 2, odd)

    learning : (step.0.proposer.is_asking ≡ true) × IsSome (f step.0).at.learnt
    learning =
        let both =
        body_learns (sender_of r m.instance) step.0 r.view m m.body is_due.set
        (ap learnt_in (sym step.2) ∙ is_due.learnt) in
        (both.0, subst IsSome (sym both.1) refl)

    within : vote.instance < length r.instances
    within =
        let lt = slice_get_within r.instances m.instance step.0 step.1 in
        omega (arith, lt, is_first, is_due.second, is.odd, div-add-mod (length r.instances) 2)

    none_yet : (y : Instance) → slice_get r.instances vote.instance ≡ Some y → submitted y.proposer ≡ 0
    none_yet y at = is_zero (submitted y.proposer) (λ some.
        none_learnt step.0.proposer step.0.learnt (is.once m.instance step.0 (omega (arith, is_first)) step.1)
        learning.0
        (is.second k step.0 y (subst (λ j. slice_get r.instances j ≡ Some step.0) is_first step.1) (subst (λ j. slice_get r.instances j ≡ Some y) is_due.second at) some))

    above : 0 < vote.instance
    above = omega (arith, is_due.second)

    pub vote_fits : HasRoom r vote.instance × SubmittingSpares r vote.instance
    vote_fits =
        let y = exists r.instances vote.instance within in
        let none = none_yet y.0 y.1 in
        let once = is.once vote.instance y.0 above y.1 in (
          subst (λ o. IsSomeAnd o (λ x. submitted x.proposer < x.proposer.cap)) (sym y.1)
              (omega (arith, none, once.cap)),
          subst (λ o. IsSomeAnd o (λ x. ¬ SubmissionSpends x.proposer)) (sym y.1)
              (spares_unused y.0.proposer (once.unused none)),
        )

    leads : Leads after vote.instance
    leads j w e ew =
        let same : j ≡ k = omega (arith, e, is_due.second) in
        let here : slice_get after.instances m.instance ≡ Some (f step.0).at =
        subst (λ (z : ReplicaState). slice_get z.instances m.instance ≡ Some (f step.0).at) (sym step.3)
        (get_put r.instances m.instance step.0 (f step.0).at step.1) in
        let at_first : first_instance j ≡ m.instance = omega (arith, same, is_first) in
        subst (λ (z : Instance). IsSome z.learnt)
        (same_Some (f step.0).at w (sym here ∙ subst (λ i. slice_get after.instances i ≡ Some w) at_first ew))
        learning.1

    still_none : (y : Instance) → slice_get after.instances vote.instance ≡ Some y → submitted y.proposer ≡ 0
    still_none y at =
        elim
        (get_set r.instances m.instance vote.instance (f step.0).at y
        (subst (λ (z : ReplicaState). slice_get z.instances vote.instance ≡ Some y) step.3 at)) [
          | inl p ↦ absurd (omega (arith, p.0, is_first, is_due.second))
          | inr p ↦ none_yet y p
        ]

    pub vote_participates : (cast : Out) (end : ReplicaState)
        → submits after vote.instance vote.object_op ≡ Some (cast, end) → IsParticipant end
    vote_participates cast end e =
        submission_participates after vote.instance vote.object_op cast end receipt_participates still_none leads e

-- a message that is taken, with the vote to which it leads, leaves a participant
pub taken_participates : (r : ReplicaState) (m : Message) (taken : Taken) (end : ReplicaState) → IsParticipant r
    → takes r m ≡ Some (taken, end) → IsParticipant end × IsSubset r.view end.view
taken_participates r m taken end is e = go (receives r m) refl e
  where
    go : (o : Option (Out × ReplicaState)) → receives r m ≡ o
        → option_and_then (λ (made : Out × ReplicaState). then_votes made (vote_due m.instance r.own made.0.said)) o
        ≡ Some (taken, end) → IsParticipant end × IsSubset r.view end.view
    go None received h = absurd (none-some _ h)
    go (Some made) received h = with_due (vote_due m.instance r.own made.0.said) refl h
      where
        grows : IsSubset r.view made.1.view
        grows = receives_grows r m made.0 made.1 received

        with_due : (v : Option Submission) → vote_due m.instance r.own made.0.said ≡ v
            → then_votes made v ≡ Some (taken, end) → IsParticipant end × IsSubset r.view end.view
        with_due None due l =
            subst (λ (z : ReplicaState). IsParticipant z × IsSubset r.view z.view)
            (ap (λ (t : Taken × ReplicaState). t.1) (same_Some _ _ l))
            (receipt_participates r m made.0 made.1 is received, grows)
        with_due (Some vote) due l = with_cast (submits made.1 vote.instance vote.object_op) refl l
          where
            with_cast : (c : Option (Out × ReplicaState)) → submits made.1 vote.instance vote.object_op ≡ c
                → option_map {U = Taken × ReplicaState}
                (λ (cast : Out × ReplicaState). (with_vote made.0 vote.instance cast.0, cast.1)) c ≡ Some (taken, end)
                → IsParticipant end × IsSubset r.view end.view
            with_cast None cast l = absurd (none-some _ l)
            with_cast (Some c) cast l =
                subst (λ (z : ReplicaState). IsParticipant z × IsSubset r.view z.view)
                (ap (λ (t : Taken × ReplicaState). t.1) (same_Some _ _ l)) (
                  vote_participates r m made.0 made.1 is received vote due c.0 c.1 cast,
                  subset-trans r.view made.1.view c.1.view grows
                      (submits_grows made.1 vote.instance vote.object_op c.0 c.1 cast),
                )

pub votes_fit : (r : ReplicaState) (m : Message) → IsParticipant r → VoteFits r m
votes_fit r m is made vote received due = vote_fits r m made.0 made.1 is received vote due

-- ## Users' submissions

pub update_participates : (r : ReplicaState) (d : ObjectOp) (out : Out) (end : ReplicaState) → IsParticipant r
    → submits r 0 d ≡ Some (out, end) → IsParticipant end
update_participates r d out end is e =
    let step = stepped r 0 (λ x. steps.submits (sender_of r 0) x r.view d) out end (slice_get r.instances 0) refl e in
    subst IsParticipant (sym step.3)
    (participates r 0 step.0 _ _ step.1 is (λ lt. absurd (omega (arith, lt))) (λ lt. absurd (omega (arith, lt)))
    (λ lt. absurd (omega (arith, lt))))

pub proposal_participates : (r : ReplicaState) (k : ℕ) (d : ObjectOp) (out : Out) (end : ReplicaState) → IsParticipant r
    → submitted_in r (first_instance k) ≡ Some 0 → submits r (first_instance k) d ≡ Some (out, end) → IsParticipant end
proposal_participates r object d out end is none e =
    submission_participates r (first_instance object) d out end is
    (λ y at. same_Some (submitted y.proposer) 0 (sym (ap (option_map (λ x. submitted x.proposer)) at) ∙ none))
    (λ j w same at. absurd (omega (arith, same))) e

-- ## A new replica

get_replicate : {A : Type 0} (n i : ℕ) (x y : A) → slice_get (replicate n x) i ≡ Some y → x ≡ y
get_replicate zero zero x y e = absurd (none-some y e)
get_replicate zero (suc i) x y e = absurd (none-some y e)
get_replicate (suc n) zero x y e = same_Some x y e
get_replicate (suc n) (suc i) x y e = get_replicate n i x y e

get_later : {A : Type 0} (z x y : A) (n i : ℕ) → 0 < i → slice_get (z ∷ replicate n x) i ≡ Some y → x ≡ y
get_later z x y n zero lt e = absurd (omega (arith, lt))
get_later z x y n (suc i) lt e = get_replicate n i x y e

pub start_participates : (votes : List ℕ) (own cap commits : ℕ) → own < 8 → commits ≤ MAX_COMMITS
    → IsParticipant (start votes own cap commits)
start_participates votes own cap commits known few = record {
  odd =
      let n = length (replicate (2 * commits) (fresh votes own 1)) + 1 in
      let lt : n % 2 < 2 = mod-lt n (omega arith) in omega (arith, lt, div-add-mod n 2, long);
  few = omega (arith, long, few);
  once = once;
  second = λ k x y ex ey some. absurd (none_submitted k y ey some);
}
  where
    long : length (replicate (2 * commits) (fresh votes own 1)) ≡ 2 * commits
    long = length-replicate (2 * commits) (fresh votes own 1)

    new_once : SubmitsOnce (fresh votes own 1).proposer (fresh votes own 1).learnt
    new_once = record {
      known = known;
      cap = refl;
      waits = refl;
      asks = λ e. absurd (true≢false (sym e));
      learnt_idles = λ e. absurd (true≢false (sym e));
      unused = λ e. refl;
    }

    once : (i : ℕ) (x : Instance) → 0 < i → slice_get (start votes own cap commits).instances i ≡ Some x
        → SubmitsOnce x.proposer x.learnt
    once zero x lt e = absurd (omega (arith, lt))
    once (suc i) x lt e =
        subst (λ (z : Instance). SubmitsOnce z.proposer z.learnt)
        (get_later (fresh votes own cap) (fresh votes own 1) x (2 * commits) (suc i) lt e) new_once

    none_submitted : (k : ℕ) (y : Instance)
        → slice_get (start votes own cap commits).instances (second_instance k) ≡ Some y → 1 ≤ submitted y.proposer → ⊥
    none_submitted k y e some =
        let same =
        get_later (fresh votes own cap) (fresh votes own 1) y (2 * commits) (second_instance k) (omega arith) e in
        let most = subst (λ (z : Instance). 1 ≤ submitted z.proposer) (sym same) some in
        let none = ap length (history-empty own) in
        omega (arith, most, none)
