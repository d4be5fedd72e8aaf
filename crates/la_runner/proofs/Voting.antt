-- A member's votes: what it has submitted in an instance of an adopt-commit object, and learnt there.
use Rattle.std.proofs.Common.{◌≡◌, ◌≢◌, ◌⊎◌, inl, inr, ℕ, ◌+◌, ◌≤◌, arith, Bool, true, false, true≢false, cond, List, [], ◌∷◌, ◌++◌, length, Option, Some, None, option_map, refl, ap, sym, ◌∙◌, subst, append-nil}
use Rattle.std.specs.Prelude.{IfSome, IsSome, IsSomeAnd, option_and_then}
use Rattle.std.specs.List.{slice_get, slice_set}
use Rattle.std.proofs.lemmas.Bool.{cases_eq}
use Rattle.la_set.specs.declared.update.Update.{Update}
use Rattle.la_set.specs.ObjectOps.{ObjectOp, update_of}
use Rattle.la_set.specs.Histories.{Histories, history}
use Rattle.la_commit.specs.declared.vote.Vote.{Vote}
use Rattle.la_commit.specs.Instances.{first_instance, second_instance}
use Rattle.la_commit.specs.Votes.{vote_of, own_vote, HoldsVote, casts, first_vote_for, second_vote}
use Rattle.la_proposer.specs.ProposerState.{ProposerState, submitted, is_nothing}
use Rattle.la_proposer.specs.Inputs.{all_submitted}
use Rattle.la_proposer.specs.declared.error.ProposerError.{ProposerError}
use Rattle.la_proposer.specs.declared.error.ProposerError.TheVariants as proposer
use Rattle.la_proposer.specs.Refusals.{IsSubmitRefusal}
use Rattle.la_shared.specs.Passes.{Known}
use Rattle.la_runner.specs.declared.error.RunnerError.{RunnerError}
use Rattle.la_runner.specs.declared.error.RunnerError.TheVariants as errors
use Rattle.la_runner.specs.Certificates.{HasOwnCertificate}
use Rattle.la_runner.specs.Sound.{IsSound}
use Rattle.la_runner.specs.Instances.{InstanceState, with_update, vote_submitted, IsLearntSet, InstanceSteps, MayCast, HasCast}
use Rattle.la_runner.specs.Members.{MemberState, submitted_of, instance_learnt, member_learnt}
use Rattle.la_runner.specs.Participants.{IsMemberParticipant, HasVotedSet, MayVote}
use Rattle.la_runner.specs.Refusals.{of_member_proposer, IsRoundsRefusal, IsMemberSubmissionRefusal, IsVoteRefusal, IsVoteError, IsRefusedVote}
use Rattle.la_runner.proofs.Keeping.{with_instance, there, own_certified, refused_after, participant_stays}
use Rattle.la_runner.proofs.Passing.{get-set_other}
use Rattle.la_runner.proofs.Updating.{submitted_is}

-- ## The one update of an instance

pub vote_there : (s : Histories) (r k : ℕ) (v : Vote) → history s r ≡ casts k v ∷ [] → HoldsVote s r v
vote_there s r k v e =
    ap (λ h. option_and_then (λ (u : Update). vote_of u.op) (option_map (update_of r 1) (slice_get h 0))) e

pub no_vote : (s : Histories) (r : ℕ) → history s r ≡ [] → own_vote s r ≡ None
no_vote s r e = ap (λ h. option_and_then (λ (u : Update). vote_of u.op) (option_map (update_of r 1) (slice_get h 0))) e

single : (h w : List ObjectOp) (d : ObjectOp) → 1 ≤ length h → h ++ w ≡ d ∷ [] → h ≡ d ∷ []
single [] w d some e = absurd (omega arith)
single (x ∷ []) w d some e = let same : x ≡ d = cc in ap (λ z. z ∷ []) same
single (x ∷ y ∷ h) w d some e = absurd (let long = ap length e in omega (arith, long))

nothing : (h w : List ObjectOp) → h ++ w ≡ [] → h ≡ []
nothing [] w e = refl
nothing (x ∷ h) w e = absurd (let long = ap length e in omega (arith, long))

nothing_after : (h w : List ObjectOp) → h ++ w ≡ [] → 1 ≤ length h → ⊥
nothing_after h w e some = let none = ap length (nothing h w e) in omega (arith, none, some)

-- the last ballot's set has taken it
pub taken_in : (p : ProposerState) (ps : List Known) (d : ObjectOp) → IsSound p ps → all_submitted p ≡ d ∷ []
    → history p.updates p.own ≡ d ∷ []
taken_in p ps d is e = go p.is_asking refl
  where
    go : (b : Bool) → p.is_asking ≡ b → history p.updates p.own ≡ d ∷ []
    go true asks = single (history p.updates p.own) p.waiting d (is.asks_own asks) e
    go false rests =
        sym (append-nil (history p.updates p.own)) ∙ ap (λ w. history p.updates p.own ++ w) (sym (is.rests rests)) ∙ e

pub none_taken : (p : ProposerState) → all_submitted p ≡ [] → history p.updates p.own ≡ []
none_taken p e = nothing (history p.updates p.own) p.waiting e

-- a learnt set has it
pub learnt_one : (p : ProposerState) (ps : List Known) (s : Histories) (d : ObjectOp) → IsLearntSet p ps s
    → all_submitted p ≡ d ∷ [] → history s p.own ≡ d ∷ []
learnt_one p ps s d l e = single (history s p.own) l.taken.0 d l.some (l.taken.1 ∙ e)

-- ## A vote in an instance

pub some_is : {A : Type 0} (o : Option A) (a : A) → o ≡ Some a → IsSome o
some_is o a e = subst IsSome (sym e) refl

none_submitted : (k : ℕ) (v : Vote) (x : InstanceState) → submitted x.proposer ≡ 0 → MayCast k v x
    → all_submitted x.proposer ≡ []
none_submitted k v x zero_is (inl e) = e
none_submitted k v x zero_is (inr e) =
    absurd (let long = ap length e in let is = submitted_is x.proposer in omega (arith, long, is, zero_is))

-- with the vote, whether it was submitted or is now
vote_is : (k : ℕ) (v : Vote) (x : InstanceState) (ds : List ObjectOp) → all_submitted x.proposer ≡ ds
    → vote_submitted k v x ≡ cond (is_nothing ds) (with_update (casts k v) x) x
vote_is k v x ds e = ap (λ l. cond (is_nothing l) (with_update (casts k v) x) x) e

-- which errors a vote may be refused with
rounds_error : (rounds first last : ℕ) (e : RunnerError) → IsRoundsRefusal rounds first last e → IsVoteError e
rounds_error rounds first last (errors.Clash id) h = tt
rounds_error rounds first last errors.BallotsSpent h = tt
rounds_error rounds first last errors.Memory h = tt
rounds_error rounds first last errors.NoMajority h = tt
rounds_error rounds first last errors.TryAgain h = tt
rounds_error rounds first last errors.BadConfig h = absurd h
rounds_error rounds first last errors.NoSuchCommit h = absurd h
rounds_error rounds first last errors.AlreadyProposed h = absurd h
rounds_error rounds first last errors.Full h = absurd h

submission_error : (p : ProposerState) (e : RunnerError) (refused : ProposerError) → 1 ≤ p.cap → submitted p ≡ 0
    → e ≡ of_member_proposer refused → IsSubmitRefusal p refused → IsVoteError e
submission_error p e proposer.Full cap none same h = absurd (omega (arith, h, none, cap))
submission_error p e proposer.BallotsSpent cap none same h = subst IsVoteError (sym same) tt
submission_error p e proposer.Memory cap none same h = subst IsVoteError (sym same) tt
submission_error p e proposer.NoSuchReplica cap none same h = absurd h
submission_error p e (proposer.Clash id) cap none same h = absurd h

-- ## A member's vote

module _ (m : MemberState) (k : ℕ) (v : Vote) (i : ℕ) (x y : InstanceState) (at : slice_get m.instances i ≡ Some x)
  where
    here : slice_get (slice_set m.instances i y) i ≡ Some y
    here = there m i x y at

    beside : (j : ℕ) → j ≢ i → slice_get (slice_set m.instances i y) j ≡ slice_get m.instances j
    beside j ne = get-set_other m.instances i j y ne

    in_first : i ≡ first_instance k → v ≡ first_vote_for v.value → (IsSome x.learnt → y ≡ x) → MayCast k v y
        → IsMemberParticipant m k → IsMemberParticipant (with_instance m i y) k
    in_first e form stays may p = record {
      first = elim may [
        | inl none ↦ inl (ap submitted_of mine ∙ none)
        | inr one ↦ inr (v.value, ap submitted_of mine ∙ one ∙ ap (λ w. casts k w ∷ []) form)
      ];
      second = elim p.second [
        | inl none ↦ inl (ap submitted_of other ∙ none)
        | inr h ↦
            let learnt : x.learnt ≡ Some h.first =
            ap instance_learnt (sym (subst (λ z. slice_get m.instances z ≡ Some x) e at)) ∙ h.learnt in
            inr (record {
              first = h.first;
              vote = h.vote;
              learnt =
                  ap instance_learnt mine ∙ ap (λ (z : InstanceState). z.learnt) (stays (some_is x.learnt h.first learnt))
                  ∙ learnt;
              leads = h.leads;
              cast = ap submitted_of other ∙ h.cast;
            })
      ];
    }
      where
        mine : slice_get (slice_set m.instances i y) (first_instance k) ≡ Some y
        mine = subst (λ z. slice_get (slice_set m.instances i y) z ≡ Some y) e here

        other : slice_get (slice_set m.instances i y) (second_instance k) ≡ slice_get m.instances (second_instance k)
        other = beside (second_instance k) (λ s. omega (arith, s, e))

    in_second : i ≡ second_instance k → (s : Histories) → member_learnt m (first_instance k) ≡ Some s
        → second_vote s m.replica ≡ Some v → MayCast k v y → IsMemberParticipant m k → IsMemberParticipant (with_instance m i y) k
    in_second e s learnt leads may p = record {
      first = elim p.first [
        | inl none ↦ inl (ap submitted_of other ∙ none)
        | inr w ↦ inr (w.0, ap submitted_of other ∙ w.1)
      ];
      second = elim may [
        | inl none ↦ inl (ap submitted_of mine ∙ none)
        | inr one ↦ inr (record { first = s; vote = v; learnt = ap instance_learnt other ∙ learnt; leads = leads; cast = ap submitted_of mine ∙ one })
      ];
    }
      where
        mine : slice_get (slice_set m.instances i y) (second_instance k) ≡ Some y
        mine = subst (λ z. slice_get (slice_set m.instances i y) z ≡ Some y) e here

        other : slice_get (slice_set m.instances i y) (first_instance k) ≡ slice_get m.instances (first_instance k)
        other = beside (first_instance k) (λ s. omega (arith, s, e))

    place : MayVote k v i m → (i ≡ first_instance k) ⊎ (i ≡ second_instance k)
    place may = elim may.leads [ inl h ↦ inl h.0 | inr h ↦ inr h.0 ]

    other_commit : (j : ℕ) → j ≢ k → (i ≡ first_instance k) ⊎ (i ≡ second_instance k) → IsMemberParticipant m j
        → IsMemberParticipant (with_instance m i y) j
    other_commit j ne (inl e) p =
        participant_stays m (with_instance m i y) j refl (beside (first_instance j) (λ s. ne (omega (arith, s, e))))
        (beside (second_instance j) (λ s. absurd (omega (arith, s, e)))) p
    other_commit j ne (inr e) p =
        participant_stays m (with_instance m i y) j refl (beside (first_instance j) (λ s. absurd (omega (arith, s, e))))
        (beside (second_instance j) (λ s. ne (omega (arith, s, e)))) p

    pub participants_after : ((j : ℕ) → IsMemberParticipant m j) → MayVote k v i m → (IsSome x.learnt → y ≡ x) → MayCast k v y
        → (j : ℕ) → IsMemberParticipant (with_instance m i y) j
    participants_after are may stays cast j = elim (cases_eq j k) [
      | inl e ↦ subst (IsMemberParticipant (with_instance m i y)) (sym e) (elim may.leads [
        | inl h ↦ in_first h.0 h.1 stays cast (are k)
        | inr h ↦ in_second h.0 h.1 h.2 h.3 cast (are k)
      ])
      | inr ne ↦ other_commit j ne (place may) (are j)
    ]

    pub may_cast : MayVote k v i m → MayCast k v x
    may_cast may = elim may.once [
      | inl e ↦ inl (sym (ap submitted_of at) ∙ e)
      | inr e ↦ inr (sym (ap submitted_of at) ∙ e)
    ]

    module _ (votes : x.proposer.votes ≡ m.votes) (own : x.proposer.own ≡ m.replica) (steps : InstanceSteps x y) where
      pub voted : HasCast k v y → HasVotedSet (with_instance m i y) i v
      voted cast = go y.learnt refl cast.learnt
        where
          go : (o : Option Histories) → y.learnt ≡ o → IsSome o → HasVotedSet (with_instance m i y) i v
          go None e h = absurd (true≢false (sym h))
          go (Some s) e h =
              let l = subst (λ z. IfSome z (IsLearntSet y.proposer y.passes)) e steps.is.learnt in (
                s,
                record {
                  learnt = ap instance_learnt here ∙ e;
                  own =
                      own_certified m i x y at s votes
                      (subst (λ vs. HasOwnCertificate vs y.passes s) steps.follows.votes l.own);
                  holds =
                      vote_there s m.replica k v
                      (subst (λ o. history s o ≡ casts k v ∷ []) (steps.follows.own ∙ own)
                      (learnt_one y.proposer y.passes s (casts k v) l cast.submitted));
                },
              )

    pub refused : (rounds : ℕ) (e : RunnerError) → IsVoteRefusal rounds k v x y e
        → IsRefusedVote rounds k v i m (with_instance m i y) e
    refused rounds e (inl h) =
        inl (ap submitted_of here ∙ h.0, subst (λ o. IsSomeAnd o (λ z. IsMemberSubmissionRefusal z.proposer e)) (sym here) h.1)
    refused rounds e (inr h) = inr (ap submitted_of here ∙ h.0, refused_after m i x y at (vote_submitted k v) rounds e h.1)
