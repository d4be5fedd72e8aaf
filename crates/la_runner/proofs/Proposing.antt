-- Whether a member may propose, what it votes for, and what it decides.
use Rattle.std.proofs.Common.{◌≡◌, ◌≢◌, inl, inr, ℕ, zero, suc, ◌<◌, ◌≤◌, arith, true≢false, List, [], ◌∷◌, length, map, Option, Some, None, option_map, refl, ap, sym, ◌∙◌, subst}
use Rattle.std.specs.Prelude.{IsSome, IsSomeAnd, option_and_then, Result, Ok, Err, IfErr}
use Rattle.std.specs.List.{slice_get, slice_index_or}
use Rattle.std.proofs.lemmas.Bool.{cases_eq}
use Rattle.la_set.specs.Histories.{Histories, history}
use Rattle.la_commit.specs.declared.vote.Vote.{Vote}
use Rattle.la_commit.specs.declared.outcome.Outcome.{Outcome}
use Rattle.la_commit.specs.Instances.{first_instance, second_instance}
use Rattle.la_commit.specs.Outcomes.{outcome, outcome_of}
use Rattle.la_commit.specs.Votes.{own_vote, HoldsVote, proposal, first_vote, first_vote_for, second_vote, second_vote_for}
use Rattle.la_runner.specs.declared.error.RunnerError.{RunnerError}
use Rattle.la_runner.specs.declared.error.RunnerError.TheVariants as errors
use Rattle.la_runner.specs.declared.group.Row.{Row}
use Rattle.la_runner.specs.declared.instance.Instance.{Instance}
use Rattle.la_runner.specs.declared.member.Member.TheInside.{Inside}
use Rattle.la_runner.specs.Certificates.{HasOwnCertificate}
use Rattle.la_runner.specs.Fields.{stands_for}
use Rattle.la_runner.specs.Following.{acceptors_of}
use Rattle.la_runner.specs.Instances.{InstanceState, state_of, vote_submitted}
use Rattle.la_runner.specs.Invariant.{IsMember}
use Rattle.la_runner.specs.Members.{MemberState, GroupState, passes_of, submitted_of, instance_learnt, member_learnt, acceptors_in, IsOfGroup, MemberGoesOn, IsOnlyIn}
use Rattle.la_runner.specs.Participants.{HasCommit, HasProposed, HasOther, IsVotedSet, IsDecision, MayVote, member_outcome, IsOnlyAt}
use Rattle.la_runner.specs.Refusals.{IsVoteError, IsRefusedVote, IsRefusedRounds, IsRefusedInEither, IsRefusedDecision}
use Rattle.la_runner.proofs.Keeping.{item_at, long_map, get_map}
use Rattle.la_runner.proofs.Telling.{as_many_rows, acceptors_there}
use Rattle.la_runner.proofs.Voting.{vote_there, no_vote, taken_in, none_taken}

pub some_same : {A : Type 0} {a b : A} → Some a ≡ Some b → a ≡ b
some_same e = cc

pub none_some : {A : Type 0} {a : A} → None ≡ Some a → ⊥
none_some e = cc

get_past : {A : Type 0} (xs : List A) (i : ℕ) → length xs ≤ i → slice_get xs i ≡ None
get_past [] i le = refl
get_past (x ∷ xs) zero le = absurd (omega arith)
get_past (x ∷ xs) (suc i) le = get_past xs i (omega arith)

pub no_outcome : (m : Inside) (n : MemberState) (k : ℕ) → stands_for m ≡ n → IsMember (stands_for m) → 16 ≤ k
    → None ≡ member_outcome n k
no_outcome m n k same is le =
    sym
    (ap (λ o. option_and_then (λ s. outcome_of s n.replica) (instance_learnt o))
    (ap (λ (z : MemberState). slice_get z.instances (second_instance k)) (sym same)
    ∙ get_past (map state_of m.instances.items) (second_instance k)
    (let most = is.most in omega (arith, most, le))))

-- ## An instance of a member, by what the code knows

pub place_at : (m : Inside) (n : MemberState) (i : ℕ) (x : Instance) → stands_for m ≡ n → i < length n.instances
    → x ≡ slice_index_or m.instances.items i x → slice_get m.instances.items i ≡ Some x
place_at m n i x same lt e =
    item_at m.instances.items i x
    (subst (λ k. i < k) (ap (λ (z : MemberState). length z.instances) (sym same) ∙ long_map state_of m.instances.items)
    lt) e

pub acceptors_at : (m : Inside) (n : MemberState) (group : GroupState) (rows : List Row) (i : ℕ) (x : Instance)
    (r : Row) → stands_for m ≡ n → IsOfGroup group n → map (λ r. r.acceptors.items) rows ≡ group.acceptors
    → slice_get m.instances.items i ≡ Some x → r ≡ slice_index_or rows i r → i < length n.instances
    → acceptors_of x.passes.items ≡ r.acceptors.items
acceptors_at m n group rows i x r same of rows_are at r_is lt =
    let names = ap acceptors_in same ∙ of.acceptors ∙ sym rows_are in
    let long = as_many_rows (map state_of m.instances.items) rows names in
    let within = ap (λ (z : MemberState). length z.instances) same in
    acceptors_there (map state_of m.instances.items) rows names i (state_of x) r
    (get_map state_of m.instances.items i x at) (item_at rows i r (omega (arith, long, within, lt)) r_is)

-- of the first instance
pub acceptors_first : (m : Inside) (n : MemberState) (group : GroupState) (rows : List Row) (x : Instance) (r : Row)
    → stands_for m ≡ n → IsMember (stands_for m) → IsOfGroup group n
    → map (λ r. r.acceptors.items) rows ≡ group.acceptors → slice_get m.instances.items 0 ≡ Some x
    → r ≡ slice_index_or rows 0 r → acceptors_of x.passes.items ≡ r.acceptors.items
acceptors_first m n group rows x r same is of rows_are at r_is =
    acceptors_at m n group rows 0 x r same of rows_are at r_is
    (subst (λ (z : MemberState). 0 < length z.instances) same (let some = is.some in omega (arith, some)))

pub of_after : (group : GroupState) (old new : MemberState) → IsOfGroup group old → MemberGoesOn old new → IsOfGroup group new
of_after group old new of go = record { votes = go.votes ∙ of.votes; acceptors = go.acceptors ∙ of.acceptors }

pub as_long : (old new : MemberState) → MemberGoesOn old new → length new.instances ≡ length old.instances
as_long old new go =
    sym (long_map (λ (z : InstanceState). acceptors_of z.passes) new.instances) ∙ ap length go.acceptors
    ∙ long_map (λ (z : InstanceState). acceptors_of z.passes) old.instances

-- ## Whether a proposal may be made

module _ (m : MemberState) (is : IsMember m) (k : ℕ) (x : InstanceState)
    (at : slice_get m.instances (first_instance k) ≡ Some x) where
  proposed_vote : (value : ℕ) → HasProposed m k value
      → own_vote x.proposer.updates m.replica ≡ Some (first_vote_for value)
  proposed_vote value h =
      let in_m = is.each (first_instance k) x at in
      vote_there x.proposer.updates m.replica k (first_vote_for value)
      (subst (λ o. history x.proposer.updates o ≡ first_vote k value ∷ []) in_m.2
      (taken_in x.proposer x.passes (first_vote k value) in_m.0.sound (sym (ap submitted_of at) ∙ h)))

  nothing_proposed : submitted_of (slice_get m.instances (first_instance k)) ≡ []
      → own_vote x.proposer.updates m.replica ≡ None
  nothing_proposed e =
      let in_m = is.each (first_instance k) x at in
      no_vote x.proposer.updates m.replica
      (subst (λ o. history x.proposer.updates o ≡ []) in_m.2 (none_taken x.proposer (sym (ap submitted_of at) ∙ e)))

  pub other_value : (o : Option Vote) (v : Vote) (value : ℕ) → o ≡ own_vote x.proposer.updates m.replica → o ≡ Some v
      → v.value ≢ value → HasOther m k value
  other_value o v value o_is some ne = elim (is.participant k).first [
    | inl none ↦ absurd (none_some (sym (o_is ∙ nothing_proposed none) ∙ some))
    | inr w ↦ let same = sym some ∙ o_is ∙ proposed_vote w.0 w.1 in inr (w.0, w.1, λ e. ne (ap (λ (z : Vote). z.value) (some_same same) ∙ e))
  ]

  pub no_other : (o : Option Vote) (value : ℕ) → o ≡ own_vote x.proposer.updates m.replica
      → ((v : Vote) → o ≡ Some v → v.value ≡ value) → member_learnt m (second_instance k) ≡ None → HasOther m k value → ⊥
  no_other o value o_is same none (inl finished) = true≢false (sym (subst IsSome none finished))
  no_other o value o_is same none (inr h) = h.2 (same (first_vote_for h.0) (o_is ∙ proposed_vote h.0 h.1))

-- the same, by what the code knows
pub commit_there : (m : Inside) (n : MemberState) (k : ℕ) → stands_for m ≡ n
    → second_instance k < length m.instances.items → HasCommit n k
commit_there m n k same lt =
    subst (λ l. second_instance k < l)
    (sym (long_map state_of m.instances.items) ∙ ap (λ (z : MemberState). length z.instances) same) lt

pub other_there : (m : Inside) (n : MemberState) (k : ℕ) (x : Instance) (o : Option Vote) (v : Vote) (value : ℕ)
    → stands_for m ≡ n → IsMember (stands_for m) → slice_get m.instances.items (first_instance k) ≡ Some x
    → o ≡ own_vote x.proposer.updates m.replica → o ≡ Some v → v.value ≢ value → HasOther n k value
other_there m n k x o v value same is at o_is some ne =
    subst (λ z. HasOther z k value) same
    (other_value (stands_for m) is k (state_of x) (get_map state_of m.instances.items (first_instance k) x at) o v value
    o_is some ne)

pub no_other_there : (m : Inside) (n : MemberState) (k : ℕ) (x y : Instance) (o : Option Vote) (value : ℕ)
    → stands_for m ≡ n → IsMember (stands_for m) → slice_get m.instances.items (first_instance k) ≡ Some x
    → slice_get m.instances.items (second_instance k) ≡ Some y → o ≡ own_vote x.proposer.updates m.replica
    → ((v : Vote) → o ≡ Some v → v.value ≡ value) → y.learnt ≡ None → HasOther n k value → ⊥
no_other_there m n k x y o value same is at second o_is each none other =
    no_other (stands_for m) is k (state_of x) (get_map state_of m.instances.items (first_instance k) x at) o value o_is
    each
    (ap instance_learnt (get_map state_of m.instances.items (second_instance k) y second) ∙ none)
    (subst (λ z. HasOther z k value) (sym same) other)

-- ## The votes of a proposal

pub may_vote_first : (m : MemberState) (is : IsMember m) (k value i : ℕ) → i ≡ first_instance k
    → (HasOther m k value → ⊥) → MayVote k (first_vote_for value) i m
may_vote_first m is k value i i_is may = record {
  once = elim (is.participant k).first [
    | inl none ↦ inl (ap (λ j. submitted_of (slice_get m.instances j)) i_is ∙ none)
    | inr w ↦ elim (cases_eq w.0 value) [
      | inl e ↦ inr (ap (λ j. submitted_of (slice_get m.instances j)) i_is ∙ w.1 ∙ ap (λ z. first_vote k z ∷ []) e)
      | inr ne ↦ absurd (may (inr (w.0, w.1, ne)))
    ]
  ];
  leads = inl (i_is, refl);
}

-- what the first instance's set leads to
pub leads_to : (m : MemberState) (k value : ℕ) (s : Histories)
    → IsVotedSet m (first_instance k) (first_vote_for value) s → second_vote s m.replica ≡ Some (second_vote_for s value)
leads_to m k value s h = ap (λ o. option_map (second_vote_for s) (option_and_then proposal o)) h.holds

pub vote_comes : (m : MemberState) (k value : ℕ) (s : Histories)
    → IsVotedSet m (first_instance k) (first_vote_for value) s
    → option_and_then (λ s. second_vote s m.replica) (member_learnt m (first_instance k)) ≡ Some (second_vote_for s value)
vote_comes m k value s h = ap (λ o. option_and_then (λ s. second_vote s m.replica) o) h.learnt ∙ leads_to m k value s h

-- ## From the first vote to the second

-- a set that was voted for stays, where the instance does
pub voted_stays : (m n : MemberState) (i : ℕ) (v : Vote) (s : Histories) → MemberGoesOn m n
    → slice_get n.instances i ≡ slice_get m.instances i → IsVotedSet m i v s → IsVotedSet n i v s
voted_stays m n i v s go same h = record {
  learnt = ap instance_learnt same ∙ h.learnt;
  own =
      subst (λ vs. HasOwnCertificate vs (passes_of (slice_get n.instances i)) s) (sym go.votes)
      (subst (λ o. HasOwnCertificate m.votes (passes_of o) s) (sym same) h.own);
  holds = subst (λ r. HoldsVote s r v) (sym go.replica) h.holds;
}

pub outcome_comes : (n : MemberState) (k value : ℕ) (s t : Histories) (v : Vote) → v ≡ second_vote_for s value
    → IsVotedSet n (second_instance k) v t → member_outcome n k ≡ Some (outcome t value)
outcome_comes n k value s t v v_is h =
    ap (λ o. option_and_then (λ s. outcome_of s n.replica) o) h.learnt
    ∙ ap (λ o. option_map (λ (w : Vote). outcome t w.value) o) h.holds
    ∙ ap (λ (w : Vote). Some (outcome t w.value)) v_is

module _ (old mid new : MemberState) (k value : ℕ) (go : MemberGoesOn old mid) (on : MemberGoesOn mid new)
    (first : IsOnlyIn (first_instance k) old mid) (then : IsOnlyIn (second_instance k) mid new) where
  apart : first_instance k ≢ second_instance k
  apart e = omega (arith, e)

  first_stays : slice_get new.instances (first_instance k) ≡ slice_get mid.instances (first_instance k)
  first_stays = then (first_instance k) apart

  second_stays : slice_get mid.instances (second_instance k) ≡ slice_get old.instances (second_instance k)
  second_stays = first (second_instance k) (λ e. apart (sym e))

  pub only_at : IsOnlyAt k old new
  only_at j one two = then j two ∙ first j one

  pub decision : (s t : Histories) (v : Vote) (reached : Outcome)
      → IsVotedSet mid (first_instance k) (first_vote_for value) s → v ≡ second_vote_for s value
      → IsVotedSet new (second_instance k) v t → member_outcome new k ≡ Some reached → IsDecision k value new reached
  decision s t v reached one v_is two e = record {
    first = s;
    second = t;
    is_first = voted_stays mid new (first_instance k) (first_vote_for value) s on first_stays one;
    is_second = subst (λ w. IsVotedSet new (second_instance k) w t) v_is two;
    outcome_is = some_same (sym e ∙ outcome_comes new k value s t v v_is two);
  }

  pub refused_second : (rounds left : ℕ) (e : RunnerError) (s : Histories) (v : Vote) → left ≤ rounds
      → IsVotedSet mid (first_instance k) (first_vote_for value) s → v ≡ second_vote_for s value
      → IsRefusedVote left k v (second_instance k) mid new e → IsRefusedInEither rounds k value old new e
  refused_second rounds left e s v le one v_is h = inr (
    s,
    left,
    le,
    voted_stays mid new (first_instance k) (first_vote_for value) s on first_stays one,
    subst (λ w. IsRefusedVote left k w (second_instance k) old new e) v_is (of_old h),
  )
    where
      of_old : IsRefusedVote left k v (second_instance k) mid new e
          → IsRefusedVote left k v (second_instance k) old new e
      of_old (inl h) = inl h
      of_old (inr h) =
          inr (
            h.0,
            subst
                (λ o. IsSomeAnd o (λ (x : InstanceState). IsRefusedRounds left (vote_submitted k v x) (second_instance k) new e))
                second_stays h.1,
          )

-- ## Refusals of a decision

-- of a vote
pub refused_in_either : (rounds k value : ℕ) (old new : MemberState) (e : RunnerError) → HasCommit old k
    → (HasOther old k value → ⊥) → IsRefusedInEither rounds k value old new e → IsVoteError e
    → IsRefusedDecision rounds k value old new e
refused_in_either rounds k value old new (errors.Clash id) there may h kind = record { there = there; may = may; votes = h }
refused_in_either rounds k value old new errors.BallotsSpent there may h kind = record { there = there; may = may; votes = h }
refused_in_either rounds k value old new errors.Memory there may h kind = record { there = there; may = may; votes = h }
refused_in_either rounds k value old new errors.NoMajority there may h kind = record { there = there; may = may; votes = h }
refused_in_either rounds k value old new errors.TryAgain there may h kind = record { there = there; may = may; votes = h }
refused_in_either rounds k value old new errors.NoSuchCommit there may h kind = absurd kind
refused_in_either rounds k value old new errors.AlreadyProposed there may h kind = absurd kind
refused_in_either rounds k value old new errors.BadConfig there may h kind = absurd kind
refused_in_either rounds k value old new errors.Full there may h kind = absurd kind

pub refused_decision : {T : Type 0} (rounds k value : ℕ) (old new : MemberState) (r : Result T RunnerError)
    → HasCommit old k → (HasOther old k value → ⊥) → IfErr r (IsRefusedInEither rounds k value old new)
    → IfErr r IsVoteError → IfErr r (IsRefusedDecision rounds k value old new)
refused_decision rounds k value old new (Ok t) there may h kind = tt
refused_decision rounds k value old new (Err e) there may h kind =
    refused_in_either rounds k value old new e there may h kind

pub if_err_on : {T E : Type 0} (r : Result T E) (P Q : E → Type 0) → ((e : E) → P e → Q e) → IfErr r P → IfErr r Q
if_err_on (Ok t) P Q f h = tt
if_err_on (Err e) P Q f h = f e h
