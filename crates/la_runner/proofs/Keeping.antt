-- What a step in one instance leaves of a member.
use Rattle.std.proofs.Common.{◌≡◌, inl, inr, ℕ, zero, suc, ◌≤◌, ◌<◌, List, [], ◌∷◌, ◌++◌, length, map, Option, Some, None, refl, ap, sym, ◌∙◌, subst, arith}
use Rattle.std.specs.Prelude.{Result, Ok, Err, IfOk, IfErr, OnOk, IfSome, IsSomeAnd}
use Rattle.std.specs.List.{slice_get, slice_set, slice_index_or}
use Rattle.std.proofs.lemmas.Bool.{cases_eq}
use Rattle.std.proofs.lemmas.Option.{slice_get_within, slice_get-get_or}
use Rattle.std.proofs.lemmas.List.{length-set}
use mathlib.Core.List.{IsPrefix}
use Rattle.la_set.specs.ObjectOps.{ObjectOp}
use Rattle.la_set.specs.Histories.{Histories, history}
use Rattle.la_set.specs.Inclusion.{IsSubset}
use Rattle.la_set.proofs.lemmas.Theorems.{subset-refl, subset-trans}
use Rattle.la_commit.specs.Instances.{first_instance, second_instance}
use Rattle.la_commit.specs.Votes.{second_vote}
use Rattle.la_proposer.specs.Inputs.{all_submitted}
use Rattle.la_proposer.specs.Majority.{votes_of}
use Rattle.la_shared.specs.Passes.{Known}
use Rattle.la_shared.proofs.lemmas.Theorems.{prefix_self}
use Rattle.la_runner.specs.declared.instance.Instance.{Instance}
use Rattle.la_runner.specs.declared.learned.Learned.{Learned}
use Rattle.la_runner.specs.declared.member.Member.TheInside.{Inside}
use Rattle.la_runner.specs.Certificates.{passes_seen_at, mine_at, HasCertificate, HasOwnCertificate}
use Rattle.la_runner.specs.Fields.{stands_for}
use Rattle.la_runner.specs.Following.{acceptors_of}
use Rattle.la_runner.specs.Instances.{InstanceState, state_of, with_update, InstanceSteps, IsComplete}
use Rattle.la_runner.specs.InstanceCalls.{IsLearntNow, LearnsUpdate}
use Rattle.la_runner.specs.Invariant.{IsIn, IsMember}
use Rattle.la_runner.specs.Members.{MemberState, InMemberInstance, passes_of, passes_in, submitted_of, member_submitted, is_asking_of, is_asking_in, number_of, instance_learnt, member_learnt, instance_view, member_view, MemberGoesOn, IsOnlyIn, IsLearntIn, IsUpdateOf}
use Rattle.la_runner.specs.Participants.{IsMemberParticipant}
use Rattle.la_runner.specs.declared.error.RunnerError.{RunnerError}
use Rattle.la_runner.specs.Refusals.{IsRoundsRefusal, KeepsCounted, IsInstanceRefusal, IsMemberSubmissionRefusal, IsUpdateRefusal, IsRefusedRounds, IsRefusedUpdate, IsRefusedResume}
use Rattle.la_runner.specs.Rounds.{IsLarger}
use Rattle.la_runner.proofs.Passing.{get-set_same, get-set_other, map-set_other, prefix_trans}

-- ## One item of a list goes on

pub item_at : {A : Type 0} (xs : List A) (i : ℕ) (x : A) → i < length xs → x ≡ slice_index_or xs i x
    → slice_get xs i ≡ Some x
item_at xs i x lt e = slice_get-get_or xs i x lt ∙ ap Some (sym e)

pub long_map : {A B : Type 0} (f : A → B) (xs : List A) → length (map f xs) ≡ length xs
long_map f [] = refl
long_map f (x ∷ xs) = ap suc (long_map f xs)

pub get_map : {A B : Type 0} (f : A → B) (xs : List A) (i : ℕ) (x : A) → slice_get xs i ≡ Some x
    → slice_get (map f xs) i ≡ Some (f x)
get_map f [] i x e = absurd (cc)
get_map f (y ∷ xs) zero x e = let same : y ≡ x = cc in ap (λ z. Some (f z)) same
get_map f (y ∷ xs) (suc i) x e = get_map f xs i x e

pub map_set : {A B : Type 0} (f : A → B) (xs : List A) (i : ℕ) (y : A)
    → map f (slice_set xs i y) ≡ slice_set (map f xs) i (f y)
map_set f [] i y = refl
map_set f (x ∷ xs) zero y = refl
map_set f (x ∷ xs) (suc i) y = ap (λ ys. f x ∷ ys) (map_set f xs i y)

pub set_same : {A : Type 0} (xs : List A) (i : ℕ) (x : A) → slice_get xs i ≡ Some x → slice_set xs i x ≡ xs
set_same [] i x e = refl
set_same (y ∷ xs) zero x e = let same : y ≡ x = cc in ap (λ z. z ∷ xs) (sym same)
set_same (y ∷ xs) (suc i) x e = ap (λ ys. y ∷ ys) (set_same xs i x e)

pub within_map : {A B : Type 0} (f : A → B) (xs ys : List A) (names : List B) (i : ℕ) → map f xs ≡ names → ys ≡ xs
    → i < length names → i < length ys
within_map f xs ys names i e same lt =
    let a = long_map f xs in let b = ap length e in let c = ap length same in omega (arith, a, b, c, lt)

-- an item that went back as it was
pub put_back : {A : Type 0} (xs : List A) (i : ℕ) (x y : A) → i < length xs → x ≡ slice_index_or xs i x → y ≡ x
    → slice_set xs i y ≡ xs
put_back xs i x y lt e same = ap (slice_set xs i) same ∙ set_same xs i x (item_at xs i x lt e)

abbrev pub with_instance : MemberState → ℕ → InstanceState → MemberState
with_instance m i y = record m { instances = slice_set m.instances i y }

-- ## A participant, where its two instances stay

-- and already where what it has submitted and learnt there does
pub participant_same : (m n : MemberState) (k : ℕ) → n.replica ≡ m.replica
    → ((i : ℕ) → member_submitted n i ≡ member_submitted m i) → ((i : ℕ) → member_learnt n i ≡ member_learnt m i) → IsMemberParticipant m k
    → IsMemberParticipant n k
participant_same m n k own submits learns p = record {
  first =
      elim p.first [ inl e ↦ inl (submits (first_instance k) ∙ e) | inr v ↦ inr (v.0, submits (first_instance k) ∙ v.1) ];
  second = elim p.second [
    | inl e ↦ inl (submits (second_instance k) ∙ e)
    | inr v ↦ inr (record {
      first = v.first;
      vote = v.vote;
      learnt = learns (first_instance k) ∙ v.learnt;
      leads = subst (λ r. second_vote v.first r ≡ Some v.vote) (sym own) v.leads;
      cast = submits (second_instance k) ∙ v.cast;
    })
  ];
}

pub participant_stays : (m n : MemberState) (k : ℕ) → n.replica ≡ m.replica
    → slice_get n.instances (first_instance k) ≡ slice_get m.instances (first_instance k)
    → slice_get n.instances (second_instance k) ≡ slice_get m.instances (second_instance k) → IsMemberParticipant m k
    → IsMemberParticipant n k
participant_stays m n k own one two p = record {
  first = elim p.first [ inl e ↦ inl (ap submitted_of one ∙ e) | inr v ↦ inr (v.0, ap submitted_of one ∙ v.1) ];
  second = elim p.second [
    | inl e ↦ inl (ap submitted_of two ∙ e)
    | inr v ↦ inr (record {
      first = v.first;
      vote = v.vote;
      learnt = ap instance_learnt one ∙ v.learnt;
      leads = subst (λ r. second_vote v.first r ≡ Some v.vote) (sym own) v.leads;
      cast = ap submitted_of two ∙ v.cast;
    })
  ];
}

-- a step in instance 0 touches none
pub participants_beside : (m : MemberState) (y : InstanceState) → ((k : ℕ) → IsMemberParticipant m k) → (k : ℕ)
    → IsMemberParticipant (with_instance m 0 y) k
participants_beside m y are k =
    participant_stays m (with_instance m 0 y) k refl
    (get-set_other m.instances 0 (first_instance k) y (λ e. omega (arith, e)))
    (get-set_other m.instances 0 (second_instance k) y (λ e. omega (arith, e))) (are k)

-- ## A step in an instance

module _ (m : MemberState) (i : ℕ) (x y : InstanceState) (at : slice_get m.instances i ≡ Some x) where
  pub there : slice_get (slice_set m.instances i y) i ≡ Some y
  there = get-set_same m.instances i y (slice_get_within m.instances i x at)

  -- a fact of one instance and what it becomes
  pub each_instance : (R : Option InstanceState → Option InstanceState → Type 0) → R (Some x) (Some y)
      → ((o : Option InstanceState) → R o o) → (j : ℕ)
      → R (slice_get m.instances j) (slice_get (slice_set m.instances i y) j)
  each_instance R here same j = elim (cases_eq j i) [
    | inl e ↦ subst (λ c. R (slice_get m.instances c) (slice_get (slice_set m.instances i y) c)) (sym e)
        (subst (λ o. R o (slice_get (slice_set m.instances i y) i)) (sym at) (subst (R (Some x)) (sym there) here))
    | inr ne ↦ subst (R (slice_get m.instances j)) (sym (get-set_other m.instances i j y ne)) (same (slice_get m.instances j))
  ]

  pub only_in : IsOnlyIn i m (with_instance m i y)
  only_in j ne = get-set_other m.instances i j y ne

  module _ (steps : InstanceSteps x y) where
    pub stays_member : IsMember m → ((k : ℕ) → IsMemberParticipant (with_instance m i y) k) → IsMember (with_instance m i y)
    stays_member is participants = record {
      some = subst (λ n. 1 ≤ n) (sym (length-set m.instances i y)) is.some;
      most = subst (λ n. n ≤ 33) (sym (length-set m.instances i y)) is.most;
      few = is.few;
      each =
          λ j z.
          each_instance
          (λ o q. ((z : InstanceState) → o ≡ Some z → IsIn m z) → (z : InstanceState) → q ≡ Some z → IsIn m z)
          (λ was z e.
          let same : y ≡ z = cc in
          subst (IsIn m) same (steps.is, steps.follows.votes ∙ (was x refl).1, steps.follows.own ∙ (was x refl).2))
          (λ o was. was) j (is.each j) z;
      participant = participants;
    }

    pub goes_on : MemberGoesOn m (with_instance m i y)
    goes_on = record {
      votes = refl;
      replica = refl;
      acceptors =
          map-set_other (λ (z : InstanceState). acceptors_of z.passes) m.instances i x y at
          steps.follows.passes.acceptors;
      seen =
          λ j a.
          each_instance (λ o q. IsPrefix (passes_seen_at (passes_of o) a) (passes_seen_at (passes_of q) a))
          (steps.follows.passes.seen a) (λ o. prefix_self (passes_seen_at (passes_of o) a)) j;
      mine =
          λ j a.
          each_instance (λ o q. IsPrefix (mine_at (passes_of o) a) (mine_at (passes_of q) a))
          (steps.follows.passes.mine a) (λ o. prefix_self (mine_at (passes_of o) a)) j;
      submitted =
          λ j.
          each_instance (λ o q. IsPrefix (submitted_of o) (submitted_of q)) steps.submitted
          (λ o. prefix_self (submitted_of o)) j;
      grows = each_instance (λ o q. IsSubset (instance_view o) (instance_view q)) steps.grows (λ o. subset-refl (instance_view o)) 0;
    }

  -- ## What was learnt

  passes_there : passes_in (with_instance m i y) i ≡ y.passes
  passes_there = ap passes_of there

  pub own_certified : (s : Histories) → x.proposer.votes ≡ m.votes → HasOwnCertificate x.proposer.votes y.passes s
      → HasOwnCertificate m.votes (passes_in (with_instance m i y) i) s
  own_certified s votes c =
      subst (λ (z : List ℕ × List Known). HasOwnCertificate z.0 z.1 s) (λ k. (votes k, sym passes_there k)) c

  module _ (votes : x.proposer.votes ≡ m.votes) (own : x.proposer.own ≡ m.replica) (s : Histories) where
    pub learnt_in : IsComplete x y s → y.learnt ≡ Some s → IsLearntIn i m (with_instance m i y) s
    learnt_in c last = record {
      own = own_certified s votes c.own;
      holds = ap (history s) (sym own) ∙ c.holds ∙ sym (ap submitted_of there);
      contains_own =
          λ t h.
          c.contains_own t
          (subst (λ (z : List ℕ × List Known). HasOwnCertificate z.0 z.1 t) (λ k. (sym votes k, ap passes_of at k)) h);
      last = ap instance_learnt there ∙ last;
    }

  -- ## What was refused

  refused_rounds : (rounds : ℕ) (start : InstanceState) (e : RunnerError) → IsInstanceRefusal rounds start y e
      → IsRefusedRounds rounds start i (with_instance m i y) e
  refused_rounds rounds start e h = record {
    refusal = subst (λ n. IsRoundsRefusal rounds start.proposer.number n e) (sym (ap number_of there)) h.refusal;
    asks = ap is_asking_of there ∙ h.asks;
    kept = subst (λ o. IsSomeAnd o (λ (z : InstanceState). KeepsCounted start z e)) (sym there) h.kept;
  }

  -- by what the rounds began with
  pub refused_after : (start : InstanceState → InstanceState) (rounds : ℕ) (e : RunnerError)
      → IsInstanceRefusal rounds (start x) y e
      → InMemberInstance m i (λ w. IsRefusedRounds rounds (start w) i (with_instance m i y) e)
  refused_after start rounds e h =
      subst (λ o. IsSomeAnd o (λ (w : InstanceState). IsRefusedRounds rounds (start w) i (with_instance m i y) e))
      (sym at) (refused_rounds rounds (start x) e h)

module _ (m : MemberState) (x y : InstanceState) (at : slice_get m.instances 0 ≡ Some x)
    (votes : x.proposer.votes ≡ m.votes) (own : x.proposer.own ≡ m.replica) where
  pub update_of : (rounds : ℕ) (d : ObjectOp) (end : Learned × ℕ)
      → all_submitted y.proposer ≡ all_submitted x.proposer ++ d ∷ [] → LearnsUpdate rounds x y end
      → IsUpdateOf d m (with_instance m 0 y) end.0.updates
  update_of rounds d end submitted u =
      let now = get-set_same m.instances 0 y (slice_get_within m.instances 0 x at) in
      record {
        submitted = ap submitted_of now ∙ submitted ∙ ap (λ l. l ++ d ∷ []) (sym (ap submitted_of at));
        learnt = learnt_in m 0 x y at votes own end.0.updates u.updated.complete u.last;
        contains =
            λ t h.
            u.updated.contains t
            (subst (λ (z : List ℕ × List Known). HasCertificate z.0 z.1 t) (λ k. (sym votes k, ap passes_of at k)) h);
        view = ap instance_view now ∙ u.view;
      }

-- ## The same of a member's fields

abbrev pub with_state : Inside → ℕ → Instance → MemberState
with_state m i y = record { votes = votes_of m.votes; replica = m.replica; instances = map state_of (slice_set m.instances.items i y) }

module _ (m : Inside) (i : ℕ) (x y : Instance) (at : slice_get m.instances.items i ≡ Some x) where
  pub state_at : slice_get (map state_of m.instances.items) i ≡ Some (state_of x)
  state_at = get_map state_of m.instances.items i x at

  pub with_state_is : with_state m i y ≡ with_instance (stands_for m) i (state_of y)
  with_state_is = ap (λ l. record (stands_for m) { instances = l }) (map_set state_of m.instances.items i y)

  pub is_in : IsMember (stands_for m) → IsIn (stands_for m) (state_of x)
  is_in is = is.each i (state_of x) state_at

  module _ (steps : InstanceSteps (state_of x) (state_of y)) where
    pub member_after : IsMember (stands_for m)
        → ((k : ℕ) → IsMemberParticipant (with_instance (stands_for m) i (state_of y)) k) → IsMember (with_state m i y)
    member_after is are =
        subst IsMember (sym with_state_is) (stays_member (stands_for m) i (state_of x) (state_of y) state_at steps is are)

    pub goes_on_after : (n : MemberState) → stands_for m ≡ n → MemberGoesOn n (with_state m i y)
    goes_on_after n e =
        subst (λ (z : MemberState × MemberState). MemberGoesOn z.0 z.1) (λ k. (e k, sym with_state_is k))
        (goes_on (stands_for m) i (state_of x) (state_of y) state_at steps)

  pub only_after : (n : MemberState) → stands_for m ≡ n → IsOnlyIn i n (with_state m i y)
  only_after n e =
      subst (λ (z : MemberState × MemberState). IsOnlyIn i z.0 z.1) (λ k. (e k, sym with_state_is k))
      (only_in (stands_for m) i (state_of x) (state_of y) state_at)

module _ (m : Inside) (x y : Instance) (at : slice_get m.instances.items 0 ≡ Some x)
    (steps : InstanceSteps (state_of x) (state_of y)) where
  pub member_after_first : IsMember (stands_for m) → IsMember (with_state m 0 y)
  member_after_first is =
      member_after m 0 x y at steps is (participants_beside (stands_for m) (state_of y) is.participant)

-- what an answer that is there keeps
pub if_ok : {T E : Type 0} (r : Result T E) (t : T) (P : T → Type 0) → r ≡ Ok t → IfOk r P → P t
if_ok r t P e h = subst (λ z. IfOk z P) e h

pub goes_on_then : (a b c : MemberState) → MemberGoesOn a b → MemberGoesOn b c → MemberGoesOn a c
goes_on_then a b c f g = record {
  votes = g.votes ∙ f.votes;
  replica = g.replica ∙ f.replica;
  acceptors = g.acceptors ∙ f.acceptors;
  seen =
      λ i n.
      prefix_trans (passes_seen_at (passes_in a i) n) (passes_seen_at (passes_in b i) n) (passes_seen_at (passes_in c i) n) (f.seen i n)
      (g.seen i n);
  mine =
      λ i n.
      prefix_trans (mine_at (passes_in a i) n) (mine_at (passes_in b i) n) (mine_at (passes_in c i) n) (f.mine i n)
      (g.mine i n);
  submitted =
      λ i.
      prefix_trans (submitted_of (slice_get a.instances i)) (submitted_of (slice_get b.instances i))
      (submitted_of (slice_get c.instances i)) (f.submitted i) (g.submitted i);
  grows =
      subset-trans (instance_view (slice_get a.instances 0)) (instance_view (slice_get b.instances 0))
      (instance_view (slice_get c.instances 0)) f.grows g.grows;
}

pub if_err : {T E : Type 0} (r : Result T E) (e : E) (P : E → Type 0) → r ≡ Err e → IfErr r P → P e
if_err r e P same h = subst (λ z. IfErr z P) same h

pub if_on_ok : {T E : Type 0} (r : Result T E) (t : T) (P : Type 0) → r ≡ Ok t → OnOk r P → P
if_on_ok r t P e h = subst (λ z. OnOk z P) e h

-- ## Instance 0

-- the first instance
pub first_at : (m : Inside) (x : Instance) → IsMember (stands_for m) → x ≡ slice_index_or m.instances.items 0 x
    → slice_get m.instances.items 0 ≡ Some x
first_at m x is e = item_at m.instances.items 0 x (subst (λ n. 1 ≤ n) (long_map state_of m.instances.items) is.some) e

module _ (m : Inside) (x y : Instance) (at : slice_get m.instances.items 0 ≡ Some x) where
  there_now : slice_get (map state_of (slice_set m.instances.items 0 y)) 0 ≡ Some (state_of y)
  there_now =
      ap (λ l. slice_get l 0) (map_set state_of m.instances.items 0 y)
      ∙ there (stands_for m) 0 (state_of x) (state_of y) (state_at m 0 x y at)

  submitted_after : (d : ObjectOp) (n : MemberState) → stands_for m ≡ n
      → all_submitted y.proposer ≡ all_submitted x.proposer ++ d ∷ []
      → member_submitted (with_state m 0 y) 0 ≡ member_submitted n 0 ++ d ∷ []
  submitted_after d n e h =
      ap submitted_of there_now ∙ h
      ∙ ap (λ l. l ++ d ∷ []) (sym (ap submitted_of (state_at m 0 x y at)) ∙ ap (λ z. member_submitted z 0) e)

  refused_first : (start : InstanceState → InstanceState) (rounds : ℕ) (n : MemberState) → stands_for m ≡ n
      → (e : RunnerError) → IsInstanceRefusal rounds (start (state_of x)) (state_of y) e
      → InMemberInstance n 0 (λ w. IsRefusedRounds rounds (start w) 0 (with_state m 0 y) e)
  refused_first start rounds n same e h =
      subst (λ (z : MemberState × MemberState). InMemberInstance z.0 0 (λ w. IsRefusedRounds rounds (start w) 0 z.1 e))
      (λ k. (same k, sym (with_state_is m 0 x y at) k))
      (refused_after (stands_for m) 0 (state_of x) (state_of y) (state_at m 0 x y at) start rounds e h)

  pub refused_update : (rounds : ℕ) (d : ObjectOp) (n : MemberState) → stands_for m ≡ n → (e : RunnerError)
      → IsUpdateRefusal rounds d (state_of x) (state_of y) e → IsRefusedUpdate rounds d n (with_state m 0 y) e
  refused_update rounds d n same e (inl h) = inl (
    subst (λ z. InMemberInstance z 0 (λ w. IsMemberSubmissionRefusal w.proposer e)) same
        (subst (λ o. IsSomeAnd o (λ w. IsMemberSubmissionRefusal w.proposer e)) (sym (state_at m 0 x y at)) h.0),
    with_state_is m 0 x y at ∙ same_state ∙ same,
  )
    where
      same_state : with_instance (stands_for m) 0 (state_of y) ≡ stands_for m
      same_state =
          ap (λ l. record (stands_for m) { instances = l })
          (ap (slice_set (map state_of m.instances.items) 0) h.1
          ∙ set_same (map state_of m.instances.items) 0 (state_of x) (state_at m 0 x y at))
  refused_update rounds d n same e (inr h) = inr (
    submitted_after d n same h.0,
    refused_first (with_update d) rounds n same e h.1,
  )

  pub refused_resume : (rounds : ℕ) (n : MemberState) → stands_for m ≡ n → (e : RunnerError)
      → IsInstanceRefusal rounds (state_of x) (state_of y) e → IsRefusedResume rounds n (with_state m 0 y) e
  refused_resume rounds n same e h = refused_first (λ z. z) rounds n same e h

  -- whether a ballot is open
  pub asking_first : (n : MemberState) → stands_for m ≡ n → is_asking_in n 0 ≡ x.proposer.is_asking
  asking_first n same = ap (λ z. is_asking_in z 0) (sym same) ∙ ap is_asking_of (state_at m 0 x y at)

  -- what a resumption gives, if it gives a learning
  pub resumed_of : (n : MemberState) → stands_for m ≡ n → IsMember (stands_for m) → (end : Option Learned)
      → IfSome end (λ l. IsLearntNow (state_of x) (state_of y) l.updates)
      → IfSome end (λ l. IsLearntIn 0 n (with_state m 0 y) l.updates)
  resumed_of n same is None now = tt
  resumed_of n same is (Some l) now =
      let of = is_in m 0 x y at is in
      subst (λ (z : MemberState × MemberState). IsLearntIn 0 z.0 z.1 l.updates)
      (λ k. (same k, sym (with_state_is m 0 x y at) k))
      (learnt_in (stands_for m) 0 (state_of x) (state_of y) (state_at m 0 x y at) of.1 of.2 l.updates now.complete
      now.last)

  -- and the view is then the larger one
  pub resumed_view : (n : MemberState) → stands_for m ≡ n → (end : Option Learned)
      → IfSome end (λ l. IsLearntNow (state_of x) (state_of y) l.updates)
      → IfSome end (λ l. IsLarger l.updates (member_view n) (member_view (with_state m 0 y)))
  resumed_view n same None now = tt
  resumed_view n same (Some l) now =
      subst (λ (z : Histories × Histories). IsLarger l.updates z.0 z.1)
      (λ k. (
        (sym (ap instance_view (state_at m 0 x y at)) ∙ ap member_view same) k,
        sym (ap instance_view there_now) k,
      )) now.larger
