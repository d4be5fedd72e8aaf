-- What is submitted to an adopt-commit object where no event is refused: in its first instance the
-- votes of accepted proposals, and in its second one those to which sets that were learnt in the
-- first one lead.
use Rattle.std.proofs.Common.{◌≡◌, ℕ, ◌<◌, ◌⊎◌, inl, inr, Bool, true, false, cond, List, [], ◌∷◌, ◌++◌, length, Contains, Option, Some, None, option_and_then, refl, sym, ◌∙◌, ap, subst, subst₂, arith}
use Rattle.std.proofs.lemmas.List.{length_push}
use Rattle.std.proofs.lemmas.Option.{same_Some, none-some}
use Rattle.la_set.specs.ObjectOps.{ObjectOp}
use Rattle.la_set.specs.Histories.{Histories}
use Rattle.la_set.proofs.lemmas.Filters.{Contains-first, Contains-later}
use Rattle.la_commit.specs.declared.vote.Vote.{Vote}
use Rattle.la_commit.specs.Votes.{HoldsVote, own_vote, proposal, proposed, first_vote_for, second_vote_for, casts, first_vote}
use Rattle.la_commit.specs.Instances.{first_instance, second_instance, is_first_instance, commit_of}
use Rattle.la_world.specs.declared.step.Learnt.{Learnt}
use Rattle.la_world.specs.declared.step.Opening.{Opening}
use Rattle.la_world.specs.Groups.{Group}
use Rattle.la_world.specs.Events.{Event, Submit, Deliver, Decide, Ask}
use Rattle.la_world.specs.Trace.{Entry, Trace}
use Rattle.la_world.specs.Ballots.{opening_learnt}
use Rattle.la_node.specs.SecondVotes.{Submission, second_vote_of}
use Rattle.la_world.specs.Votes.{cast_vote}
use Rattle.la_world.specs.Submissions.{submitted_ops}
use Rattle.la_world.specs.Learnings.{learning, learning_of, learnt}
use Rattle.la_world.specs.Playing.{event_entry, trace}
use Rattle.la_world.specs.Report.{refused}
use Rattle.la_world.specs.StandsFor.{IsLegalTrace}
use Rattle.la_world.proofs.Lists.{IsIn-left, IsIn-last, IsIn_contains, contains_IsIn}
use Rattle.la_world.proofs.InGroup.{IsSubmitted, submitted_by, second_vote_is, vote_after}
use Rattle.la_world.proofs.Allowing.{not_proposed}
use Rattle.la_world.proofs.Once.{VotesOnce, votes_once, voted_first}

none_of : (ds : List ObjectOp) → length ds < 1 → ds ≡ []
none_of [] lt = refl
none_of (d ∷ ds) lt = absurd (omega (arith, lt))

nothing_submitted : (i r : ℕ) → submitted_ops [] i r ≡ []
unfolding submitted_ops
nothing_submitted i r = refl

-- what was learnt stays so
pub learnt_stays : (x : Entry) (t : Trace) (l : Learnt) → Contains (learnt t) l → Contains (learnt (x ∷ t)) l
unfolding learnt
learnt_stays x t l was =
    IsIn_contains (learnt t ++ learning_of (length t) (opening_learnt x.did)) l
    (IsIn-left l (learnt t) (learning_of (length t) (opening_learnt x.did)) (contains_IsIn (learnt t) l was))

-- a ballot that ends as learnt is among what was learnt
pub learnt_now : (x : Entry) (t : Trace) (b : Opening) → opening_learnt x.did ≡ Some b
    → Contains (learnt (x ∷ t)) (learning (length t) b)
unfolding learnt
learnt_now x t b e =
    subst (λ o. Contains (learnt t ++ learning_of (length t) o) (learning (length t) b)) (sym e)
    (IsIn_contains (learnt t ++ learning (length t) b ∷ []) (learning (length t) b)
    (IsIn-last (learning (length t) b) (learnt t)))

-- ## First votes

-- what r submitted to object k is its vote for a value that it proposed
pub record HasProposed (events : List Event) (t : Trace) (k r : ℕ) : Type 0 where
  pub value : ℕ
  pub accepted : Contains events (Decide r k value)
  pub all : submitted_ops t (first_instance k) r ≡ first_vote k value ∷ []

first_by : (g : Group) (t : Trace) (events : List Event) (e : Event) → refused g t e ≡ None → (k r : ℕ)
    → IsSubmitted (event_entry g t e) t (first_instance k) r → HasProposed (e ∷ events) (event_entry g t e ∷ t) k r
first_by g t events (Submit q object_op) allowed k r s =
    let at : 0 ≡ first_instance k = ap (λ (z : Submission). z.instance) (same_Some _ s.submission s.by) ∙ s.instance in
    absurd (omega (arith, at))
first_by g t events (Decide q j value) allowed k r s =
    let same = same_Some _ s.submission s.by in
    let at : first_instance j ≡ first_instance k = ap (λ (z : Submission). z.instance) same ∙ s.instance in
    let by : q ≡ r = ap (λ (z : Submission). z.replica) same ∙ s.replica in
    let of : j ≡ k = omega (arith, at) in
    let none : submitted_ops t (first_instance k) r ≡ [] =
    none_of (submitted_ops t (first_instance k) r)
    (subst₂ (λ i p. length (submitted_ops t i p) < 1) at by (not_proposed g t q j value allowed)) in
    let casts_it : s.submission.object_op ≡ first_vote k value =
    sym (ap (λ (z : Submission). z.object_op) same) ∙ ap (λ i. first_vote i value) of in
    record {
      value = value;
      accepted =
          subst₂ (λ p i. Contains (Decide q j value ∷ events) (Decide p i value)) by of
          (Contains-first (Decide q j value) events);
      all = s.all ∙ ap (λ ds. ds ++ s.submission.object_op ∷ []) none ∙ ap (λ d. d ∷ []) casts_it;
    }
first_by g t events (Deliver j) allowed k r s =
    let w = vote_after (opening_learnt (event_entry g t (Deliver j)).did) s.submission s.by in
    let is = second_vote_is w.0 s.submission w.2 in
    absurd (omega (arith, is.1, s.instance))
first_by g t events (Ask q object query) allowed k r s = absurd (none-some s.submission s.by)

pub proposals : (g : Group) (events : List Event) → IsLegalTrace g events → (k r : ℕ)
    → (submitted_ops (trace g events) (first_instance k) r ≡ []) ⊎ HasProposed events (trace g events) k r
unfolding trace
proposals g [] legal k r = inl (nothing_submitted (first_instance k) r)
proposals g (e ∷ events) legal k r =
    let t = trace g events in
    elim (submitted_by (event_entry g t e) t (first_instance k) r) [
      | inl same ↦ elim (proposals g events legal.1 k r) [
        | inl none ↦ inl (same ∙ none)
        | inr p ↦ inr (record { value = p.value; accepted = Contains-later e events (Decide r k p.value) p.accepted; all = same ∙ p.all })
      ]
      | inr s ↦ inr (first_by g t events e legal.0 k r s)
    ]

-- ## Second votes

proposed_by : (v : Vote) (value : ℕ) → proposal v ≡ Some value → v ≡ first_vote_for value
proposed_by v value e = go v.sole refl e
  where
    go : (b : Bool) → v.sole ≡ b → cond b None (Some v.value) ≡ Some value → v ≡ first_vote_for value
    go true f k = absurd (none-some value k)
    go false f k = subst₂ (λ (n : ℕ) (b : Bool). v ≡ record { value = n; sole = b }) (same_Some v.value value k) f refl

-- a proposed value is that of the own vote, which is not sole
proposed_own : (s : Histories) (r value : ℕ) → proposed s r ≡ Some value → HoldsVote s r (first_vote_for value)
proposed_own s r value e = go (own_vote s r) refl e
  where
    go : (o : Option Vote) → own_vote s r ≡ o → option_and_then proposal o ≡ Some value
        → own_vote s r ≡ Some (first_vote_for value)
    go None f k = absurd (none-some value k)
    go (Some v) f k = f ∙ ap Some (proposed_by v value k)

-- the vote to which a learnt ballot leads
record LeadsTo (b : Opening) (s : Submission) : Type 0 where
  value : ℕ
  own : HoldsVote b.updates b.replica (first_vote_for value)
  casts_it : s.object_op ≡ casts (commit_of b.instance) (second_vote_for b.updates value)

leads_to : (b : Opening) (s : Submission) → cast_vote b ≡ Some s → LeadsTo b s
leads_to b s e = go (is_first_instance b.instance) (proposed b.updates b.replica) refl e
  where
    go : (v : Bool) (o : Option ℕ) → proposed b.updates b.replica ≡ o
        → cond v (second_vote_of (commit_of b.instance) b.replica b.updates o) None ≡ Some s → LeadsTo b s
    go false o f k = absurd (none-some s k)
    go true None f k = absurd (none-some s k)
    go true (Some value) f k = record {
      value = value;
      own = proposed_own b.updates b.replica value f;
      casts_it = sym (ap (λ (z : Submission). z.object_op) (same_Some _ s k));
    }

-- what r submitted in the second instance of object k is the vote to which a set leads that it
-- learnt in the first one, with its vote for this value
pub record HasVoted (t : Trace) (k r : ℕ) : Type 0 where
  pub first : Learnt
  pub was : Contains (learnt t) first
  pub instance : first.instance ≡ first_instance k
  pub replica : first.replica ≡ r
  pub value : ℕ
  pub own : HoldsVote first.updates r (first_vote_for value)
  pub all : submitted_ops t (second_instance k) r ≡ casts k (second_vote_for first.updates value) ∷ []

second_by : (g : Group) (t : Trace) (e : Event) → VotesOnce (event_entry g t e ∷ t) → (k r : ℕ)
    → IsSubmitted (event_entry g t e) t (second_instance k) r → HasVoted (event_entry g t e ∷ t) k r
second_by g t (Submit q object_op) once k r s =
    let at : 0 ≡ second_instance k = ap (λ (z : Submission). z.instance) (same_Some _ s.submission s.by) ∙ s.instance in
    absurd (omega (arith, at))
second_by g t (Decide q j value) once k r s =
    let at : first_instance j ≡ second_instance k =
    ap (λ (z : Submission). z.instance) (same_Some _ s.submission s.by) ∙ s.instance in
    absurd (omega (arith, at))
second_by g t (Deliver j) once k r s =
    let x = event_entry g t (Deliver j) in
    let w = vote_after (opening_learnt x.did) s.submission s.by in
    let b = w.0 in
    let is = second_vote_is b s.submission w.2 in
    let leads = leads_to b s.submission w.2 in
    let er : b.replica ≡ r = sym is.2 ∙ s.replica in
    let of : commit_of b.instance ≡ k = let at = sym is.1 ∙ s.instance in omega (arith, at) in
    let none : submitted_ops t (second_instance k) r ≡ [] =
    let le = once.second k r in
    none_of (submitted_ops t (second_instance k) r)
    (omega (arith, le, ap length s.all ∙ length_push (submitted_ops t (second_instance k) r) s.submission.object_op))
    in
    record {
      first = learning (length t) b;
      was = learnt_now x t b w.1;
      instance = voted_first b.instance k is.0 (sym is.1 ∙ s.instance);
      replica = er;
      value = leads.value;
      own = subst (λ q. HoldsVote b.updates q (first_vote_for leads.value)) er leads.own;
      all =
          s.all ∙ ap (λ ds. ds ++ s.submission.object_op ∷ []) none
          ∙ ap (λ d. d ∷ []) (leads.casts_it ∙ ap (λ i. casts i (second_vote_for b.updates leads.value)) of);
    }
second_by g t (Ask q object query) once k r s = absurd (none-some s.submission s.by)

pub second_votes_cast : (g : Group) (events : List Event) → IsLegalTrace g events → (k r : ℕ)
    → (submitted_ops (trace g events) (second_instance k) r ≡ []) ⊎ HasVoted (trace g events) k r
unfolding trace
second_votes_cast g [] legal k r = inl (nothing_submitted (second_instance k) r)
second_votes_cast g (e ∷ events) legal k r =
    let t = trace g events in
    elim (submitted_by (event_entry g t e) t (second_instance k) r) [
      | inl same ↦ elim (second_votes_cast g events legal.1 k r) [
        | inl none ↦ inl (same ∙ none)
        | inr v ↦ inr (record { first = v.first; was = learnt_stays (event_entry g t e) t v.first v.was; instance = v.instance; replica = v.replica; value = v.value; own = v.own; all = same ∙ v.all })
      ]
      | inr s ↦ inr (second_by g t e (votes_once g (e ∷ events) legal) k r s)
    ]
