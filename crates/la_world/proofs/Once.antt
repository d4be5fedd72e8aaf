-- In each of the two instances of an adopt-commit object a replica submits at most once, and so within
-- its cap in every instance: once it has submitted its second vote, its ballot in the first instance has
-- ended for good.
use Rattle.std.proofs.Common.{◌≡◌, ℕ, zero, suc, ◌<◌, ◌≤◌, ◌/◌, ◌%◌, ◌⊎◌, inl, inr, Bool, true, false, cond, ◌==◌, List, [], ◌∷◌, length, Option, Some, None, option_and_then, IsSome, refl, sym, ◌∙◌, ap, subst, subst₂, arith, eqb-true, ne_eqb}
use Rattle.std.proofs.Math.Nat.{div-add-mod, mod-lt}
use Rattle.std.proofs.lemmas.Bool.{true≢false, cond-false, cases_eq}
use Rattle.std.proofs.lemmas.List.{length_push}
use Rattle.std.proofs.lemmas.Option.{same_Some, none-some}
use Rattle.la_set.specs.declared.update.Update.{Update}
use Rattle.la_set.specs.ObjectOps.{ObjectOp}
use Rattle.la_set.specs.Histories.{history, count, get}
use Rattle.la_set.specs.Inclusion.{IsSubset}
use Rattle.la_set.proofs.lemmas.Prefixes.{IsPrefix, IsPrefix-antisym}
use Rattle.la_proposer.proofs.lemmas.LeastIds.{some-get}
use Rattle.la_commit.specs.Votes.{vote_of, proposal}
use Rattle.la_commit.specs.Instances.{first_instance, second_instance, is_first_instance, commit_of}
use Rattle.la_world.specs.declared.step.Opening.{Opening}
use Rattle.la_world.specs.Groups.{Group, cap_of}
use Rattle.la_world.specs.Events.{Event, Submit, Deliver, Decide, Ask}
use Rattle.la_world.specs.Trace.{Did, Opened, Held, Answered, Counted, Ignored, Refined, Learnt, Took, Kept, Replied, Entry, Trace}
use Rattle.la_world.specs.Ballots.{opened_by, opening_learnt, only, round, is_open}
use Rattle.la_node.specs.SecondVotes.{Submission, second_vote_of}
use Rattle.la_world.specs.Votes.{cast_vote}
use Rattle.la_world.specs.Submissions.{submitted_ops, updates_alone, is_refined}
use Rattle.la_world.specs.Playing.{event_entry, trace}
use Rattle.la_world.specs.Report.{refused}
use Rattle.la_world.specs.StandsFor.{IsLegalTrace}
use Rattle.la_world.proofs.Openings.{only_of, round-same, is_open-same, is_open-learnt, only_is}
use Rattle.la_world.proofs.EventCases.{Source, gathers, joins, Step, step_opens, step}
use Rattle.la_world.proofs.Quorum.{counts_is, event_learns}
use Rattle.la_world.proofs.OwnHistories.{IsPrefix-trans}
use Rattle.la_world.proofs.SubmittedBound.{alone_within, prefix_same, submitted_prefix}
use Rattle.la_world.proofs.Traces.{Holds, holds, own}
use Rattle.la_world.proofs.InGroup.{IsSubmitted, submitted_by, second_vote_is, vote_after, capped}
use Rattle.la_world.proofs.Allowing.{not_proposed}

-- a replica that votes in a second instance has an update in the set that it learnt in the first
pub has_voted : (b : Opening) (s : Submission) → cast_vote b ≡ Some s → 1 ≤ count b.updates b.replica
has_voted b s e = go (is_first_instance b.instance) (get b.updates (record { replica = b.replica; number = 1 })) refl e
  where
    go : (v : Bool) (o : Option Update) → get b.updates (record { replica = b.replica; number = 1 }) ≡ o → cond v (second_vote_of (commit_of b.instance) b.replica b.updates (option_and_then proposal (option_and_then (λ (u : Update). vote_of u.op) o))) None ≡ Some s → 1 ≤ count b.updates b.replica
    go false o f k = absurd (none-some s k)
    go true None f k = absurd (none-some s k)
    go true (Some u) f k = (some-get b.updates (record { replica = b.replica; number = 1 }) (subst IsSome (sym f) refl)).1

-- what is learnt is not refined
learnt_only : (d : Did) (b : Opening) → opening_learnt d ≡ Some b → is_refined d ≡ true → ⊥
learnt_only (Learnt c next) b e f = true≢false (sym f)
learnt_only (Opened c) b e f = none-some b e
learnt_only (Held id) b e f = none-some b e
learnt_only (Answered reply) b e f = none-some b e
learnt_only Counted b e f = none-some b e
learnt_only Ignored b e f = none-some b e
learnt_only (Refined c) b e f = none-some b e
learnt_only (Took s) b e f = none-some b e
learnt_only Kept b e f = none-some b e
learnt_only (Replied answer) b e f = none-some b e

-- the ballot in an instance has ended, with an update of the replica's own
pub record IsDone (t : Trace) (i r : ℕ) : Type 0 where
  pub closed : is_open t i r ≡ false
  pub voted : 1 ≤ count (round t i r).updates r

pub record VotesOnce (t : Trace) : Type 0 where
  pub first : (k r : ℕ) → length (submitted_ops t (first_instance k) r) ≤ 1
  pub second : (k r : ℕ) → length (submitted_ops t (second_instance k) r) ≤ 1
  pub done : (k r : ℕ) → (submitted_ops t (second_instance k) r ≡ []) ⊎ IsDone t (first_instance k) r

-- ## One event more

module _ (g : Group) (t : Trace) (x : Entry) (h : Holds g t) (step_is : Step g t x) where
  -- nothing opens where all that was submitted is in the last ballot, and no refusal counts
  opens_none : (i r : ℕ) → length (submitted_ops (x ∷ t) i r) ≤ 1 → 1 ≤ count (round t i r).updates r
      → (is_open t i r ≡ true → is_refined x.did ≡ true → ⊥) → only i r (opened_by x.did) ≡ None
  opens_none i r le some not_joined = go (only i r (opened_by x.did)) refl
    where
      begins : IsPrefix (history (round t i r).updates r) (submitted_ops (x ∷ t) i r)
      begins =
          IsPrefix-trans (history (round t i r).updates r) (submitted_ops t i r) (submitted_ops (x ∷ t) i r) (own g t h i r)
          (submitted_prefix x t i r)

      all : history (round t i r).updates r ≡ submitted_ops (x ∷ t) i r
      all = IsPrefix-antisym (history (round t i r).updates r) (submitted_ops (x ∷ t) i r) begins (omega (arith, le, some))

      taken : IsSubset (updates_alone r (submitted_ops (x ∷ t) i r)) (round t i r).updates
      taken =
          alone_within r (submitted_ops (x ∷ t) i r) (round t i r).updates
          (λ lt.
          subst (λ zs. IsPrefix zs (history (round t i r).updates r)) all
          (prefix_same (history (round t i r).updates r)))

      never : (b : Opening) → (b.instance ≡ i) → (b.replica ≡ r) → Source t x b → ⊥
      never b ei er (gathers plain made new) =
          new (subst₂ (λ j q. IsSubset (updates_alone q (submitted_ops (x ∷ t) j q)) (round t j q).updates) (sym ei) (sym er) taken)
      never b ei er (joins refined m a p body c mi mr made some_no) =
          not_joined (subst₂ (λ j q. is_open t j q ≡ true) (sym mi ∙ ei) (sym mr ∙ er) (counts_is t m c).0) refined

      go : (o : Option Opening) → only i r (opened_by x.did) ≡ o → o ≡ None
      go None e = refl
      go (Some b) e =
          let p = only_is i r (opened_by x.did) b e in absurd (never b p.1 p.2 (step_opens g t x step_is b p.0).source)

  pub still_done : (i r : ℕ) → length (submitted_ops (x ∷ t) i r) ≤ 1 → IsDone t i r → IsDone (x ∷ t) i r
  still_done i r le d = record {
    closed = go (only i r (opening_learnt x.did)) refl;
    voted = subst (λ (b : Opening). 1 ≤ count b.updates r) (sym (round-same x t i r none)) d.voted;
  }
    where
      none : only i r (opened_by x.did) ≡ None
      none = opens_none i r le d.voted (λ asks f. true≢false (sym asks ∙ d.closed))

      go : (o : Option Opening) → only i r (opening_learnt x.did) ≡ o → is_open (x ∷ t) i r ≡ false
      go None e = is_open-same x t i r none e ∙ d.closed
      go (Some b) e = is_open-learnt x t i r b none e

  -- where a ballot is learnt that has such an update
  pub now_done : (i r : ℕ) → length (submitted_ops (x ∷ t) i r) ≤ 1 → (b : Opening) → opening_learnt x.did ≡ Some b
      → 1 ≤ count b.updates b.replica → b.instance ≡ i → b.replica ≡ r → IsDone (x ∷ t) i r
  now_done i r le b e own_there ei er = record {
    closed = is_open-learnt x t i r b none (ap (only i r) e ∙ only_of i r b (record { instance = ei; replica = er }));
    voted = subst (λ (c : Opening). 1 ≤ count c.updates r) (sym (round-same x t i r none)) voted_before;
  }
    where
      last : round t i r ≡ b
      last =
          subst₂ (λ j q. round t j q ≡ b) ei er (event_learns g t x.event x.delivered x.did step_is.cases b e).is_last

      voted_before : 1 ≤ count (round t i r).updates r
      voted_before =
          subst (λ (c : Opening). 1 ≤ count c.updates r) (sym last) (subst (λ q. 1 ≤ count b.updates q) er own_there)

      none : only i r (opened_by x.did) ≡ None
      none = opens_none i r le voted_before (λ asks f. learnt_only x.did b e f)

-- the first instance of the object of which a vote is in the second one
pub voted_first : (i k : ℕ) → is_first_instance i ≡ true → second_instance (commit_of i) ≡ second_instance k
    → i ≡ first_instance k
voted_first i k first e = let odd = eqb-true (i % 2) 1 first in omega (arith, div-add-mod i 2, e)

module _ (g : Group) (t : Trace) (h : Holds g t) (v : VotesOnce t) where
  -- a proposal is the first one
  first_at : (e : Event) → refused g t e ≡ None → (k r : ℕ) → IsSubmitted (event_entry g t e) t (first_instance k) r
      → length (submitted_ops (event_entry g t e ∷ t) (first_instance k) r) ≤ 1
  first_at (Submit q object_op) allowed k r s =
      let at : 0 ≡ first_instance k =
      ap (λ (z : Submission). z.instance) (same_Some _ s.submission s.by) ∙ s.instance in
      absurd (omega (arith, at))
  first_at (Decide q j value) allowed k r s =
      let same = same_Some _ s.submission s.by in
      let at : first_instance j ≡ first_instance k = ap (λ (z : Submission). z.instance) same ∙ s.instance in
      let by : q ≡ r = ap (λ (z : Submission). z.replica) same ∙ s.replica in
      let none : length (submitted_ops t (first_instance k) r) < 1 =
      subst₂ (λ i p. length (submitted_ops t i p) < 1) at by (not_proposed g t q j value allowed) in
      omega (arith, none, ap length s.all ∙ length_push (submitted_ops t (first_instance k) r) s.submission.object_op)
  first_at (Deliver j) allowed k r s =
      let w = vote_after (opening_learnt (event_entry g t (Deliver j)).did) s.submission s.by in
      let is = second_vote_is w.0 s.submission w.2 in
      absurd (omega (arith, is.1, s.instance))
  first_at (Ask q object query) allowed k r s = absurd (none-some s.submission s.by)

  first_more : (e : Event) → refused g t e ≡ None → (k r : ℕ)
      → length (submitted_ops (event_entry g t e ∷ t) (first_instance k) r) ≤ 1
  first_more e allowed k r = elim (submitted_by (event_entry g t e) t (first_instance k) r) [
    | inl same ↦ subst (λ (zs : List ObjectOp). length zs ≤ 1) (sym same) (v.first k r)
    | inr s ↦ first_at e allowed k r s
  ]

  -- a second vote comes by a learning in the first instance
  second_at : (e : Event) → refused g t e ≡ None → (k r : ℕ) → IsSubmitted (event_entry g t e) t (second_instance k) r
      → IsDone (event_entry g t e ∷ t) (first_instance k) r × (length (submitted_ops (event_entry g t e ∷ t) (second_instance k) r) ≤ 1)
  second_at (Submit q object_op) allowed k r s =
      let at : 0 ≡ second_instance k =
      ap (λ (z : Submission). z.instance) (same_Some _ s.submission s.by) ∙ s.instance in
      absurd (omega (arith, at))
  second_at (Decide q j value) allowed k r s =
      let at : first_instance j ≡ second_instance k =
      ap (λ (z : Submission). z.instance) (same_Some _ s.submission s.by) ∙ s.instance in
      absurd (omega (arith, at))
  second_at (Deliver j) allowed k r s =
      let x = event_entry g t (Deliver j) in
      let w = vote_after (opening_learnt x.did) s.submission s.by in
      let b = w.0 in
      let is = second_vote_is b s.submission w.2 in
      let ei : b.instance ≡ first_instance k = voted_first b.instance k is.0 (sym is.1 ∙ s.instance) in
      let er : b.replica ≡ r = sym is.2 ∙ s.replica in
      let asking =
      subst₂ (λ i q. is_open t i q ≡ true) ei er
      (event_learns g t x.event x.delivered x.did (step g t (Deliver j)).cases b w.1).asking in (
        now_done g t x h (step g t (Deliver j)) (first_instance k) r (first_more (Deliver j) allowed k r) b w.1
            (has_voted b s.submission w.2) ei er,
        elim (v.done k r) [
          | inl none ↦ omega (arith, ap length none, ap length s.all ∙ length_push (submitted_ops t (second_instance k) r) s.submission.object_op)
          | inr d ↦ absurd (true≢false (sym asking ∙ d.closed))
        ],
      )
  second_at (Ask q object query) allowed k r s = absurd (none-some s.submission s.by)

  votes_more : (e : Event) → refused g t e ≡ None → VotesOnce (event_entry g t e ∷ t)
  votes_more e allowed = record {
    first = first_more e allowed;
    second = λ k r. elim (submitted_by (event_entry g t e) t (second_instance k) r) [
      | inl same ↦ subst (λ (zs : List ObjectOp). length zs ≤ 1) (sym same) (v.second k r)
      | inr s ↦ (second_at e allowed k r s).1
    ];
    done = λ k r. elim (submitted_by (event_entry g t e) t (second_instance k) r) [
      | inl same ↦ elim (v.done k r) [
        | inl none ↦ inl (same ∙ none)
        | inr d ↦ inr (still_done g t (event_entry g t e) h (step g t e) (first_instance k) r (first_more e allowed k r) d)
      ]
      | inr s ↦ inr (second_at e allowed k r s).0
    ];
  }

votes_start : VotesOnce []
unfolding submitted_ops
votes_start = record { first = λ k r. omega arith; second = λ k r. omega arith; done = λ k r. inl refl }

pub votes_once : (g : Group) (events : List Event) → IsLegalTrace g events → VotesOnce (trace g events)
unfolding trace
votes_once g [] legal = votes_start
votes_once g (e ∷ events) legal = votes_more g (trace g events) (holds g events) (votes_once g events legal.1) e legal.0

-- ## Every instance

-- an instance above 0 is one of an object's
pub once : (t : Trace) (i r : ℕ) → VotesOnce t → (i ≡ 0 → ⊥) → length (submitted_ops t i r) ≤ 1
once t zero r v some = absurd (some refl)
once t (suc i) r v some = go (i % 2) refl
  where
    go : (n : ℕ) → i % 2 ≡ n → length (submitted_ops t (suc i) r) ≤ 1
    go zero e =
        let same : first_instance (i / 2) ≡ suc i = omega (arith, div-add-mod i 2, e) in
        subst (λ j. length (submitted_ops t j r) ≤ 1) same (v.first (i / 2) r)
    go (suc zero) e =
        let same : second_instance (i / 2) ≡ suc i = omega (arith, div-add-mod i 2, e) in
        subst (λ j. length (submitted_ops t j r) ≤ 1) same (v.second (i / 2) r)
    go (suc (suc n)) e = let lt : i % 2 < 2 = mod-lt i (omega arith) in absurd (omega (arith, lt, e))

pub submitted_most : (g : Group) (events : List Event) → IsLegalTrace g events → (i r : ℕ)
    → length (submitted_ops (trace g events) i r) ≤ cap_of g i
submitted_most g events legal i r = elim (cases_eq i 0) [
  | inl e ↦ subst (λ j. length (submitted_ops (trace g events) j r) ≤ cap_of g j) (sym e) (capped g events legal r)
  | inr ne ↦ subst (λ n. length (submitted_ops (trace g events) i r) ≤ n) (sym (cond-false (i == 0) g.cap 1 (ne_eqb i 0 ne))) (once (trace g events) i r (votes_once g events legal) ne)
]
