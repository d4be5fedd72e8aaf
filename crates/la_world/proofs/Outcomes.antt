-- What steps and lines show of outcomes is what is returned, and is listed at the end.
use Rattle.std.proofs.Common.{◌≡◌, inl, inr, ℕ, zero, suc, ◌+◌, ◌<◌, ◌≤◌, ◌%◌, ◌==◌, Bool, true, cond, not, List, [], ◌∷◌, ◌++◌, length, take, reverse, slice_get, Contains, Option, Some, None, IsSome, IsSomeAnd, option_map, option_and_then, filter_map, flat_map, refl, ap, sym, ◌∙◌, subst, arith, eq-eqb, ne_eqb}
use Rattle.std.specs.List.{range_with_len}
use Rattle.std.proofs.Math.Nat.{div-add-mod, mod-lt}
use Rattle.std.proofs.lemmas.Bool.{true≢false, cases_eq, and_from, cond-true}
use Rattle.std.proofs.lemmas.Option.{same_Some, none-some}
use Rattle.la_set.specs.ObjectOps.{ObjectOp}
use Rattle.la_proposer.specs.declared.ballot.Ballot.{Ballot}
use Rattle.la_commit.specs.declared.outcome.Outcome.{Outcome}
use Rattle.la_commit.specs.declared.vote.Vote.{Vote}
use Rattle.la_commit.specs.Instances.{first_instance, second_instance, is_first_instance, is_second_instance, commit_of}
use Rattle.la_commit.specs.Outcomes.{outcome, outcome_of}
use Rattle.la_commit.specs.Votes.{proposal, proposed, first_vote}
use Rattle.la_commit.proofs.lemmas.Listed.{contains-filter_map}
use Rattle.la_replica.specs.Messages.{group}
use Rattle.la_replica.specs.Whole.{Message}
use Rattle.la_world.specs.declared.report.Decision.{Decision}
use Rattle.la_world.specs.declared.report.Line.{Line}
use Rattle.la_world.specs.declared.report.Line.TheVariants.{Done, Refused}
use Rattle.la_world.specs.declared.step.Did as step
use Rattle.la_world.specs.declared.step.Did.TheVariants as shown
use Rattle.la_world.specs.declared.step.Learnt.{Learnt}
use Rattle.la_world.specs.declared.step.Opening.{Opening}
use Rattle.la_world.specs.declared.step.Step.{Step}
use Rattle.la_world.specs.Groups.{Group, replicas}
use Rattle.la_world.specs.Events.{Event, Past, Submit, Deliver, Decide, Ask}
use Rattle.la_world.specs.Trace as did
use Rattle.la_world.specs.Trace.{Did, Entry, Trace}
use Rattle.la_world.specs.Sent.{sent}
use Rattle.la_world.specs.Ballots.{opened_by, opening_learnt, only, round, is_open}
use Rattle.la_node.specs.SecondVotes.{Submission, second_vote_of}
use Rattle.la_world.specs.Votes.{cast_vote}
use Rattle.la_world.specs.Submissions.{submitted_ops, second_vote_after}
use Rattle.la_world.specs.Playing.{does_submit, opens_or_waits, opens_for, does_receive, event_entry, trace}
use Rattle.la_world.specs.Learnings.{learning, learnt}
use Rattle.la_world.specs.Outcomes.{outcome_learnt, returned, decision_of, decisions}
use Rattle.la_world.specs.Report.{shown_as, line_of, report_lines, trace_of}
use Rattle.la_world.specs.StandsFor.{IsLegalTrace}
use Rattle.la_world.specs.Laws.{LearningsReturn, LearningsVote}
use Rattle.la_world.specs.Reading.{learnt_by_did, outcome_told}
use Rattle.la_world.specs.Returning.{opened_with, ShowsVote}
use Rattle.la_world.specs.Headline.{OutcomesAreListed}
use Rattle.la_world.proofs.Lists.{IsIn, IsIn-left, IsIn-right, IsIn_contains, contains_IsIn}
use Rattle.la_world.proofs.Openings.{only_of, round_is}
use Rattle.la_world.proofs.EventCases.{step as event_step}
use Rattle.la_world.proofs.Quorum.{event_learns, open_in}
use Rattle.la_world.proofs.InGroup.{IsOfGroup, grouped, open_grouped, second_vote_is}
use Rattle.la_world.proofs.Unaffected.{last_learnt_ballot-some}
use Rattle.la_world.proofs.Legal.{vote_opens}
use Rattle.la_world.proofs.SubmittedVotes.{learnt_now}
use Rattle.la_world.proofs.LearntVotes.{own_first, own_second}
use Rattle.la_world.proofs.Places.{accepted_of, accepted_before, accepted_next, handed_in_at, was_done}
use Rattle.la_world.proofs.Safe.{runs_legal}
use Rattle.la_world.proofs.Staying.{outcomes_stay}

-- ## The two instances of an object

pub second_is : (i k : ℕ) → i ≡ second_instance k → is_second_instance i ≡ true
second_is i k e =
    let lt : i % 2 < 2 = mod-lt i (omega arith) in
    and_from ((i % 2) == 0) (not (i == 0)) (eq-eqb (i % 2) 0 (omega (arith, lt, div-add-mod i 2, e)))
    (ap not (ne_eqb i 0 (λ z. omega (arith, e, z))))

pub first_is : (i k : ℕ) → i ≡ first_instance k → is_first_instance i ≡ true
first_is i k e = let lt : i % 2 < 2 = mod-lt i (omega arith) in eq-eqb (i % 2) 1 (omega (arith, lt, div-add-mod i 2, e))

-- ## What a learning leads to

pub learnings_return : LearningsReturn
learnings_return g events x k few legal was at =
    subst (λ (o : Option Vote). IsSome (option_map (λ (v : Vote). outcome x.updates v.value) o))
    (sym (own_second g events few legal x was k at).1) refl

pub learnings_vote : LearningsVote
learnings_vote g events x k few legal was at =
    let own = own_first g events few legal x was k at in
    subst
    (λ (v : Bool).
    IsSome (cond v (second_vote_of (commit_of x.instance) x.replica x.updates (proposed x.updates x.replica)) None))
    (sym (first_is x.instance k at))
    (subst
    (λ (o : Option Vote).
    IsSome (second_vote_of (commit_of x.instance) x.replica x.updates (option_and_then proposal o))) (sym own.1)
    refl)

-- ## What is listed

in_each : {X Y : Type 0} (f : X → List Y) (xs : List X) (x : X) (y : Y) → IsIn x xs → IsIn y (f x)
    → IsIn y (flat_map f xs)
in_each f [] x y i j = absurd i
in_each f (z ∷ zs) x y (inl e) j = IsIn-left y (f z) (flat_map f zs) (subst (λ w. IsIn y (f w)) (sym e) j)
in_each f (z ∷ zs) x y (inr i) j = IsIn-right y (f z) (flat_map f zs) (in_each f zs x y i j)

in_range : (k n r : ℕ) → k ≤ r → r < k + n → IsIn r (range_with_len k n)
in_range k zero r le lt = absurd (omega (arith, le, lt))
in_range k (suc n) r le lt = elim (cases_eq k r) [
  | inl e ↦ inl e
  | inr ne ↦ inr (in_range (k + 1) n r (omega (arith, le, ne)) (omega (arith, lt)))
]

-- by object, and then by whatever else
pub listed_by : {X : Type 0} (f : ℕ → X → Option Decision) (xs : List X) (n k : ℕ) (x : X) (y : Decision) → k < n
    → IsIn x xs → f k x ≡ Some y → Contains (flat_map (λ j. filter_map (f j) xs) (range_with_len 0 n)) y
listed_by f xs n k x y lt is_in gives =
    IsIn_contains _ y
    (in_each (λ j. filter_map (f j) xs) (range_with_len 0 n) k y (in_range 0 n k (omega arith) (omega (arith, lt)))
    (contains_IsIn (filter_map (f k) xs) y (contains-filter_map (f k) xs x y (IsIn_contains xs x is_in) gives)))

pub is_listed : (g : Group) (t : Trace) (k r : ℕ) (o : Outcome) → k < g.commits → r < replicas g
    → returned t k r ≡ Some o → Contains (decisions g t) (decision_of k r o)
is_listed g t k r o there known e =
    listed_by (λ j q. option_map (decision_of j q) (returned t j q)) (group (replicas g)) g.commits k r
    (decision_of k r o) there
    (in_range 0 (replicas g) r (omega arith) (omega (arith, known))) (ap (option_map (decision_of k r)) e)

-- ## A step

-- the ballot that was learnt, where a step shows a learning
record Shown (n place : ℕ) (d : Did) (y : Learnt) : Type 0 where
  ballot : Opening
  next : Option Opening
  is : d ≡ did.Learnt ballot next
  learnt : learning place ballot ≡ y

was_shown : (n place : ℕ) (d : Did) (y : Learnt) → learnt_by_did (shown_as n place d) ≡ Some y → Shown n place d y
was_shown n place (did.Learnt b next) y e = record { ballot = b; next = next; is = refl; learnt = same_Some (learning place b) y e }
was_shown n place (did.Opened b) y e = absurd (none-some y e)
was_shown n place (did.Held id) y e = absurd (none-some y e)
was_shown n place (did.Answered reply) y e = absurd (none-some y e)
was_shown n place did.Counted y e = absurd (none-some y e)
was_shown n place did.Ignored y e = absurd (none-some y e)
was_shown n place (did.Refined b) y e = absurd (none-some y e)
was_shown n place (did.Took s) y e = absurd (none-some y e)
was_shown n place did.Kept y e = absurd (none-some y e)
was_shown n place (did.Replied answer) y e = absurd (none-some y e)

-- a submission learns nothing
quietly : (r n : ℕ) (o : Option Opening) (b : Opening) → opening_learnt (opens_or_waits r n o) ≡ Some b → ⊥
quietly r n None b e = none-some b e
quietly r n (Some c) b e = none-some b e

submits_quietly : (t : Trace) (i r : ℕ) (object_op : ObjectOp) (b : Opening)
    → opening_learnt (does_submit t i r object_op) ≡ Some b → ⊥
unfolding does_submit
submits_quietly t i r object_op b =
    let all = submitted_ops t i r ++ object_op ∷ [] in quietly r (length all) (opens_for t i r all) b

-- what is so once a step shows this learning in the second instance of object k
pub record IsTold (g : Group) (t : Trace) (k : ℕ) (d : step.Did) (y : Learnt) : Type 0 where
  pub object : k < g.commits
  pub replica : y.replica < replicas g
  pub told : IsSome (outcome_told d)
  pub returned : returned t k y.replica ≡ outcome_told d

module _ (g : Group) (events : Past) (e : Event) (few : replicas g ≤ 8) (legal : IsLegalTrace g (e ∷ events)) where
  abbrev t : Trace
  t = trace g events

  abbrev x : Entry
  x = event_entry g t e

  abbrev n : ℕ
  n = replicas g

  module _ (b : Opening) (ends : opening_learnt x.did ≡ Some b) where
    asking : is_open t b.instance b.replica ≡ true
    asking = (event_learns g t e x.delivered x.did (event_step g t e).cases b ends).asking

    of_group : IsOfGroup g b.instance b.replica
    of_group = open_grouped g t (grouped g events legal.1) b.instance b.replica (open_in t b.instance b.replica asking)

    was_learnt : Contains (learnt (trace g (e ∷ events))) (learning (length t) b)
    unfolding trace
    was_learnt = learnt_now x t b ends

    told : (k : ℕ) → b.instance ≡ second_instance k → outcome_learnt b ≡ outcome_of b.updates b.replica
    told k at =
        cond-true (is_second_instance b.instance) (outcome_of b.updates b.replica) None (second_is b.instance k at)

    returned_so : (k : ℕ) → b.instance ≡ second_instance k
        → returned (x ∷ t) k b.replica ≡ outcome_of b.updates b.replica
    returned_so k at =
        let here : only (second_instance k) b.replica (opening_learnt x.did) ≡ Some b = ap (only (second_instance k) b.replica) ends ∙ only_of (second_instance k) b.replica b (record { instance = at; replica = refl }) in
        ap (λ l. option_and_then (λ s. outcome_of s b.replica) (option_map (λ (c : Ballot). c.updates) l))
        (last_learnt_ballot-some x t (second_instance k) b.replica b here)

    returns : (k : ℕ) → b.instance ≡ second_instance k → IsSome (outcome_learnt b)
    returns k at =
        subst IsSome (sym (told k at)) (learnings_return g (e ∷ events) (learning (length t) b) k few legal was_learnt at)

  pub is_told : (d : step.Did) → d ≡ shown_as n (length t) x.did → (y : Learnt) (k : ℕ) → learnt_by_did d ≡ Some y
      → y.instance ≡ second_instance k → IsTold g (x ∷ t) k d y
  is_told d is y k learns at =
      let w = was_shown n (length t) x.did y (ap learnt_by_did (sym is) ∙ learns) in
      let b = w.ballot in
      let ends : opening_learnt x.did ≡ Some b = ap opening_learnt w.is in
      let place : b.instance ≡ second_instance k = ap (λ (z : Learnt). z.instance) w.learnt ∙ at in
      let who : b.replica ≡ y.replica = ap (λ (z : Learnt). z.replica) w.learnt in
      let shows : outcome_told d ≡ outcome_learnt b =
      ap outcome_told is ∙ ap (λ z. outcome_told (shown_as n (length t) z)) w.is in
      let lt = (of_group b ends).instance in
      record {
        object = omega (arith, lt, place);
        replica = subst (λ q. q < replicas g) who (of_group b ends).replica;
        told = subst IsSome (sym shows) (returns b ends k place);
        returned =
            subst (λ q. returned (x ∷ t) k q ≡ outcome_told d) who
            (returned_so b ends k place ∙ sym (told b ends k place) ∙ sym shows);
      }

-- ## A vote

-- the ballot of the second vote of replica r in the second instance of object k, if this one opens
abbrev pub IsVote : (k r : ℕ) → Option Opening → Type 0
IsVote k r o = IsSomeAnd o (λ (b : Opening). (b.instance ≡ second_instance k) × (b.replica ≡ r))

module _ (g : Group) (events : Past) (few : replicas g ≤ 8) (k : ℕ) where
  -- what a delivery learns in a first instance leads to a vote
  delivered_votes : (j : ℕ) (m : Message) → IsLegalTrace g (Deliver j ∷ events)
      → slice_get (sent (replicas g) (trace g events)) j ≡ Some m → (b : Opening)
      → opening_learnt (does_receive g (trace g events) (Some m)) ≡ Some b → b.instance ≡ first_instance k → IsSome (cast_vote b)
      → IsVote k b.replica (opened_by (does_receive g (trace g events) (Some m)))
  delivered_votes j m legal is b ends at some = go (cast_vote b) refl some
    where
      t : Trace
      t = trace g events

      go : (o : Option Submission) → cast_vote b ≡ o → IsSome o
          → IsVote k b.replica (opened_by (does_receive g t (Some m)))
      go None f h = absurd (true≢false (sym h))
      go (Some s) f h =
          let opens = vote_opens g events legal.1 few j m is s (ap second_vote_after ends ∙ f) in
          let of = second_vote_is b s f in
          let last : round t m.instance m.to ≡ b = same_Some _ b (sym (ap opening_learnt opens) ∙ ends) in
          subst (IsVote k b.replica) (sym (ap opened_by opens)) (
            of.1
                ∙ (let lt : b.instance % 2 < 2 = mod-lt b.instance (omega arith) in
                omega (arith, at, lt, div-add-mod b.instance 2)),
            sym (round_is t m.instance m.to).replica ∙ ap (λ (z : Opening). z.replica) last,
          )

  votes_by : (e : Event) → IsLegalTrace g (e ∷ events) → (b : Opening) → opening_learnt (event_entry g (trace g events) e).did ≡ Some b
      → b.instance ≡ first_instance k → IsSome (cast_vote b)
      → IsVote k b.replica (opened_by (event_entry g (trace g events) e).did)
  votes_by (Submit r object_op) legal b ends at some = absurd (submits_quietly (trace g events) 0 r object_op b ends)
  votes_by (Decide r c value) legal b ends at some =
      absurd (submits_quietly (trace g events) (first_instance c) r (first_vote c value) b ends)
  votes_by (Ask r object query) legal b ends at some = absurd (none-some b ends)
  votes_by (Deliver j) legal b ends at some = go (slice_get (sent (replicas g) t) j) refl ends
    where
      t : Trace
      t = trace g events

      go : (o : Option Message) → slice_get (sent (replicas g) t) j ≡ o → opening_learnt (does_receive g t o) ≡ Some b
          → IsVote k b.replica (opened_by (does_receive g t (slice_get (sent (replicas g) t) j)))
      go None f h = absurd (none-some b h)
      go (Some m) f h =
          subst (λ o. IsVote k b.replica (opened_by (does_receive g t o))) (sym f) (delivered_votes j m legal f b h at some)

pub shows_vote : (g : Group) (events : Past) (e : Event) → replicas g ≤ 8 → IsLegalTrace g (e ∷ events) → (d : step.Did)
    → d ≡ shown_as (replicas g) (length (trace g events)) (event_entry g (trace g events) e).did → ShowsVote d
shows_vote g events e few legal d is y k learns at =
    let t = trace g events in
    let x = event_entry g t e in
    let w = was_shown (replicas g) (length t) x.did y (ap learnt_by_did (sym is) ∙ learns) in
    let b = w.ballot in
    let ends : opening_learnt x.did ≡ Some b = ap opening_learnt w.is in
    let place : b.instance ≡ first_instance k = ap (λ (z : Learnt). z.instance) w.learnt ∙ at in
    let who : b.replica ≡ y.replica = ap (λ (z : Learnt). z.replica) w.learnt in
    let some : IsSome (cast_vote b) =
    learnings_vote g (e ∷ events) (learning (length t) b) k few legal (was_learnt g events e few legal b ends) place
    in
    let opened : opened_with d ≡ opened_by x.did =
    ap opened_with is ∙ ap (λ z. opened_with (shown_as (replicas g) (length t) z)) w.is ∙ sym (ap opened_by w.is) in
    subst (IsVote k y.replica) (sym opened)
    (subst (λ q. IsVote k q (opened_by x.did)) who (votes_by g events few k e legal b ends place some))

-- ## A list that is played

abbrev did_in : Line → step.Did
did_in (Done s) = s.did
did_in (Refused name) = shown.Ignored

pub did_of_line : (g : Group) (t : Trace) (e : Event) (s : Step) → line_of g t e ≡ Done s
    → s.did ≡ shown_as (replicas g) (length t) (event_entry g t e).did
did_of_line g t e s line = sym (ap did_in line)

pub outcomes_listed : (g : Group) (events : List Event) → replicas g ≤ 8
    → OutcomesAreListed (report_lines g events) (decisions g (trace_of g events))
unfolding trace
outcomes_listed g events few place k y o h at =
    let p = handed_in_at g events place (Done h.step) h.done in
    let was = was_done g events place p.0 h.step p.1 h.done in
    let before = accepted_of g (take place events) in
    let next = accepted_next g events place p.0 p.1 was.allowed in
    let legal : IsLegalTrace g (p.0 ∷ before) = subst (IsLegalTrace g) next (runs_legal g (reverse (take (place + 1) events))) in
    let told =
    is_told g before p.0 few legal h.step.did (did_of_line g (trace g before) p.0 h.step was.line) y k h.learnt at in
    let all = accepted_before g events (place + 1) in
    let now : accepted_of g events ≡ all.more ++ p.0 ∷ before = all.is ∙ ap (λ es. all.more ++ es) next in
    let stays : returned (trace g (all.more ++ p.0 ∷ before)) k y.replica ≡ Some o =
    outcomes_stay g (p.0 ∷ before) all.more k y.replica o (subst (IsLegalTrace g) now (runs_legal g (reverse events)))
    (told.returned ∙ h.outcome) in
    is_listed g (trace_of g events) k y.replica o told.object told.replica
    (ap (λ es. returned (trace g es) k y.replica) now ∙ stays)
