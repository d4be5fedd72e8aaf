-- In a list of events of which none is refused, all that is submitted, opened and sent is of replicas and
-- instances of the group, and no replica submits more than its cap in instance 0.
use Rattle.std.proofs.Common.{◌≡◌, ℕ, ◌<◌, ◌≤◌, ◌%◌, ◌⊎◌, inl, inr, Bool, true, false, cond, ◌==◌, ◌&&◌, List, [], ◌∷◌, ◌++◌, append-nil, length, Option, Some, None, refl, sym, ◌∙◌, ap, subst, subst₂, arith, eqb-true}
use Rattle.std.proofs.Math.Nat.{div-add-mod}
use Rattle.std.proofs.lemmas.Bool.{and_parts}
use Rattle.std.proofs.lemmas.List.{length_push}
use Rattle.std.proofs.lemmas.Option.{same_Some, none-some}
use Rattle.std.specs.List.{cons_option}
use Rattle.la_set.specs.ObjectOps.{ObjectOp}
use Rattle.la_set.specs.Inclusion.{IsSubset}
use Rattle.la_replica.specs.Whole.{Message}
use Rattle.la_replica.specs.Messages.{group, offer_to}
use Rattle.la_commit.specs.Instances.{first_instance, second_instance, is_first_instance, commit_of}
use Rattle.la_world.specs.declared.step.Opening.{Opening}
use Rattle.la_world.specs.Groups.{Group, replicas, instances}
use Rattle.la_world.specs.Events.{Event, Submit, Deliver, Decide, Ask}
use Rattle.la_world.specs.Trace.{Did, Entry, Trace}
use Rattle.la_world.specs.Sent.{sender_for, ballot_of, offers_for, offers_for_next, tells_for, sent_by, sent}
use Rattle.la_world.specs.Ballots.{opened_by, opening_learnt, only, ballots, round}
use Rattle.la_node.proofs.lemmas.SecondVotes.{second_vote_in_is}
use Rattle.la_node.specs.SecondVotes.{Submission}
use Rattle.la_world.specs.Votes.{cast_vote}
use Rattle.la_world.specs.Submissions.{submission_by, second_vote_after, object_op_in, submitted_ops, updates_alone}
use Rattle.la_world.specs.Playing.{counts_reply, event_entry, trace}
use Rattle.la_world.specs.Report.{refused}
use Rattle.la_world.specs.StandsFor.{IsLegalTrace}
use Rattle.la_world.proofs.Lists.{IsIn, AllIn, AllIn-append, AllIn-made, AllIn_at}
use Rattle.la_world.proofs.EventCases.{Opens, Source, gathers, joins, EventCases, silent, opens, answers_offer, refines, learns, Step, step_opens, step}
use Rattle.la_world.proofs.Quorum.{counts_is, open_in, tells_all, group_within, event_learns}
use Rattle.la_world.proofs.SubmittedBound.{alone_within}
use Rattle.la_world.proofs.Allowing.{submitter_known, submitter_room, proposer_known, object_known}
use Rattle.la_world.proofs.Openings.{only_is, round_is}

pub record IsOfGroup (g : Group) (i r : ℕ) : Type 0 where
  pub instance : i < instances g
  pub replica : r < replicas g

pub record IsBetween (g : Group) (m : Message) : Type 0 where
  pub instance : m.instance < instances g
  pub from : m.from < replicas g
  pub to : m.to < replicas g

pub record Grouped (g : Group) (t : Trace) : Type 0 where
  pub submissions : (i r : ℕ) → (submitted_ops t i r ≡ []) ⊎ IsOfGroup g i r
  pub ballots : (i r : ℕ) → AllIn (λ b. IsOfGroup g i r) (ballots t i r)
  pub messages : AllIn (IsBetween g) (sent (replicas g) t)

-- ## One event more

-- what is submitted at an event
pub record IsSubmitted (x : Entry) (t : Trace) (i r : ℕ) : Type 0 where
  pub submission : Submission
  pub by : submission_by x.event x.did ≡ Some submission
  pub instance : submission.instance ≡ i
  pub replica : submission.replica ≡ r
  pub all : submitted_ops (x ∷ t) i r ≡ submitted_ops t i r ++ submission.object_op ∷ []

pub submitted_by : (x : Entry) (t : Trace) (i r : ℕ) → (submitted_ops (x ∷ t) i r ≡ submitted_ops t i r) ⊎ IsSubmitted x t i r
unfolding submitted_ops
submitted_by x t i r = go (submission_by x.event x.did) refl
  where
    go : (o : Option Submission) → submission_by x.event x.did ≡ o
        → (submitted_ops (x ∷ t) i r ≡ submitted_ops t i r) ⊎ IsSubmitted x t i r
    go None e = inl (ap (λ z. submitted_ops t i r ++ object_op_in i r z) e ∙ append-nil (submitted_ops t i r))
    go (Some s) e = here ((s.instance == i) && (s.replica == r)) refl
      where
        here : (v : Bool) → ((s.instance == i) && (s.replica == r)) ≡ v
            → (submitted_ops (x ∷ t) i r ≡ submitted_ops t i r) ⊎ IsSubmitted x t i r
        here false k =
            inl
            (ap (λ z. submitted_ops t i r ++ object_op_in i r z) e
            ∙ ap (λ v. submitted_ops t i r ++ cond v (s.object_op ∷ []) []) k ∙ append-nil (submitted_ops t i r))
        here true k =
            let p = and_parts (s.instance == i) (s.replica == r) k in
            inr record { submission = s; by = e; instance = eqb-true s.instance i p.0; replica = eqb-true s.replica r p.1; all = ap (λ z. submitted_ops t i r ++ object_op_in i r z) e ∙ ap (λ v. submitted_ops t i r ++ cond v (s.object_op ∷ []) []) k }

module _ (g : Group) (t : Trace) (h : Grouped g t) where
  -- where a ballot is open
  pub open_grouped : (i r : ℕ) → IsIn (round t i r) (ballots t i r) → IsOfGroup g i r
  open_grouped i r is_in = AllIn_at (λ b. IsOfGroup g i r) (ballots t i r) (round t i r) (h.ballots i r) is_in

  counted_grouped : (m : Message) → counts_reply t m ≡ true → IsOfGroup g m.instance m.to
  counted_grouped m c = open_grouped m.instance m.to (open_in t m.instance m.to (counts_is t m c).0)

  module _ (x : Entry) (step : Step g t x)
      (new : (s : Submission) → submission_by x.event x.did ≡ Some s → IsOfGroup g s.instance s.replica) where
    submissions_more : (i r : ℕ) → (submitted_ops (x ∷ t) i r ≡ []) ⊎ IsOfGroup g i r
    submissions_more i r = elim (submitted_by x t i r) [
      | inl e ↦ subst (λ zs. (zs ≡ []) ⊎ IsOfGroup g i r) (sym e) (h.submissions i r)
      | inr s ↦ inr (subst₂ (IsOfGroup g) s.instance s.replica (new s.submission s.by))
    ]

    opened_grouped : (b : Opening) → Opens t x b → IsOfGroup g b.instance b.replica
    opened_grouped b o = go o.source
      where
        go : Source t x b → IsOfGroup g b.instance b.replica
        go (gathers plain made more) = elim (submissions_more b.instance b.replica) [
          | inl e ↦ absurd (more (subst (λ ds. IsSubset (updates_alone b.replica ds) (round t b.instance b.replica).updates) (sym e) (alone_within b.replica [] (round t b.instance b.replica).updates (λ lt. record { front = refl }))))
          | inr ok ↦ ok
        ]
        go (joins refined m a p body c ei er made some) = subst₂ (IsOfGroup g) (sym ei) (sym er) (counted_grouped m c)

    ballots_more : (i r : ℕ) → AllIn (λ b. IsOfGroup g i r) (ballots (x ∷ t) i r)
    unfolding ballots
    ballots_more i r = go (only i r (opened_by x.did)) refl
      where
        go : (v : Option Opening) → only i r (opened_by x.did) ≡ v
            → AllIn (λ b. IsOfGroup g i r) (cons_option v (ballots t i r))
        go None e = h.ballots i r
        go (Some b) e =
            let p = only_is i r (opened_by x.did) b e in
            (subst₂ (IsOfGroup g) p.1 p.2 (opened_grouped b (step_opens g t x step b p.0)), h.ballots i r)

    offers_between : (b : Opening) → IsOfGroup g b.instance b.replica → AllIn (IsBetween g) (offers_for (replicas g) b)
    offers_between b ok = AllIn-made (IsBetween g) (offer_to (sender_for (replicas g) b) (ballot_of b)) (λ q. q < replicas g) (λ q lt. record { instance = ok.instance; from = ok.replica; to = lt }) (group (replicas g)) (group_within (replicas g))

    next_between : (o : Option Opening) → ((b : Opening) → o ≡ Some b → IsOfGroup g b.instance b.replica)
        → AllIn (IsBetween g) (offers_for_next (replicas g) o)
    next_between None ok = tt
    next_between (Some b) ok = offers_between b (ok b refl)

    new_between : (v : Event) (m : Option Message) (d : Did) → EventCases g t v m d
        → ((b : Opening) → opened_by d ≡ Some b → IsOfGroup g b.instance b.replica)
        → ((k : Message) → m ≡ Some k → IsBetween g k) → AllIn (IsBetween g) (sent_by (replicas g) m d)
    new_between v m d (silent o l s) ok k = subst (AllIn (IsBetween g)) (sym s) tt
    new_between v m d (opens b o) ok k = offers_between b (ok b refl)
    new_between v m d (answers_offer c s e) ok k = let w = k c refl in (record { instance = w.instance; from = w.to; to = w.from }, tt)
    new_between v m d (refines b o) ok k = offers_between b (ok b refl)
    new_between v m d (learns c a next e q y o) ok k =
        let b = round t c.instance c.to in
        let of = round_is t c.instance c.to in
        let here = subst₂ (IsOfGroup g) (sym of.instance) (sym of.replica) (counted_grouped c q) in
        AllIn-append (IsBetween g) (tells_for (replicas g) b) (offers_for_next (replicas g) next)
        (tells_all (IsBetween g) (replicas g) b (λ z to lt. record { instance = here.instance; from = here.replica; to = lt }))
        (next_between next ok)

    grouped_more : Grouped g (x ∷ t)
    unfolding sent
    grouped_more = record {
      submissions = submissions_more;
      ballots = ballots_more;
      messages = AllIn-append (IsBetween g) (sent (replicas g) t) (sent_by (replicas g) x.delivered x.did) h.messages
          (new_between x.event x.delivered x.did step.cases (λ b e. opened_grouped b (step_opens g t x step b e))
          (λ m e. AllIn_at (IsBetween g) (sent (replicas g) t) m h.messages (step.was_sent m e)));
    }

-- ## What is not refused

-- a second vote is of the second instance of the same object
pub second_vote_is : (b : Opening) (s : Submission) → cast_vote b ≡ Some s
    → (is_first_instance b.instance ≡ true) × (s.instance ≡ second_instance (commit_of b.instance))
    × (s.replica ≡ b.replica)
second_vote_is b = second_vote_in_is b.instance b.replica b.updates

-- the second instance of an object is of the group, where the first is
pub second_within : (g : Group) (i : ℕ) → is_first_instance i ≡ true → i < instances g
    → second_instance (commit_of i) < instances g
second_within g i first lt = let odd = eqb-true (i % 2) 1 first in omega (arith, div-add-mod i 2)

pub vote_after : (o : Option Opening) (s : Submission) → second_vote_after o ≡ Some s
    → (b : Opening) × (o ≡ Some b) × (cast_vote b ≡ Some s)
vote_after None s e = absurd (none-some s e)
vote_after (Some b) s e = (b, refl, e)

-- what an event submits that is not refused
submits_grouped : (g : Group) (t : Trace) (e : Event) → Grouped g t → refused g t e ≡ None → (s : Submission)
    → submission_by e (event_entry g t e).did ≡ Some s → IsOfGroup g s.instance s.replica
submits_grouped g t (Submit r object_op) h allowed s e =
    let same = same_Some _ s e in
    subst (λ (z : Submission). IsOfGroup g z.instance z.replica) same (record { instance = omega arith; replica = submitter_known g t r object_op allowed })
submits_grouped g t (Decide r k value) h allowed s e =
    let same = same_Some _ s e in
    let lt = object_known g t r k value allowed in
    subst (λ (z : Submission). IsOfGroup g z.instance z.replica) same (record { instance = omega arith; replica = proposer_known g t r k value allowed })
submits_grouped g t (Deliver k) h allowed s e =
    let x = event_entry g t (Deliver k) in
    let v = vote_after (opening_learnt x.did) s e in
    let b = v.0 in
    let end = event_learns g t x.event x.delivered x.did (step g t (Deliver k)).cases b v.1 in
    let ok = open_grouped g t h b.instance b.replica (open_in t b.instance b.replica end.asking) in
    let is = second_vote_is b s v.2 in
    record {
      instance = subst (λ i. i < instances g) (sym is.1) (second_within g b.instance is.0 ok.instance);
      replica = subst (λ r. r < replicas g) (sym is.2) ok.replica;
    }
submits_grouped g t (Ask r object query) h allowed s e = absurd (none-some s e)

grouped_start : (g : Group) → Grouped g []
unfolding submitted_ops ballots sent
grouped_start g = record { submissions = λ i r. inl refl; ballots = λ i r. tt; messages = tt }

pub grouped : (g : Group) (events : List Event) → IsLegalTrace g events → Grouped g (trace g events)
unfolding trace
grouped g [] legal = grouped_start g
grouped g (e ∷ events) legal =
    let t = trace g events in
    let h = grouped g events legal.1 in
    grouped_more g t h (event_entry g t e) (step g t e) (submits_grouped g t e h legal.0)

-- ## How much was submitted

-- the event submits this in instance 0
capped_more : (g : Group) (t : Trace) (e : Event) → refused g t e ≡ None → (q : ℕ) → length (submitted_ops t 0 q) ≤ g.cap
    → IsSubmitted (event_entry g t e) t 0 q → length (submitted_ops (event_entry g t e ∷ t) 0 q) ≤ g.cap
capped_more g t (Submit r object_op) allowed q le s =
    let same : r ≡ q = ap (λ (z : Submission). z.replica) (same_Some _ s.submission s.by) ∙ s.replica in
    let room : length (submitted_ops t 0 q) < g.cap =
    subst (λ p. length (submitted_ops t 0 p) < g.cap) same (submitter_room g t r object_op allowed) in
    omega (arith, room, ap length s.all ∙ length_push (submitted_ops t 0 q) s.submission.object_op)
capped_more g t (Decide r k value) allowed q le s =
    let at : first_instance k ≡ 0 = ap (λ (z : Submission). z.instance) (same_Some _ s.submission s.by) ∙ s.instance in
    absurd (omega (arith, at))
capped_more g t (Deliver k) allowed q le s =
    let v = vote_after (opening_learnt (event_entry g t (Deliver k)).did) s.submission s.by in
    let is = second_vote_is v.0 s.submission v.2 in
    absurd (omega (arith, is.1, s.instance))
capped_more g t (Ask r object query) allowed q le s = absurd (none-some s.submission s.by)

pub capped : (g : Group) (events : List Event) → IsLegalTrace g events → (q : ℕ)
    → length (submitted_ops (trace g events) 0 q) ≤ g.cap
unfolding trace submitted_ops
capped g [] legal q = omega arith
capped g (e ∷ events) legal q =
    let t = trace g events in
    elim (submitted_by (event_entry g t e) t 0 q) [
      | inl same ↦ subst (λ (zs : List ObjectOp). length zs ≤ g.cap) (sym same) (capped g events legal.1 q)
      | inr s ↦ capped_more g t e legal.0 q (capped g events legal.1 q) s
    ]
