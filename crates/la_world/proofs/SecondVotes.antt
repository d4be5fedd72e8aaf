-- A delivery by which a replica learns a set that leads to its second vote: nothing of its own waits in
-- the first instance, and it has submitted and opened nothing in the second one.
use Rattle.std.proofs.Common.{◌≡◌, ◌≢◌, ℕ, ◌<◌, ◌≤◌, ◌==◌, Bool, true, false, cond, List, [], ◌∷◌, ◌++◌, length, drop, Option, Some, None, refl, ap, sym, ◌∙◌, subst, subst₂, arith, inl, inr}
use Rattle.std.proofs.lemmas.Bool.{true≢false, cond-true}
use Rattle.std.proofs.lemmas.List.{drop_all}
use Rattle.std.proofs.lemmas.Option.{none-some}
use Rattle.std.specs.List.{cons_option}
use Rattle.la_set.specs.ObjectOps.{ObjectOp}
use Rattle.la_set.specs.Histories.{Histories, count}
use Rattle.la_set.specs.Inclusion.{IsSubset, is_larger}
use Rattle.la_acceptor.specs.declared.reply.Reply.{Reply}
use Rattle.la_acceptor.specs.declared.reply.Reply.TheVariants as replied
use Rattle.la_proposer.specs.declared.tally.Counted.{Counted}
use Rattle.la_proposer.specs.declared.tally.Verdict.{Verdict}
use Rattle.la_proposer.specs.declared.tally.Verdict.TheVariants.{Waits, Refines, Learns}
use Rattle.la_proposer.specs.Tally.{verdict}
use Rattle.la_commit.specs.Instances.{first_instance, second_instance, is_first_instance, commit_of}
use Rattle.la_replica.specs.Whole.{Message, Body, Offer, Yes, No, Tell}
use Rattle.la_replica.specs.Messages.{body_of}
use Rattle.la_world.specs.declared.step.Opening.{Opening}
use Rattle.la_world.specs.Groups.{Group, instances}
use Rattle.la_world.specs.Events.{Event}
use Rattle.la_world.specs.Trace.{Did, Ignored, Took, Kept, Learnt, Entry, Trace}
use Rattle.la_world.specs.Ballots.{opened_by, opening_learnt, only, ballots, round, is_open}
use Rattle.la_node.specs.SecondVotes.{Submission}
use Rattle.la_world.specs.Votes.{cast_vote}
use Rattle.la_world.specs.Submissions.{updates_alone, submitted_ops, submission_by, object_op_in, second_vote_after}
use Rattle.la_world.specs.Views.{trace_view}
use Rattle.la_world.specs.Playing.{opened_after_learning, ends, counts_reply, counted_with, does_hear, does_answer, does_tell, does_receive_body, does_receive, trace}
use Rattle.la_world.specs.StandsFor.{IsLegalTrace}
use Rattle.la_world.proofs.Lists.{IsIn}
use Rattle.la_world.proofs.Openings.{IsOf, only_is, round_is}
use Rattle.la_world.proofs.EventCases.{Source, gathers, joins, Step, step_opens}
use Rattle.la_world.proofs.Quorum.{counts_is, open_in}
use Rattle.la_world.proofs.SubmittedBound.{alone_within}
use Rattle.la_world.proofs.Traces.{always}
use Rattle.la_world.proofs.InGroup.{second_vote_is, second_within}
use Rattle.la_world.proofs.Once.{has_voted, voted_first, votes_once}

-- ## Who has submitted nothing has opened nothing

abbrev IsIdle : Trace → Type 0
IsIdle t = (i r : ℕ) → submitted_ops t i r ≡ [] → ballots t i r ≡ []

first_nil : (xs ys : List ObjectOp) → xs ++ ys ≡ [] → xs ≡ []
first_nil [] ys e = refl
first_nil (x ∷ xs) ys e = cc

-- nothing opens where nothing was submitted and no ballot is open
opens_nothing : (g : Group) (t : Trace) (x : Entry) → Step g t x → (i r : ℕ) → submitted_ops (x ∷ t) i r ≡ []
    → ballots t i r ≡ [] → (b : Opening) → opened_by x.did ≡ Some b → b.instance ≡ i → b.replica ≡ r → ⊥
opens_nothing g t x step i r none unopened b e ei er = go (step_opens g t x step b e).source
  where
    go : Source t x b → ⊥
    go (gathers plain made new) =
        new
        (subst (λ ds. IsSubset (updates_alone b.replica ds) (round t b.instance b.replica).updates) (sym (subst₂ (λ j q. submitted_ops (x ∷ t) j q ≡ []) (sym ei) (sym er) none))
        (alone_within b.replica [] (round t b.instance b.replica).updates (λ lt. record { front = refl })))
    go (joins refined m a p body c mi mr made some) =
        subst (IsIn (round t m.instance m.to)) (subst₂ (λ j q. ballots t j q ≡ []) (sym ei ∙ mi) (sym er ∙ mr) unopened)
        (open_in t m.instance m.to (counts_is t m c).0)

idle_more : (g : Group) (t : Trace) (x : Entry) → Step g t x → IsIdle t → IsIdle (x ∷ t)
unfolding submitted_ops ballots
idle_more g t x step idle i r none = go (only i r (opened_by x.did)) refl
  where
    before : ballots t i r ≡ []
    before = idle i r (first_nil (submitted_ops t i r) (object_op_in i r (submission_by x.event x.did)) none)

    go : (v : Option Opening) → only i r (opened_by x.did) ≡ v → cons_option v (ballots t i r) ≡ []
    go None e = before
    go (Some b) e =
        let p = only_is i r (opened_by x.did) b e in absurd (opens_nothing g t x step i r none before b p.0 p.1 p.2)

idle_start : IsIdle []
unfolding ballots
idle_start i r e = refl

idle : (g : Group) (events : List Event) → IsIdle (trace g events)
idle g events = always g IsIdle idle_start (λ t x step h p. idle_more g t x step p) events

-- so none is open
unopened : (g : Group) (events : List Event) (i r : ℕ) → submitted_ops (trace g events) i r ≡ []
    → is_open (trace g events) i r ≡ false
unopened g events i r none = go (is_open t i r) refl
  where
    t : Trace
    t = trace g events

    go : (v : Bool) → is_open t i r ≡ v → v ≡ false
    go false e = refl
    go true e = absurd (subst (IsIn (round t i r)) (idle g events i r none) (open_in t i r e))

-- ## A learning that leads to this vote

pub record LeadsTo (g : Group) (t : Trace) (m : Message) (s : Submission) : Type 0 where
  pub reply : Reply
  pub body : m.body ≡ body_of reply
  pub heeded : counts_reply t m ≡ true
  pub learns : verdict g.votes (counted_with t m reply) ≡ Learns
  pub vote : cast_vote (round t m.instance m.to) ≡ Some s

module _ (g : Group) (t : Trace) (m : Message) (s : Submission) where
  abbrev last : Opening
  last = round t m.instance m.to

  -- the event did this, which submits the vote
  abbrev Votes : Did → Type 0
  Votes d = second_vote_after (opening_learnt d) ≡ Some s

  heard_votes : (reply : Reply) → m.body ≡ body_of reply → counts_reply t m ≡ true → (w : Verdict)
      → verdict g.votes (counted_with t m reply) ≡ w → Votes (ends t last (counted_with t m reply) w) → LeadsTo g t m s
  heard_votes reply is heeded Waits e v = absurd (none-some s v)
  heard_votes reply is heeded Refines e v = absurd (none-some s v)
  heard_votes reply is heeded Learns e v = record { reply = reply; body = is; heeded = heeded; learns = e; vote = v }

  hears_votes : (reply : Reply) → m.body ≡ body_of reply → Votes (does_hear g t m reply) → LeadsTo g t m s
  unfolding does_hear
  hears_votes reply is = go (counts_reply t m) refl
    where
      go : (v : Bool) → counts_reply t m ≡ v
          → Votes (cond v (ends t last (counted_with t m reply) (verdict g.votes (counted_with t m reply))) Ignored)
          → LeadsTo g t m s
      go true e v = heard_votes reply is e (verdict g.votes (counted_with t m reply)) refl v
      go false e v = absurd (none-some s v)

  told_votes : (told : Histories) → Votes (does_tell t m told) → ⊥
  unfolding does_tell
  told_votes told = go (m.instance == 0) (is_larger (trace_view t m.to) told)
    where
      go : (v w : Bool) → Votes (cond v (cond w (Took told) Kept) Ignored) → ⊥
      go true true v = none-some s v
      go true false v = none-some s v
      go false w v = none-some s v

  body_votes : (b : Body) → m.body ≡ b → Votes (does_receive_body g t m b) → LeadsTo g t m s
  unfolding does_answer
  body_votes (Offer o) is v = absurd (none-some s v)
  body_votes Yes is v = hears_votes replied.Yes is v
  body_votes (No o) is v = hears_votes (replied.No o) is v
  body_votes (Tell o) is v = absurd (told_votes o v)

  pub leads_to : Votes (does_receive g t (Some m)) → LeadsTo g t m s
  leads_to v = body_votes m.body refl v

  -- and then this is what it does
  pub does_learn : LeadsTo g t m s → does_receive g t (Some m) ≡ Learnt last (opened_after_learning t last)
  unfolding does_hear
  does_learn l =
      ap (does_receive_body g t m) l.body ∙ of_reply l.reply
      ∙ cond-true (counts_reply t m) (ends t last tally (verdict g.votes tally)) Ignored l.heeded
      ∙ ap (ends t last tally) l.learns
    where
      tally : List Counted
      tally = counted_with t m l.reply

      of_reply : (reply : Reply) → does_receive_body g t m (body_of reply) ≡ does_hear g t m reply
      of_reply replied.Yes = refl
      of_reply (replied.No o) = refl

-- ## What stands where it is learnt

-- what is so before a second vote of r in j, where the ballot that leads to it is the last one of r in i
pub record IsDue (g : Group) (t : Trace) (i j r : ℕ) : Type 0 where
  pub first : is_first_instance i ≡ true
  pub apart : j ≢ i
  pub above : j ≢ 0
  pub there : i < instances g → j < instances g
  -- nothing of the replica's own is left in the first instance
  pub nothing_waits : drop (count (round t i r).updates r) (submitted_ops t i r) ≡ []
  -- nothing was submitted in the second one, and nothing is open there
  pub none : submitted_ops t j r ≡ []
  pub rests : is_open t j r ≡ false

due : (g : Group) (events : List Event) → IsLegalTrace g events → (i r : ℕ) (s : Submission) → let t = trace g events in is_open t i r ≡ true → cast_vote (round t i r) ≡ Some s → IsDue g t i s.instance r
due g events legal i r s asks vote = record {
  first = first;
  apart = λ e. omega (arith, to, at_first, e);
  above = λ e. omega (arith, to, e);
  there = λ lt. subst (λ j. j < instances g) (sym to) (second_within g i first lt);
  nothing_waits = drop_all (count (round t i r).updates r) (submitted_ops t i r) (omega (arith, once, voted));
  none = none;
  rests = unopened g events s.instance r none;
}
  where
    t : Trace
    t = trace g events

    of : IsOf i r (round t i r)
    of = round_is t i r

    k : ℕ
    k = commit_of i

    first : is_first_instance i ≡ true
    first = ap is_first_instance (sym of.instance) ∙ (second_vote_is (round t i r) s vote).0

    at_first : i ≡ first_instance k
    at_first = voted_first i k first refl

    to : s.instance ≡ second_instance k
    to = (second_vote_is (round t i r) s vote).1 ∙ ap (λ n. second_instance (commit_of n)) of.instance

    once : length (submitted_ops t i r) ≤ 1
    once = subst (λ n. length (submitted_ops t n r) ≤ 1) (sym at_first) ((votes_once g events legal).first k r)

    voted : 1 ≤ count (round t i r).updates r
    voted = subst (λ q. 1 ≤ count (round t i r).updates q) of.replica (has_voted (round t i r) s vote)

    none : submitted_ops t s.instance r ≡ []
    none = subst (λ n. submitted_ops t n r ≡ []) (sym to) (elim ((votes_once g events legal).done k r) [
      | inl e ↦ e
      | inr d ↦ absurd (true≢false (sym (subst (λ n. is_open t n r ≡ true) at_first asks) ∙ d.closed))
    ])

-- and so where a message that was sent leads to it
pub vote_due_at : (g : Group) (events : List Event) → IsLegalTrace g events → (m : Message) (s : Submission) → let t = trace g events in LeadsTo g t m s → IsDue g t m.instance s.instance m.to
vote_due_at g events legal m s l = due g events legal m.instance m.to s (counts_is (trace g events) m l.heeded).0 l.vote
