-- What a participant returned, it returned by a set that it learnt in the object's second instance.
use Rattle.std.proofs.Common.{◌≡◌, ℕ, [], ◌∷◌, length, Contains, Option, Some, None, option_map, option_and_then, filter_map, refl, ◌∙◌, ap, subst}
use Rattle.std.specs.List.{cons_option}
use Rattle.std.proofs.lemmas.Option.{same_Some, none-some}
use Rattle.la_set.specs.Histories.{Histories}
use Rattle.la_commit.specs.declared.outcome.Outcome.{Outcome}
use Rattle.la_commit.specs.declared.vote.Vote.{Vote}
use Rattle.la_commit.specs.Votes.{own_vote, HoldsVote}
use Rattle.la_commit.specs.Outcomes.{outcome, outcome_of}
use Rattle.la_commit.proofs.lemmas.Listed.{filter_map-contains}
use Rattle.la_commit.specs.Instances.{second_instance}
use Rattle.la_replica.specs.Messages.{group}
use Rattle.la_world.specs.declared.report.Decision.{Decision}
use Rattle.la_world.specs.declared.step.Learnt.{Learnt}
use Rattle.la_proposer.specs.declared.ballot.Ballot.{Ballot}
use Rattle.la_world.specs.declared.step.Opening.{Opening}
use Rattle.la_world.specs.Groups.{Group, replicas}
use Rattle.la_world.specs.Trace.{Trace}
use Rattle.la_world.specs.Ballots.{only, opening_learnt}
use Rattle.la_world.specs.Learnings.{learning, learnt, newest_ballot, last_learnt_ballot, trace_learnt}
use Rattle.la_world.specs.Outcomes.{returned, decision_of, decisions_on, decisions}
use Rattle.std.specs.List.{range_with_len}
use Rattle.la_world.proofs.Lists.{IsIn_contains, contains_IsIn, in_flat_map}
use Rattle.la_world.proofs.Openings.{only_is}
use Rattle.la_world.proofs.SubmittedVotes.{learnt_stays, learnt_now}

-- the set that r learnt last in i was learnt
record WasLast (t : Trace) (i r : ℕ) (s : Histories) : Type 0 where
  set : Learnt
  was : Contains (learnt t) set
  instance : set.instance ≡ i
  replica : set.replica ≡ r
  updates : set.updates ≡ s

last_was : (t : Trace) (i r : ℕ) (s : Histories) → trace_learnt t i r ≡ Some s → WasLast t i r s
unfolding last_learnt_ballot
last_was [] i r s e = absurd (none-some s e)
last_was (x ∷ t) i r s e = go (only i r (opening_learnt x.did)) refl (last_was t i r s) e
  where
    go : (o : Option Opening) → only i r (opening_learnt x.did) ≡ o → (trace_learnt t i r ≡ Some s → WasLast t i r s)
        → option_map (λ (c : Ballot). c.updates)
        (newest_ballot (cons_option o (filter_map (λ y. only i r (opening_learnt y.did)) t))) ≡ Some s
        → WasLast (x ∷ t) i r s
    go None f before k = let w = before k in record { set = w.set; was = learnt_stays x t w.set w.was; instance = w.instance; replica = w.replica; updates = w.updates }
    go (Some b) f before k = let p = only_is i r (opening_learnt x.did) b f in record { set = learning (length t) b; was = learnt_now x t b p.0; instance = p.1; replica = p.2; updates = same_Some b.updates s k }

-- what x says was returned by this set, with this own vote in it
pub record IsReturned (t : Trace) (x : Decision) : Type 0 where
  pub set : Learnt
  pub was : Contains (learnt t) set
  pub instance : set.instance ≡ second_instance x.commit
  pub own : Vote
  pub holds : HoldsVote set.updates set.replica own
  pub is : outcome set.updates own.value ≡ x.outcome

outcome_by_own : (s : Histories) (r : ℕ) (o : Outcome) → outcome_of s r ≡ Some o
    → (v : Vote) × HoldsVote s r v × (outcome s v.value ≡ o)
outcome_by_own s r o e = go (own_vote s r) refl e
  where
    go : (w : Option Vote) → own_vote s r ≡ w → option_map (λ (v : Vote). outcome s v.value) w ≡ Some o
        → (v : Vote) × HoldsVote s r v × (outcome s v.value ≡ o)
    go None f k = absurd (none-some o k)
    go (Some v) f k = (v, f, same_Some (outcome s v.value) o k)

returned_by : (t : Trace) (k r : ℕ) (o : Outcome) → returned t k r ≡ Some o → IsReturned t (decision_of k r o)
returned_by t k r o e = go (trace_learnt t (second_instance k) r) refl e
  where
    go : (l : Option Histories) → trace_learnt t (second_instance k) r ≡ l
        → option_and_then (λ s. outcome_of s r) l ≡ Some o → IsReturned t (decision_of k r o)
    go None f h = absurd (none-some o h)
    go (Some s) f h =
        let w = last_was t (second_instance k) r s f in
        let v = outcome_by_own s r o h in
        record {
          set = w.set;
          was = w.was;
          instance = w.instance;
          own = v.0;
          holds = ap (λ q. own_vote w.set.updates q) w.replica ∙ ap (λ u. own_vote u r) w.updates ∙ v.1;
          is = ap (λ u. outcome u v.0.value) w.updates ∙ v.2;
        }

decided : (t : Trace) (k r : ℕ) (x : Decision) (o : Option Outcome) → returned t k r ≡ o
    → option_map (decision_of k r) o ≡ Some x → IsReturned t x
decided t k r x None e k_is = absurd (none-some x k_is)
decided t k r x (Some o) e k_is = subst (IsReturned t) (same_Some (decision_of k r o) x k_is) (returned_by t k r o e)

pub was_returned : (g : Group) (t : Trace) (x : Decision) → Contains (decisions g t) x → IsReturned t x
was_returned g t x has =
    let on = in_flat_map (decisions_on g t) (range_with_len 0 g.commits) x (contains_IsIn (decisions g t) x has) in
    let k = on.0 in
    let by =
    filter_map-contains (λ r. option_map (decision_of k r) (returned t k r)) (group (replicas g)) x
    (IsIn_contains (decisions_on g t k) x on.1) in
    decided t k by.item x (returned t k by.item) refl by.gives
