-- What a participant returned from an object it returns for good: once it has learnt a set in one of the
-- object's instances, no ballot of its own opens there again.
use Rattle.std.proofs.Common.{◌≡◌, ℕ, ◌≤◌, true, List, [], ◌∷◌, ◌++◌, length, Option, Some, None, option_map, option_and_then, refl, sym, ◌∙◌, ap, subst, subst₂, arith}
use Rattle.std.proofs.lemmas.Bool.{true≢false}
use Rattle.std.proofs.lemmas.Option.{none-some}
use Rattle.la_set.specs.Histories.{count}
use Rattle.la_proposer.specs.declared.ballot.Ballot.{Ballot}
use Rattle.la_commit.specs.declared.outcome.Outcome.{Outcome}
use Rattle.la_commit.specs.Instances.{second_instance}
use Rattle.la_commit.specs.Outcomes.{outcome_of}
use Rattle.la_world.specs.declared.step.Opening.{Opening}
use Rattle.la_world.specs.Groups.{Group}
use Rattle.la_world.specs.Events.{Event}
use Rattle.la_world.specs.Trace.{Entry, Trace}
use Rattle.la_world.specs.Ballots.{opening_learnt, only, ballots, is_open}
use Rattle.la_world.specs.Submissions.{submitted_ops}
use Rattle.la_world.specs.Playing.{event_entry, trace}
use Rattle.la_world.specs.Learnings.{last_learnt_ballot}
use Rattle.la_world.specs.StandsFor.{IsLegalTrace}
use Rattle.la_world.specs.Laws.{OutcomesStay}
use Rattle.la_world.proofs.Lists.{IsIn}
use Rattle.la_world.proofs.Openings.{only_is}
use Rattle.la_world.proofs.EventCases.{step}
use Rattle.la_world.proofs.Quorum.{event_learns, open_in}
use Rattle.la_world.proofs.Traces.{holds}
use Rattle.la_world.proofs.Unaffected.{last_learnt_ballot-none}
use Rattle.la_world.proofs.Once.{IsDone, still_done, now_done, once, votes_once}
use Rattle.la_world.proofs.OwnFirst.{own_held}

nothing_learnt : (i r : ℕ) → last_learnt_ballot [] i r ≡ None
unfolding last_learnt_ballot
nothing_learnt i r = refl

-- a ballot that ends as learnt was open, and is the last one
module _ (g : Group) (events : List Event) (e : Event) (c : Opening)
    (ends : opening_learnt (event_entry g (trace g events) e).did ≡ Some c) where
  abbrev t : Trace
  t = trace g events

  pub was_open : is_open t c.instance c.replica ≡ true
  was_open = (event_learns g t e (event_entry g t e).delivered (event_entry g t e).did (step g t e).cases c ends).asking

  holds_own : 1 ≤ count c.updates c.replica
  holds_own =
      own_held g events c.instance c.replica c
      (subst (λ z. IsIn z (ballots t c.instance c.replica))
      (event_learns g t e (event_entry g t e).delivered (event_entry g t e).did (step g t e).cases c ends).is_last
      (open_in t c.instance c.replica was_open))

-- where a set was learnt in an instance of an object, the ballot there has ended for good
learnt_done : (g : Group) (events : List Event) → IsLegalTrace g events → (i r : ℕ) → (i ≡ 0 → ⊥) → (b : Ballot)
    → last_learnt_ballot (trace g events) i r ≡ Some b → IsDone (trace g events) i r
unfolding trace
learnt_done g [] legal i r above b e = absurd (none-some b (sym (nothing_learnt i r) ∙ e))
learnt_done g (d ∷ events) legal i r above b e =
    go (only i r (opening_learnt x.did)) refl (learnt_done g events legal.1 i r above b)
  where
    t : Trace
    t = trace g events

    x : Entry
    x = event_entry g t d

    le : length (submitted_ops (x ∷ t) i r) ≤ 1
    le = once (x ∷ t) i r (votes_once g (d ∷ events) legal) above

    go : (o : Option Opening) → only i r (opening_learnt x.did) ≡ o → (last_learnt_ballot t i r ≡ Some b → IsDone t i r)
        → IsDone (x ∷ t) i r
    go None f before =
        still_done g t x (holds g events) (step g t d) i r le (before (sym (last_learnt_ballot-none x t i r f) ∙ e))
    go (Some c) f before =
        let p = only_is i r (opening_learnt x.did) c f in
        now_done g t x (holds g events) (step g t d) i r le c p.0 (holds_own g events d c p.0) p.1 p.2

-- and no other set is learnt there
learnt_more : (g : Group) (events : List Event) (d : Event) → IsLegalTrace g events → (i r : ℕ) → (i ≡ 0 → ⊥) → (b : Ballot)
    → last_learnt_ballot (trace g events) i r ≡ Some b → last_learnt_ballot (trace g (d ∷ events)) i r ≡ Some b
unfolding trace
learnt_more g events d legal i r above b e = go (only i r (opening_learnt x.did)) refl
  where
    t : Trace
    t = trace g events

    x : Entry
    x = event_entry g t d

    go : (o : Option Opening) → only i r (opening_learnt x.did) ≡ o → last_learnt_ballot (x ∷ t) i r ≡ Some b
    go None f = last_learnt_ballot-none x t i r f ∙ e
    go (Some c) f =
        let p = only_is i r (opening_learnt x.did) c f in
        absurd
        (true≢false
        (sym (subst₂ (λ j q. is_open t j q ≡ true) p.1 p.2 (was_open g events d c p.0))
        ∙ (learnt_done g events legal i r above b e).closed))

learnt_stays : (g : Group) (more events : List Event) → IsLegalTrace g (more ++ events) → (i r : ℕ) → (i ≡ 0 → ⊥)
    → (b : Ballot) → last_learnt_ballot (trace g events) i r ≡ Some b
    → last_learnt_ballot (trace g (more ++ events)) i r ≡ Some b
learnt_stays g [] events legal i r above b e = e
learnt_stays g (d ∷ more) events legal i r above b e =
    learnt_more g (more ++ events) d legal.1 i r above b (learnt_stays g more events legal.1 i r above b e)

pub outcomes_stay : OutcomesStay
outcomes_stay g events more k r o legal e = go (last_learnt_ballot (trace g events) i r) refl
  where
    i : ℕ
    i = second_instance k

    by : Option Ballot → Option Outcome
    by l = option_and_then (λ s. outcome_of s r) (option_map (λ (b : Ballot). b.updates) l)

    go : (l : Option Ballot) → last_learnt_ballot (trace g events) i r ≡ l
        → by (last_learnt_ballot (trace g (more ++ events)) i r) ≡ Some o
    go None f = absurd (none-some o (sym (ap by f) ∙ e))
    go (Some b) f = ap by (learnt_stays g more events legal i r (λ z. omega (arith, z)) b f ∙ sym f) ∙ e
