-- What a world answers of outcomes is what its steps show, stays, and is listed.
use Rattle.std.proofs.Common.{◌≡◌, ℕ, ◌<◌, ◌≤◌, Bool, true, false, cond, [], ◌∷◌, Option, Some, None, Contains, option_map, option_and_then, slice_get, refl, ap, ap₂, sym, ◌∙◌}
use Rattle.std.specs.Prelude.{nat_lt}
use Rattle.std.proofs.lemmas.Bool.{ltb-true, lt-ltb, cond-true}
use Rattle.std.proofs.lemmas.Option.{same_Some, none-some}
use Rattle.la_replica.specs.ReplicaState.{ReplicaState}
use Rattle.la_world.specs.declared.step.Step.{Step}
use Rattle.la_world.specs.Groups.{Group, group_of, replicas}
use Rattle.la_world.specs.Events.{Event, Past}
use Rattle.la_world.specs.Trace.{Trace}
use Rattle.la_world.specs.Outcomes.{returned, decision_of}
use Rattle.la_world.specs.Playing.{trace}
use Rattle.la_world.specs.ReplicaStates.{replica_state}
use Rattle.la_world.specs.StandsFor.{World, kinds_of, group_in, StandsFor, IsLegalTrace}
use Rattle.la_node.specs.Nodes.{returned_by}
use Rattle.la_world.specs.Calls.{PlaysEvent, Keeps, returned_in, returned_of, decision_by, decisions_in}
use Rattle.la_world.specs.Headline.{OutcomesStayThere}
use Rattle.la_world.specs.Returning.{ShowsOutcome, ShowsVote, AnswersAreListed}
use Rattle.la_world.proofs.Lists.{IsIn_get}
use Rattle.la_world.proofs.Worlds.{replica_state_found}
use Rattle.la_world.proofs.WorldSteps.{few_of}
use Rattle.la_world.proofs.Returned.{returned_found}
use Rattle.la_world.proofs.Staying.{outcomes_stay}
use Rattle.la_world.proofs.Outcomes.{listed_by, is_told, shows_vote, did_of_line}

-- of a participant of the group, and an object that there is
returned_there : (g : Group) (t : Trace) (k r : ℕ) → r < replicas g → k < g.commits
    → returned_of g t k r ≡ returned t k r
returned_there g t k r known there =
    cond-true (nat_lt r (replicas g)) (cond (nat_lt k g.commits) (returned t k r) None) None
    (lt-ltb r (replicas g) known)
    ∙ cond-true (nat_lt k g.commits) (returned t k r) None (lt-ltb k g.commits there)

is_returned : (w : World) (events : Past) → StandsFor w events → (k r : ℕ)
    → returned_in w k r ≡ returned_of (group_in w) (trace (group_in w) events) k r
is_returned w events stands k r = returned_found w events stands k r (returned_in w k r) refl

-- ## An event

module _ (w : World) (events : Past) (e : Event) (s : Step) (after : World) (stands : StandsFor w events)
    (p : PlaysEvent w events e s after) where
  abbrev g : Group
  g = group_in w

  same : group_in after ≡ g
  same = ap₂ group_of p.config p.kinds

  legal : IsLegalTrace g (e ∷ events)
  legal = (p.allowed, stands.led.legal)

  few : replicas g ≤ 8
  few = few_of w.config (kinds_of w.shelves) stands.config

  returned_after : (k r : ℕ) → returned_in after k r ≡ returned_of g (trace g (e ∷ events)) k r
  returned_after k r =
      is_returned after (e ∷ events) p.stands k r ∙ ap (λ (h : Group). returned_of h (trace h (e ∷ events)) k r) same

  pub play_shows : ShowsOutcome s.did after
  unfolding trace
  play_shows y k learns at =
      let told = is_told g events e few legal s.did (did_of_line g (trace g events) e s (sym p.line)) y k learns at in (
        told.told,
        returned_after k y.replica
            ∙ returned_there g (trace g (e ∷ events)) k y.replica told.replica told.object ∙ told.returned,
      )

  pub play_votes : ShowsVote s.did
  play_votes = shows_vote g events e few legal s.did (did_of_line g (trace g events) e s (sym p.line))

  pub play_stays : OutcomesStayThere w after
  play_stays k r o had =
      returned_after k r
      ∙ go (nat_lt r (replicas g)) refl (nat_lt k g.commits) refl (sym (is_returned w events stands k r) ∙ had)
    where
      go : (u : Bool) → nat_lt r (replicas g) ≡ u → (v : Bool) → nat_lt k g.commits ≡ v
          → cond u (cond v (returned (trace g events) k r) None) None ≡ Some o
          → returned_of g (trace g (e ∷ events)) k r ≡ Some o
      go true known true there h =
          returned_there g (trace g (e ∷ events)) k r (ltb-true r (replicas g) known) (ltb-true k g.commits there)
          ∙ outcomes_stay g events (e ∷ []) k r o legal h
      go true known false there h = absurd (none-some o h)
      go false known v there h = absurd (none-some o h)

-- where nothing has happened
pub kept_stays : (w : World) (events : Past) (after : World) → StandsFor w events → Keeps w after
    → OutcomesStayThere w after
kept_stays w events after stands p k r o had =
    let same : group_in after ≡ group_in w = ap₂ group_of p.config p.kinds in
    is_returned after events (p.stands events stands) k r
    ∙ ap (λ (h : Group). returned_of h (trace h events) k r) same
    ∙ sym (is_returned w events stands k r) ∙ had

-- ## What is answered is listed

module _ (w : World) (events : Past) (stands : StandsFor w events) where
  own_at : (r : ℕ) (s : ReplicaState) → slice_get w.replica_states r ≡ Some s → s.own ≡ r
  unfolding replica_state
  own_at r s found = go (nat_lt r (replicas (group_in w))) (sym (replica_state_found w events stands r) ∙ found)
    where
      go : (v : Bool) → cond v (Some (replica_state (group_in w) (trace (group_in w) events) r)) None ≡ Some s
          → s.own ≡ r
      go true e = ap (λ (z : ReplicaState). z.own) (sym (same_Some _ s e))
      go false e = absurd (none-some s e)

  pub answers_listed : AnswersAreListed w
  answers_listed k r o answer = go (nat_lt k w.config.commits) refl (slice_get w.replica_states r) refl answer
    where
      listed : k < w.config.commits → (s : ReplicaState) → slice_get w.replica_states r ≡ Some s
          → returned_by k s ≡ Some o → Contains (decisions_in w) (decision_of k r o)
      listed there s found had =
          listed_by decision_by w.replica_states w.config.commits k s (decision_of k r o) there
          (IsIn_get w.replica_states r s found)
          (ap (option_map (decision_of k s.own)) had ∙ ap (λ q. Some (decision_of k q o)) (own_at r s found))

      go : (v : Bool) → nat_lt k w.config.commits ≡ v → (l : Option ReplicaState) → slice_get w.replica_states r ≡ l
          → cond v (option_and_then (returned_by k) l) None ≡ Some o → Contains (decisions_in w) (decision_of k r o)
      go false u l f e = absurd (none-some o e)
      go true u None f e = absurd (none-some o e)
      go true u (Some s) f e = listed (ltb-true k w.config.commits u) s f e
