-- What was returned, in a world and in the trace that it stands for.
use Rattle.std.proofs.Common.{◌≡◌, ℕ, zero, suc, ◌+◌, ◌<◌, ◌≤◌, Bool, true, false, cond, List, [], ◌∷◌, ◌++◌, map, nat_lt, Option, Some, None, option_map, option_and_then, refl, ap, ap₂, sym, ◌∙◌, append-nil, append_assoc, arith}
use Rattle.std.specs.Prelude.{filter_map, flat_map}
use Rattle.std.specs.List.{range_with_len, cons_option}
use Rattle.std.proofs.lemmas.Bool.{ltb-true, cond-true, cond-false}
use Rattle.la_commit.specs.declared.outcome.Outcome.{Outcome}
use Rattle.la_commit.specs.Instances.{second_instance}
use Rattle.la_commit.specs.Outcomes.{outcome_of}
use Rattle.la_replica.specs.Messages.{group}
use Rattle.la_replica.specs.ReplicaState.{ReplicaState, learnt_of}
use Rattle.la_world.specs.declared.report.Decision.{Decision}
use Rattle.la_world.specs.Groups.{Group, replicas}
use Rattle.la_world.specs.Events.{Event}
use Rattle.la_world.specs.Trace.{Trace}
use Rattle.la_world.specs.Outcomes.{decision_of, returned, decisions_on, decisions}
use Rattle.la_world.specs.Playing.{trace}
use Rattle.la_world.specs.ReplicaStates.{instance_of, replica_state, replica_states}
use Rattle.la_world.specs.StandsFor.{World, group_in, StandsFor}
use Rattle.la_node.specs.Nodes.{returned_by}
use Rattle.la_world.specs.Calls.{returned_at, returned_in, returned_of, decision_by, decisions_at, decisions_in}
use Rattle.la_world.proofs.OneReplicaSteps.{get_instance}
use Rattle.la_world.proofs.Worlds.{replica_state_found}

-- one object more
pub decisions_more : (states : List ReplicaState) (n : ℕ)
    → flat_map (decisions_at states) (range_with_len 0 (n + 1))
    ≡ flat_map (decisions_at states) (range_with_len 0 n) ++ decisions_at states n
decisions_more states n =
    let more : n + 1 ≡ suc n = omega arith in
    let at : 0 + n ≡ n = omega arith in
    ap (λ j. flat_map f (range_with_len 0 j)) more ∙ go 0 n ∙ ap (λ j. flat_map f (range_with_len 0 n) ++ f j) at
  where
    f : ℕ → List Decision
    f = decisions_at states

    go : (k n : ℕ) → flat_map f (range_with_len k (suc n)) ≡ flat_map f (range_with_len k n) ++ f (k + n)
    go k zero = append-nil (f k) ∙ ap f (omega arith)
    go k (suc n) =
        ap (λ xs. f k ++ xs) (go (k + 1) n)
        ∙ sym (append_assoc (f k) (flat_map f (range_with_len (k + 1) n)) (f (k + 1 + n)))
        ∙ ap (λ j. (f k ++ flat_map f (range_with_len (k + 1) n)) ++ f j) (omega arith)

-- a replica of the trace, and an object of the group
pub returned_is : (g : Group) (t : Trace) (k r : ℕ) → k < g.commits
    → returned_by k (replica_state g t r) ≡ returned t k r
unfolding replica_state instance_of
returned_is g t k r lt =
    ap (option_and_then (λ s. outcome_of s r)) (ap learnt_of (get_instance g t r (second_instance k) (omega arith)))

-- ## Lists

module _ (g : Group) (t : Trace) where
  decided : (k : ℕ) → k < g.commits → (rs : List ℕ)
      → filter_map (decision_by k) (map (replica_state g t) rs)
      ≡ filter_map (λ r. option_map (decision_of k r) (returned t k r)) rs
  unfolding replica_state
  decided k lt [] = refl
  decided k lt (r ∷ rs) =
      ap₂ (λ o xs. cons_option o xs) (ap (option_map (decision_of k r)) (returned_is g t k r lt)) (decided k lt rs)

  decided_all : (k n : ℕ) → k + n ≤ g.commits
      → flat_map (decisions_at (replica_states g t)) (range_with_len k n)
      ≡ flat_map (decisions_on g t) (range_with_len k n)
  decided_all k zero le = refl
  decided_all k (suc n) le =
      ap₂ (λ xs ys. xs ++ ys) (decided k (omega arith) (group (replicas g))) (decided_all (k + 1) n (omega arith))

  pub decisions_made : flat_map (decisions_at (replica_states g t)) (range_with_len 0 g.commits) ≡ decisions g t
  decisions_made = decided_all 0 g.commits (omega arith)

module _ (w : World) (events : List Event) (stands : StandsFor w events) where
  abbrev g : Group
  g = group_in w

  abbrev t : Trace
  t = trace g events

  pub returned_found : (k r : ℕ) (found : Option Outcome) → found ≡ returned_in w k r → found ≡ returned_of g t k r
  returned_found k r found e = e ∙ go (nat_lt k w.config.commits) refl (nat_lt r (replicas g)) refl
    where
      go : (v : Bool) → nat_lt k w.config.commits ≡ v → (u : Bool) → nat_lt r (replicas g) ≡ u
          → cond v (returned_at w.replica_states k r) None ≡ cond u (cond v (returned t k r) None) None
      go true known true lt =
          ap (option_and_then (returned_by k))
          (replica_state_found w events stands r
          ∙ cond-true (nat_lt r (replicas g)) (Some (replica_state g t r)) None lt)
          ∙ returned_is g t k r (ltb-true k w.config.commits known)
      go true known false ge =
          ap (option_and_then (returned_by k))
          (replica_state_found w events stands r
          ∙ cond-false (nat_lt r (replicas g)) (Some (replica_state g t r)) None ge)
      go false known true lt = refl
      go false known false ge = refl

  pub decisions_are : decisions_in w ≡ decisions g t
  decisions_are =
      ap (λ ms. flat_map (decisions_at ms) (range_with_len 0 g.commits)) stands.led.replica_states ∙ decisions_made g t
