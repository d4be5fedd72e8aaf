-- A world as its nodes, and what a call on one of them leaves of it.
use Rattle.std.proofs.Common.{◌≡◌, ℕ, ◌+◌, ◌<◌, List, [], ◌∷◌, ◌++◌, length, map, get_or, slice_get, slice_set, Option, Some, None, IsSome, IsSomeAnd, option_map, refl, ap, ap₂, sym, ◌∙◌, subst, append_assoc, arith}
use Rattle.std.proofs.lemmas.List.{map-set, map-append, length-map}
use Rattle.std.proofs.lemmas.Option.{slice_get-map, slice_get_within}
use Rattle.std.specs.List.{range_with_len}
use Rattle.la_set.specs.ObjectOps.{ObjectOp}
use Rattle.la_proposer.specs.Majority.{votes_of}
use Rattle.la_object.specs.Shelves.{ShelfState, kind_at}
use Rattle.la_replica.specs.declared.message.Message as code
use Rattle.la_replica.specs.ReplicaState.{start}
use Rattle.la_node.specs.declared.config.Config.{Config}
use Rattle.la_world.specs.declared.journal.Journal.{Journal}
use Rattle.la_world.specs.Events.{Event}
use Rattle.la_node.specs.Nodes.{NodeState, node_at_start, replicas_of, shelves_of}
use Rattle.la_world.specs.StandsFor.{World, world_of}
use Rattle.la_world.specs.Calls.{HoldsWorldInvariant, IsEventSubmission, IsAllowed, HasObject}
use Rattle.la_world.proofs.Lists.{get_mapped}
use Rattle.la_world.proofs.lemmas.Starting.{replica_states_more}
use Rattle.la_world.proofs.Worlds.{set_same, found_at, IsDelivery, IsTaken}

abbrev pub world_of_nodes : Config → List NodeState → Journal → World
world_of_nodes c nodes journal = world_of c (replicas_of nodes) (shelves_of nodes) journal

pub replica_at : (nodes : List NodeState) (r : ℕ)
    → slice_get (replicas_of nodes) r ≡ option_map (λ (n : NodeState). n.replica) (slice_get nodes r)
replica_at = slice_get-map (λ (n : NodeState). n.replica)

pub shelf_at : (nodes : List NodeState) (r : ℕ)
    → slice_get (shelves_of nodes) r ≡ option_map (λ (n : NodeState). n.shelf) (slice_get nodes r)
shelf_at = slice_get-map (λ (n : NodeState). n.shelf)

pub node_known : (nodes : List NodeState) (r : ℕ) → r < length (replicas_of nodes) → r < length nodes
node_known nodes r lt = subst (λ k. r < k) (length-map nodes (λ (n : NodeState). n.replica)) lt

pub read_node : (nodes : List NodeState) (r : ℕ) → r < length (replicas_of nodes) → {n : NodeState}
    → n ≡ get_or nodes r n → slice_get nodes r ≡ Some n
read_node nodes r lt {n = n} read = found_at nodes r n (node_known nodes r lt) read

module _ (nodes : List NodeState) (r : ℕ) (n : NodeState) (found : slice_get nodes r ≡ Some n) where
  pub shelf_found : slice_get (shelves_of nodes) r ≡ Some n.shelf
  shelf_found = get_mapped (λ (m : NodeState). m.shelf) nodes r n found

  pub replica_found : slice_get (replicas_of nodes) r ≡ Some n.replica
  replica_found = get_mapped (λ (m : NodeState). m.replica) nodes r n found

  module _ (c : Config) (made : NodeState) (journal : Journal) where
    -- its shelf stays
    pub stepped : made.shelf ≡ n.shelf
        → world_of_nodes c (slice_set nodes r made) journal
        ≡ world_of c (slice_set (replicas_of nodes) r made.replica) (shelves_of nodes) journal
    stepped same = ap₂ (λ ms ss. world_of c ms ss journal) (map-set (λ (m : NodeState). m.replica) nodes r made)
        (map-set (λ (m : NodeState). m.shelf) nodes r made ∙ ap (slice_set (shelves_of nodes) r) same
        ∙ set_same (shelves_of nodes) r n.shelf shelf_found)

    -- its replica stays
    pub looked : made.replica ≡ n.replica
        → world_of_nodes c (slice_set nodes r made) journal
        ≡ world_of c (replicas_of nodes) (slice_set (shelves_of nodes) r made.shelf) journal
    looked same = ap₂ (λ ms ss. world_of c ms ss journal)
        (map-set (λ (m : NodeState). m.replica) nodes r made ∙ ap (slice_set (replicas_of nodes) r) same
        ∙ set_same (replicas_of nodes) r n.replica replica_found)
        (map-set (λ (m : NodeState). m.shelf) nodes r made)

    -- all of it does
    pub unchanged : made ≡ n → world_of_nodes c (slice_set nodes r made) journal ≡ world_of_nodes c nodes journal
    unchanged same = ap (λ ns. world_of_nodes c ns journal) (ap (slice_set nodes r) same ∙ set_same nodes r n found)

-- a node on whose shelf there is an object
pub asked_known : (nodes : List NodeState) (r object : ℕ) → HasObject (shelves_of nodes) r object → r < length nodes
asked_known nodes r object has =
    subst (λ k. r < k) (length-map nodes (λ (n : NodeState). n.shelf)) (go (slice_get (shelves_of nodes) r) refl has)
  where
    go : (o : Option ShelfState) → slice_get (shelves_of nodes) r ≡ o
        → IsSomeAnd o (λ (s : ShelfState). IsSome (kind_at s.objects object)) → r < length (shelves_of nodes)
    go None e h = absurd h
    go (Some s) e h = slice_get_within (shelves_of nodes) r s e

pub none_left : {A : Type 0} (xs : List A) → length xs ≡ 0 → xs ≡ []
none_left [] e = refl
none_left (x ∷ xs) e = absurd (omega (arith, e))

-- nodes that are made one after another
module _ (c : Config) (own : ℕ) (nodes more : List NodeState) (node : NodeState) (shelf : ShelfState)
    (is : node ≡ node_at_start c own shelf) (then : more ≡ nodes ++ node ∷ []) where
  pub replicas_more : replicas_of nodes ≡ map (λ r. start (votes_of c.votes) r c.cap c.commits) (range_with_len 0 own)
      → replicas_of more ≡ map (λ r. start (votes_of c.votes) r c.cap c.commits) (range_with_len 0 (own + 1))
  replicas_more so_far =
      replica_states_more c (replicas_of nodes) (replicas_of more) node.replica own so_far
      (ap (λ (n : NodeState). n.replica) is)
      (ap replicas_of then ∙ map-append (λ (n : NodeState). n.replica) nodes (node ∷ []))

  pub shelves_more : (left rest all : List ShelfState) → left ≡ shelf ∷ rest → shelves_of nodes ++ left ≡ all
      → shelves_of more ++ rest ≡ all
  shelves_more left rest all next so_far =
      ap (λ ns. shelves_of ns ++ rest) then
      ∙ ap (λ ss. ss ++ rest) (map-append (λ (n : NodeState). n.shelf) nodes (node ∷ []))
      ∙ append_assoc (shelves_of nodes) (node.shelf ∷ []) rest
      ∙ ap (λ (n : NodeState). shelves_of nodes ++ n.shelf ∷ rest) is
      ∙ ap (λ ss. shelves_of nodes ++ ss) (sym next)
      ∙ so_far

-- what is read of the nodes is read of their replicas
pub receiver_at : (c : Config) (nodes : List NodeState) (journal : Journal)
    → HoldsWorldInvariant (world_of_nodes c nodes journal) → (k : ℕ) → {message : code.Message}
    → slice_get journal.messages.items k ≡ Some message → {n : NodeState} → slice_get nodes message.to ≡ Some n
    → IsDelivery (world_of_nodes c nodes journal) k message n.replica
receiver_at c nodes journal invariant k {message = message} message_is {n = n} found = record { invariant = invariant; message_is = message_is; receiver_is = replica_found nodes message.to n found }

pub submitter_at : (c : Config) (nodes : List NodeState) (journal : Journal)
    → HoldsWorldInvariant (world_of_nodes c nodes journal) → {old : World} → world_of_nodes c nodes journal ≡ old
    → (e : Event) (i r : ℕ) (object_op : ObjectOp) → IsEventSubmission e i r object_op → IsAllowed old e → {n : NodeState}
    → slice_get nodes r ≡ Some n → IsTaken (world_of_nodes c nodes journal) i r object_op n.replica
submitter_at c nodes journal invariant same e i r object_op event allowed {n = n} found = record {
  invariant = invariant;
  event = (e, event, subst (λ (v : World). IsAllowed v e) (sym same) allowed);
  found = replica_found nodes r n found;
}
