-- What a call leaves of a node, and what its refusals are.
use Rattle.std.proofs.Common.{◌≡◌, inl, inr, ℕ, ◌<◌, ◌≤◌, List, length, slice_get, Option, Some, None, Result, Ok, Err, IfErr, IsSomeAnd, option_map, option_and_then, refl, ap, sym, ◌∙◌, subst, arith}
use Rattle.std.proofs.lemmas.Bool.{cases_lt}
use Rattle.std.proofs.lemmas.Option.{none-some, slice_get_within, slice_get_past}
use Rattle.la_set.specs.ObjectOps.{ObjectOp}
use Rattle.la_set.specs.declared.update.UpdateId.{UpdateId}
use Rattle.la_set.specs.Histories.{Histories, ContainsUpdate}
use Rattle.la_set.specs.Inclusion.{IsSubset}
use Rattle.la_set.proofs.lemmas.Inclusions.{subset-trans}
use Rattle.la_proposer.specs.Majority.{votes_of}
use Rattle.la_proposer.specs.ProposerState.{submitted}
use Rattle.la_commit.specs.declared.instance.TheConstants.{MAX_COMMITS}
use Rattle.la_commit.specs.Instances.{first_instance, second_instance}
use Rattle.la_commit.specs.Outcomes.{outcome_of}
use Rattle.la_object.specs.declared.error.ShelfError.{ShelfError}
use Rattle.la_object.specs.declared.error.ShelfError.TheVariants.{Taken as TakenNumber, NotFresh, NoSuchObject, TooManyTags, Memory as ShelfMemory}
use Rattle.la_object.specs.Shelves.{ShelfState}
use Rattle.la_object.specs.Refusals.{IsTagsRefusal}
use Rattle.la_replica.specs.declared.instance.Instance.{Instance}
use Rattle.la_replica.specs.declared.error.ReplicaError.TheVariants.{Memory}
use Rattle.la_replica.specs.Whole.{Message, Body, Offer, Yes, No, Tell, Out}
use Rattle.la_replica.specs.Steps.{learnt_in, receives_body}
use Rattle.la_replica.specs.Refusals.{FitsBody, SparesBody, IsBodyRefusal}
use Rattle.la_replica.specs.ReplicaState.{ReplicaState, sender_of, learnt_of, submitted_in, submits}
use Rattle.la_replica.proofs.lemmas.Growing.{submits_grows}
use Rattle.la_node.specs.declared.config.Config.{Config}
use Rattle.la_node.specs.Nodes.{returned_by}
use Rattle.la_node.specs.Taking.{Taken, takes}
use Rattle.la_node.specs.Nodes.{NodeState, IsNode, IsParticipant, MayStart, node_at_start, IsObservedRefusal}
use Rattle.la_node.proofs.SubmittingOnce.{body_counts}
use Rattle.la_node.proofs.lemmas.Items.{exists}
use Rattle.la_node.proofs.Voters.{start_participates, update_participates, proposal_participates, taken_participates}

-- with this replica
abbrev pub with_replica : NodeState → ReplicaState → NodeState
with_replica n after = record { replica = after; shelf = n.shelf }

pub update_keeps : (n : NodeState) (d : ObjectOp) (out : Out) (after : ReplicaState) → IsNode n
    → submits n.replica 0 d ≡ Some (out, after) → IsNode (with_replica n after) × IsSubset n.replica.view after.view
update_keeps n d out after is e =
    let grows = submits_grows n.replica 0 d out after e in
    (record { within = subset-trans n.shelf.view n.replica.view after.view is.within grows; participates = update_participates n.replica d out after is.participates e }, grows)

pub proposal_keeps : (n : NodeState) (k i : ℕ) (d : ObjectOp) (out : Out) (after : ReplicaState) → IsNode n
    → i ≡ first_instance k → submitted_in n.replica (first_instance k) ≡ Some 0
    → submits n.replica i d ≡ Some (out, after) → IsNode (with_replica n after)
proposal_keeps n k i d out after is at none e = record {
  within = subset-trans n.shelf.view n.replica.view after.view is.within (submits_grows n.replica i d out after e);
  participates =
      proposal_participates n.replica k d out after is.participates none
      (subst (λ j. submits n.replica j d ≡ Some (out, after)) at e);
}

pub receipt_keeps : (n : NodeState) (m : Message) (taken : Taken) (after : ReplicaState) → IsNode n
    → takes n.replica m ≡ Some (taken, after) → IsNode (with_replica n after) × IsSubset n.replica.view after.view
receipt_keeps n m taken after is e =
    let both = taken_participates n.replica m taken after is.participates e in
    (record { within = subset-trans n.shelf.view n.replica.view after.view is.within both.1; participates = both.0 }, both.1)

-- ## A receipt

pub within_at : {X : Type 0} (P : X → Type 0) (xs : List X) (i : ℕ) (o : Option X) → slice_get xs i ≡ o → IsSomeAnd o P
    → i < length xs
within_at P xs i None e some = absurd some
within_at P xs i (Some x) e some = slice_get_within xs i x e

refused_body : (r : ReplicaState) (x : Instance) (m : Message) (b : Body) (s : Histories)
    → learnt_in (receives_body (sender_of r m.instance) x r.view m b).said ≡ Some s → FitsBody x m b → SparesBody x m b
    → IsBodyRefusal x r.view m b Memory
refused_body r x m (Offer offered) s e fits spares = absurd (none-some s e)
refused_body r x m Yes s e fits spares =
    let c = body_counts (sender_of r m.instance) x r.view m Yes s e in (c, λ id h. h, spares c)
refused_body r x m (No accepted) s e fits spares =
    let c = body_counts (sender_of r m.instance) x r.view m (No accepted) s e in (c, fits c, spares c)
refused_body r x m (Tell told) s e fits spares =
    absurd (body_counts (sender_of r m.instance) x r.view m (Tell told) s e)

-- ## Making one, and looking

pub start_keeps : (c : Config) (own : ℕ) (shelf : ShelfState) → MayStart c shelf → own < c.replicas
    → IsNode (node_at_start c own shelf)
start_keeps c own shelf may lt = record {
  within = λ u h. subst (λ v. ContainsUpdate v u) may.unused h;
  participates =
      start_participates (votes_of c.votes) own c.cap c.commits (omega (arith, lt, may.config.group.few))
      may.config.commits;
}

-- there are no more objects than a group may have
pub past_all : (r : ReplicaState) (k : ℕ) → IsParticipant r → MAX_COMMITS ≤ k → length r.instances ≤ first_instance k
past_all r k is most = omega (arith, is.few, most)

pub none_returned : (r : ReplicaState) (k : ℕ) → IsParticipant r → MAX_COMMITS ≤ k → None ≡ returned_by k r
none_returned r k is most =
    ap (λ o. option_and_then (λ s. outcome_of s r.own) (learnt_of o))
    (sym (slice_get_past r.instances (second_instance k) (let past = past_all r k is most in omega (arith, past))))

pub none_proposed : (r : ReplicaState) (i k : ℕ) → i ≡ first_instance k → submitted_in r i ≡ None
    → length r.instances ≤ first_instance k
none_proposed r i k at none = elim (cases_lt i (length r.instances)) [
  | inl lt ↦ absurd (let x = exists r.instances i lt in none-some (submitted x.0.proposer) (sym none ∙ ap (option_map (λ z. submitted z.proposer)) x.1))
  | inr le ↦ omega (arith, le, at)
]

-- ## A look at the shelf

-- what a shelf that has absorbed the view refuses is refused by the node too
pub observed_refused : (tags : Option (List UpdateId)) (r : Result (List UpdateId) ShelfError)
    → IfErr r (IsTagsRefusal tags) → IfErr r (IsObservedRefusal tags)
observed_refused tags (Ok ids) h = tt
observed_refused tags (Err NoSuchObject) h = h
observed_refused tags (Err TooManyTags) h = h
observed_refused (Some ids) (Err ShelfMemory) h = refl
observed_refused None (Err ShelfMemory) h = absurd h
observed_refused tags (Err TakenNumber) h = h
observed_refused tags (Err NotFresh) h = h
