-- What a replica makes of a message makes its view no smaller.
use Rattle.std.proofs.Common.{◌≡◌, Option, Some, None, option_map, option_and_then, refl, subst}
use Rattle.std.proofs.lemmas.Option.{none-some, same_Some}
use Rattle.la_set.specs.Inclusion.{IsSubset}
use Rattle.la_set.proofs.lemmas.Inclusions.{subset-refl, subset-trans}
use Rattle.la_replica.specs.Whole.{Message, Out}
use Rattle.la_replica.specs.ReplicaState.{ReplicaState, submits, receives}
use Rattle.la_replica.proofs.lemmas.Growing.{receives_grows, submits_grows}
use Rattle.la_node.specs.SecondVotes.{Submission}
use Rattle.la_node.specs.Taking.{Taken, with_vote, takes, then_votes, vote_due}

vote_grows : (first : Out × ReplicaState) (vote : Option Submission) (made : Taken × ReplicaState)
    → then_votes first vote ≡ Some made → IsSubset first.1.view made.1.view
vote_grows first None made e =
    subst (λ (p : Taken × ReplicaState). IsSubset first.1.view p.1.view) (same_Some _ made e) (subset-refl first.1.view)
vote_grows first (Some vote) made e = go (submits first.1 vote.instance vote.object_op) refl e
  where
    go : (o : Option (Out × ReplicaState)) → submits first.1 vote.instance vote.object_op ≡ o
        → option_map {U = Taken × ReplicaState}
        (λ (cast : Out × ReplicaState). (with_vote first.0 vote.instance cast.0, cast.1)) o ≡ Some made
        → IsSubset first.1.view made.1.view
    go None is h = absurd (none-some made h)
    go (Some cast) is h =
        subst (λ (p : Taken × ReplicaState). IsSubset first.1.view p.1.view) (same_Some _ made h)
        (submits_grows first.1 vote.instance vote.object_op cast.0 cast.1 is)

pub takes_grows : (r : ReplicaState) (m : Message) (taken : Taken) (after : ReplicaState)
    → takes r m ≡ Some (taken, after) → IsSubset r.view after.view
takes_grows r m taken after e = go (receives r m) refl e
  where
    go : (o : Option (Out × ReplicaState)) → receives r m ≡ o
        → option_and_then (λ (made : Out × ReplicaState). then_votes made (vote_due m.instance r.own made.0.said)) o
        ≡ Some (taken, after) → IsSubset r.view after.view
    go None is h = absurd (none-some (taken, after) h)
    go (Some made) is h =
        subset-trans r.view made.1.view after.view (receives_grows r m made.0 made.1 is)
        (vote_grows made (vote_due m.instance r.own made.0.said) (taken, after) h)
