-- A message of which something still is said changes nothing.
use Rattle.std.proofs.Common.{◌≡◌, Bool, true, Option, Some, None, option_and_then, refl, sym, ap, subst, ◌∙◌}
use Rattle.std.proofs.lemmas.Option.{none-some, same_Some}
use Rattle.la_replica.specs.Whole.{Message, Out}
use Rattle.la_replica.specs.Received.{received_in}
use Rattle.la_replica.specs.ReplicaState.{ReplicaState, submits, receives}
use Rattle.la_replica.specs.Still.{has_grown, is_still}
use Rattle.la_replica.proofs.lemmas.Still.{still_keeps as receipts_keep, still_learns_nothing}
use Rattle.la_node.specs.SecondVotes.{Submission, second_vote_in}
use Rattle.la_node.specs.Taking.{Taken, without_vote, with_vote, then_votes, takes, vote_due}
use Rattle.la_node.specs.Calls.{Received}
use Rattle.la_node.specs.Steps.{Given, of_receipt, step_given, StillMessagesChangeNothing}
use Rattle.la_node.proofs.lemmas.Stepping.{some_of, was_accepted}

-- the vote that is due leaves what was said
votes_say : (first : Out × ReplicaState) (vote : Option Submission) (made : Taken × ReplicaState)
    → then_votes first vote ≡ Some made → made.0.said ≡ first.0.said
votes_say first None made e =
    ap (λ (p : Taken × ReplicaState). p.0.said) (sym (same_Some (without_vote first.0, first.1) made e))
votes_say first (Some vote) made e =
    let x = some_of {B = Taken × ReplicaState} (λ (c : Out × ReplicaState). (with_vote first.0 vote.instance c.0, c.1))
    (submits first.1 vote.instance vote.object_op) made e in
    ap (λ (p : Taken × ReplicaState). p.0.said) (sym x.2)

taking_keeps : (r : ReplicaState) (m : Message) (taken : Taken × ReplicaState) → takes r m ≡ Some taken
    → is_still (has_grown r taken.1 m.instance) taken.0.said ≡ true → taken.1 ≡ r
taking_keeps r m taken e still = go (receives r m) refl e
  where
    grew : Bool
    grew = has_grown r taken.1 m.instance

    go : (o : Option (Out × ReplicaState)) → receives r m ≡ o
        → option_and_then (λ (made : Out × ReplicaState). then_votes made (vote_due m.instance r.own made.0.said)) o
        ≡ Some taken → taken.1 ≡ r
    go None is h = absurd (none-some taken h)
    go (Some made) is h =
        let said = votes_say made (vote_due m.instance r.own made.0.said) taken h in
        let still_said = subst (λ s. is_still grew s ≡ true) said still in
        let none = still_learns_nothing grew made.0.said still_said in
        let alone = subst
        (λ o. then_votes made (option_and_then (second_vote_in m.instance r.own) o) ≡ Some taken) none h in
        let after = ap (λ (p : Taken × ReplicaState). p.1) (same_Some (without_vote made.0, made.1) taken alone) in
        receipts_keep r taken.1 m made.0 (is ∙ ap (λ (s : ReplicaState). Some (made.0, s)) after) still_said

pub still_keeps : StillMessagesChangeNothing
unfolding step_given
still_keeps r after m given e still =
    let both = was_accepted r (Received m) (given, after) e in
    let x = some_of (of_receipt r m) (takes r (received_in r m)) (given, after) both.1 in
    sym (ap (λ (p : Given × ReplicaState). p.1) x.2)
    ∙ taking_keeps r (received_in r m) x.0 x.1
    (subst (λ (p : Given × ReplicaState). is_still (has_grown r p.1 m.instance) p.0.said ≡ true) (sym x.2) still)
