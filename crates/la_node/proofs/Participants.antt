-- What a replica makes of a message, where it votes by it and where it does not, from what it prepared.
use Rattle.std.proofs.Common.{◌≡◌, ℕ, ◌+◌, ◌%◌, Bool, true, false, cond, Option, Some, None, IsSomeAnd, slice_get, option_map, option_and_then, refl, ap, sym, ◌∙◌, subst, arith, eqb-true}
use Rattle.std.proofs.Math.Nat.{div-add-mod}
use Rattle.std.proofs.lemmas.Option.{none-some}
use Rattle.la_set.specs.Histories.{Histories}
use Rattle.la_commit.specs.declared.vote.Vote.{Vote}
use Rattle.la_commit.specs.Votes.{proposed, second_vote_for, casts}
use Rattle.la_commit.specs.Instances.{is_first_instance, commit_of, second_instance}
use Rattle.la_replica.specs.declared.change.Change.{Change}
use Rattle.la_replica.specs.declared.out.Said.{Said}
use Rattle.la_replica.specs.Whole.{Message, Out}
use Rattle.la_replica.specs.Changes.{IsProposerFrom, LeavesAgreeing, view_next, at_after, IsPreparedFrom, after_commit, led}
use Rattle.la_replica.specs.declared.instance.Instance.{Instance}
use Rattle.la_replica.specs.Steps.{learnt_in}
use Rattle.la_replica.specs.Refusals.{HasRoom, SubmittingSpares}
use Rattle.la_replica.specs.ReplicaState as acting
use Rattle.la_replica.specs.ReplicaState.{ReplicaState, with_instance}
use Rattle.la_node.specs.SecondVotes.{Submission, vote_in, second_vote_of, second_vote_in}
use Rattle.la_node.specs.Taking.{vote_due, with_vote, without_vote, then_votes, takes, VoteFits}

-- a vote as it is submitted in the second instance
abbrev pub submission_of : (i r : ℕ) → Vote → Submission
submission_of i r v = record { instance = second_instance (commit_of i); replica = r; object_op = casts (commit_of i) v }

-- the vote that is due is the one that is submitted
due_is : (i r : ℕ) (s : Histories) → second_vote_in i r s ≡ option_map (submission_of i r) (vote_in i r s)
due_is i r s = go (is_first_instance i) (proposed s r)
  where
    go : (v : Bool) (o : Option ℕ)
        → cond v (second_vote_of (commit_of i) r s o) None
        ≡ option_map (submission_of i r) (cond v (option_map (second_vote_for s) o) None)
    go true None = refl
    go true (Some value) = refl
    go false o = refl

all_due : (i r : ℕ) (o : Option Histories)
    → option_and_then (second_vote_in i r) o ≡ option_map (submission_of i r) (option_and_then (vote_in i r) o)
all_due i r None = refl
all_due i r (Some s) = due_is i r s

-- and the instance that it is submitted in is the next one
votes_in_first : (i r : ℕ) (s : Histories) (v : Vote) → vote_in i r s ≡ Some v → is_first_instance i ≡ true
votes_in_first i r s v e = go (is_first_instance i) refl e
  where
    go : (b : Bool) → is_first_instance i ≡ b → cond b (option_map (second_vote_for s) (proposed s r)) None ≡ Some v
        → is_first_instance i ≡ true
    go true is k = is
    go false is k = absurd (none-some v k)

next_instance : (i r : ℕ) (o : Option Histories) (v : Vote) → option_and_then (vote_in i r) o ≡ Some v
    → second_instance (commit_of i) ≡ i + 1
next_instance i r None v e = absurd (none-some v e)
next_instance i r (Some s) v e =
    let odd = eqb-true (i % 2) 1 (votes_in_first i r s v e) in omega (arith, div-add-mod i 2, odd)

-- what was prepared leads there, once it is committed
pub led_is : (r after : ReplicaState) (out : Out) (c : Change) (o : Option (Out × ReplicaState)) → o ≡ led r out c
    → after_commit r c ≡ Some after → o ≡ Some (out, after)
led_is r after out c o step done = step ∙ ap (option_map (λ (s : ReplicaState). (out, s))) done

pub leads_on : (r : ReplicaState) (out : Out) (c : Change) → IsPreparedFrom r c
    → (after : ReplicaState) × (led r out c ≡ Some (out, after))
leads_on r out c from = go (slice_get r.instances c.instance) from
  where
    go : (o : Option Instance) → IsSomeAnd o (λ x. IsProposerFrom x.proposer c.proposer × LeavesAgreeing r.view x c)
        → (after : ReplicaState)
        × (option_map {U = Out × ReplicaState} (λ (s : ReplicaState). (out, s))
        (option_map (λ x. with_instance r c.instance (at_after x c) (view_next r.view c.view)) o)
        ≡ Some (out, after))
    go None h = absurd h
    go (Some x) h = (with_instance r c.instance (at_after x c) (view_next r.view c.view), refl)

module _ (at : ReplicaState) (m : Message) where
  abbrev vote_by : Said → Option Vote
  vote_by x = option_and_then (vote_in m.instance at.own) (learnt_in x)

  due : (x : Said) → vote_due m.instance at.own x ≡ option_map (submission_of m.instance at.own) (vote_by x)
  due x = all_due m.instance at.own (learnt_in x)

  -- where this vote is due, it is submitted in the next instance
  pub due_next : (v : Vote) (x : Said) → vote_by x ≡ Some v
      → (vote_due m.instance at.own x ≡ Some (submission_of m.instance at.own v))
      × (second_instance (commit_of m.instance) ≡ m.instance + 1)
  due_next v x is =
      (due x ∙ ap (option_map (submission_of m.instance at.own)) is, next_instance m.instance at.own (learnt_in x) v is)

  -- and may be submitted there
  pub may_vote : VoteFits at m → (out : Out) (c : Change) → acting.receives at m ≡ led at out c → IsPreparedFrom at c
      → (v : Vote) → Some v ≡ vote_by out.said → HasRoom at (m.instance + 1) × SubmittingSpares at (m.instance + 1)
  may_vote fits out c step from v wanted =
      let on = leads_on at out c from in let next = due_next v out.said (sym wanted) in
      subst (λ i. HasRoom at i × SubmittingSpares at i) next.1
      (fits (out, on.0) (submission_of m.instance at.own v) (step ∙ on.1) next.0)

  -- no vote is due
  pub takes_plainly : (out : Out) (then : ReplicaState) → acting.receives at m ≡ Some (out, then)
      → None ≡ vote_by out.said → takes at m ≡ Some (without_vote out, then)
  takes_plainly out then received none =
      ap (option_and_then (λ (made : Out × ReplicaState). then_votes made (vote_due m.instance at.own made.0.said)))
      received
      ∙ ap (then_votes (out, then)) (due out.said ∙ ap (option_map (submission_of m.instance at.own)) (sym none))

  -- this vote is due, and is cast in what stands then
  pub takes_voting : (v : Vote) (out cast : Out) (then after : ReplicaState) → acting.receives at m ≡ Some (out, then)
      → Some v ≡ vote_by out.said
      → acting.submits then (m.instance + 1) (casts (commit_of m.instance) v) ≡ Some (cast, after)
      → takes at m ≡ Some (with_vote out (m.instance + 1) cast, after)
  takes_voting v out cast then after received wanted submitted =
      let next = due_next v out.said (sym wanted) in
      ap (option_and_then (λ (made : Out × ReplicaState). then_votes made (vote_due m.instance at.own made.0.said)))
      received
      ∙ ap (then_votes (out, then)) next.0
      ∙ ap
      (λ j.
      option_map (λ (c : Out × ReplicaState). (with_vote out j c.0, c.1))
      (acting.submits then j (casts (commit_of m.instance) v))) next.1
      ∙ ap (option_map (λ (c : Out × ReplicaState). (with_vote out (m.instance + 1) c.0, c.1))) submitted
