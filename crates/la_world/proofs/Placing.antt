-- Where a delivery's ballots are: those of the receiver.
use Rattle.std.proofs.Common.{◌≡◌, ℕ, ◌==◌, Bool, true, false, cond, List, [], ◌∷◌, ◌++◌, Option, Some, None, refl, sym, ◌∙◌, subst}
use Rattle.std.proofs.lemmas.Option.{same_Some, none-some}
use Rattle.la_set.specs.ObjectOps.{ObjectOp}
use Rattle.la_set.specs.Histories.{Histories}
use Rattle.la_set.specs.Inclusion.{is_subset, is_larger}
use Rattle.la_set.specs.Join.{join}
use Rattle.la_acceptor.specs.declared.reply.Reply.{Reply}
use Rattle.la_acceptor.specs.declared.reply.Reply.TheVariants as replied
use Rattle.la_proposer.specs.declared.tally.Counted.{Counted}
use Rattle.la_proposer.specs.declared.tally.Verdict.{Verdict}
use Rattle.la_proposer.specs.declared.tally.Verdict.TheVariants.{Waits, Refines, Learns}
use Rattle.la_proposer.specs.Tally.{verdict}
use Rattle.la_replica.specs.Whole.{Message, Body, Offer, Yes, No, Tell}
use Rattle.la_world.specs.declared.step.Opening.{Opening}
use Rattle.la_world.specs.Groups.{Group}
use Rattle.la_world.specs.Trace.{Did, Ignored, Took, Kept, Replied, Trace}
use Rattle.la_world.specs.Ballots.{opened_by, opening_learnt, round, is_open}
use Rattle.la_node.specs.SecondVotes.{Submission}
use Rattle.la_world.specs.Votes.{cast_vote}
use Rattle.la_world.specs.Submissions.{updates_alone, submitted_ops, second_vote_after}
use Rattle.la_world.specs.Views.{trace_view}
use Rattle.la_world.specs.Playing.{ballot_after, ballot_opened_next, after_vote, opened_after_learning, ends, counts_reply, counted_with, does_hear, does_answer, does_tell, does_receive_body, does_receive}
use Rattle.la_world.proofs.Openings.{IsOf, round_is}
use Rattle.la_world.proofs.InGroup.{second_vote_is}

-- the instance of the ballot that opens with a learning in i, which leads to this vote
abbrev pub opens_in : (i : ℕ) → Option Submission → ℕ
opens_in i None = i
opens_in i (Some s) = s.instance

-- a question was answered
abbrev pub is_answer : Did → Bool
is_answer (Replied answer) = true
is_answer _ = false

-- a delivery's ballots are of the receiver: what it learns in i, and what opens there or, with a vote, in
-- the vote's instance
pub record IsPlaced (i r : ℕ) (d : Did) : Type 0 where
  pub learnt : (b : Opening) → opening_learnt d ≡ Some b → IsOf i r b
  pub opened : (b : Opening) → opened_by d ≡ Some b → IsOf (opens_in i (second_vote_after (opening_learnt d))) r b
  pub no_answer : is_answer d ≡ false

quiet_placed : (i r : ℕ) (d : Did) → opened_by d ≡ None → opening_learnt d ≡ None → is_answer d ≡ false → IsPlaced i r d
quiet_placed i r d opened learnt plain = record {
  learnt = λ b e. absurd (none-some b (sym learnt ∙ e));
  opened = λ b e. absurd (none-some b (sym opened ∙ e));
  no_answer = plain;
}

-- a replica's next ballot in an instance
next_of : (t : Trace) (i r : ℕ) (all : List ObjectOp) (b : Opening) → ballot_opened_next (round t i r) all ≡ Some b
    → IsOf i r b
next_of t i r all b e = go (is_subset (updates_alone (round t i r).replica all) (round t i r).updates) e
  where
    next : Opening
    next = ballot_after (round t i r) (join (round t i r).updates (updates_alone (round t i r).replica all))

    go : (v : Bool) → cond v None (Some next) ≡ Some b → IsOf i r b
    go true k = absurd (none-some b k)
    go false k = let of = round_is t i r in subst (IsOf i r) (same_Some next b k) (record { instance = of.instance; replica = of.replica })

module _ (g : Group) (t : Trace) (m : Message) where
  abbrev i : ℕ
  i = m.instance

  abbrev r : ℕ
  r = m.to

  abbrev last : Opening
  last = round t i r

  -- what opens where the last ballot is learnt and leads to this vote
  vote_placed : (v : Option Submission) → cast_vote last ≡ v → (b : Opening) → after_vote t last v ≡ Some b
      → IsOf (opens_in i v) r b
  vote_placed None is b e = next_of t i r (submitted_ops t last.instance last.replica) b e
  vote_placed (Some s) is b e = go (is_open t s.instance s.replica) e
    where
      all : List ObjectOp
      all = submitted_ops t s.instance s.replica ++ s.object_op ∷ []

      go : (v : Bool) → cond v None (ballot_opened_next (round t s.instance s.replica) all) ≡ Some b → IsOf s.instance r b
      go true k = absurd (none-some b k)
      go false k =
          subst (λ q. IsOf s.instance q b) ((second_vote_is last s is).2 ∙ (round_is t i r).replica)
          (next_of t s.instance s.replica all b k)

  ends_placed : (tally : List Counted) (w : Verdict) → IsPlaced i r (ends t last tally w)
  unfolding opened_after_learning
  ends_placed tally Waits = quiet_placed i r (ends t last tally Waits) refl refl refl
  ends_placed tally Refines =
      let of = round_is t i r in
      record {
        learnt = λ b e. absurd (none-some b e);
        opened = λ b e. subst (IsOf i r) (same_Some _ b e) (record { instance = of.instance; replica = of.replica });
        no_answer = refl;
      }
  ends_placed tally Learns = record {
    learnt = λ b e. subst (IsOf i r) (same_Some last b e) (round_is t i r);
    opened = vote_placed (cast_vote last) refl;
    no_answer = refl;
  }

  hears_placed : (reply : Reply) → IsPlaced i r (does_hear g t m reply)
  unfolding does_hear
  hears_placed reply = go (counts_reply t m)
    where
      tally : List Counted
      tally = counted_with t m reply

      go : (v : Bool) → IsPlaced i r (cond v (ends t last tally (verdict g.votes tally)) Ignored)
      go true = ends_placed tally (verdict g.votes tally)
      go false = quiet_placed i r Ignored refl refl refl

  told_placed : (s : Histories) → IsPlaced i r (does_tell t m s)
  unfolding does_tell
  told_placed s = go (i == 0) (is_larger (trace_view t r) s)
    where
      go : (v w : Bool) → IsPlaced i r (cond v (cond w (Took s) Kept) Ignored)
      go true true = quiet_placed i r (Took s) refl refl refl
      go true false = quiet_placed i r Kept refl refl refl
      go false w = quiet_placed i r Ignored refl refl refl

  body_placed : (b : Body) → IsPlaced i r (does_receive_body g t m b)
  unfolding does_answer
  body_placed (Offer s) = quiet_placed i r (does_answer t m s) refl refl refl
  body_placed Yes = hears_placed replied.Yes
  body_placed (No s) = hears_placed (replied.No s)
  body_placed (Tell s) = told_placed s

  pub message_placed : IsPlaced i r (does_receive g t (Some m))
  message_placed = body_placed m.body
