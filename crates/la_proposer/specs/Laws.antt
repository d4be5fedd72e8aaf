-- What holds of every proposer and every reply.
use Rattle.std.specs.Prelude.{◌≡◌, ◌≢◌, ℕ, ◌<◌, true, false, [], length, Option, IsTrue}
use Rattle.la_set.specs.ObjectOps.{ObjectOp}
use Rattle.la_set.specs.Histories.{Histories}
use Rattle.la_acceptor.specs.declared.reply.Reply.{Reply}
use Rattle.la_proposer.specs.declared.ballot.Ballot.{Ballot}
use Rattle.la_proposer.specs.declared.heard.Heard.TheVariants.{Learnt}
use Rattle.la_proposer.specs.declared.tally.Verdict.TheVariants.{Learns}
use Rattle.la_proposer.specs.Majority.{is_majority}
use Rattle.la_proposer.specs.Tally.{said_yes, tally_with}
use Rattle.la_proposer.specs.ProposerState.{ProposerState, counts, with_reply, verdict_of, heard_of}
use Rattle.la_proposer.specs.ProposerState.{after_reply, after_submission, reported, told_by}

-- of the replies a learning alone takes up what waits
pub record LearningsAloneTakeWhatWaits : Type 0 where
  pub learning : (p : ProposerState) (acceptor ballot : ℕ) (reply : Reply) →
      counts p acceptor ballot ≡ true → verdict_of (with_reply p acceptor reply) ≡ Learns →
      (after_reply p acceptor ballot reply).waiting ≡ []
  pub ignored : (p : ProposerState) (acceptor ballot : ℕ) (reply : Reply) →
      counts p acceptor ballot ≡ false → after_reply p acceptor ballot reply ≡ p
  pub others : (p : ProposerState) (acceptor ballot : ℕ) (reply : Reply) →
      counts p acceptor ballot ≡ true → verdict_of (with_reply p acceptor reply) ≢ Learns →
      (after_reply p acceptor ballot reply).waiting ≡ p.waiting

-- where a set is learnt by a reply, this counts, the set is the open ballot's, and acceptors with a
-- majority of the votes acknowledged it there, by replies that count
pub record MajoritiesAcknowledgeWhatIsLearnt : Type 0 where
  pub counts : (p : ProposerState) (acceptor ballot : ℕ) (reply : Reply)
      (learnt : Histories) (next : Option Ballot) →
      heard_of p acceptor ballot reply ≡ Learnt learnt next → counts p acceptor ballot ≡ true
  pub set : (p : ProposerState) (acceptor ballot : ℕ) (reply : Reply)
      (learnt : Histories) (next : Option Ballot) →
      heard_of p acceptor ballot reply ≡ Learnt learnt next → learnt ≡ p.updates
  pub majority : (p : ProposerState) (acceptor ballot : ℕ) (reply : Reply)
      (learnt : Histories) (next : Option Ballot) →
      heard_of p acceptor ballot reply ≡ Learnt learnt next →
      IsTrue (is_majority p.votes (said_yes (tally_with p.tally acceptor reply)))

-- what an acceptor has reported is what its last reply that counted told
pub record LastRepliesAreReported : Type 0 where
  pub counted : (p : ProposerState) (acceptor ballot : ℕ) (reply : Reply) →
      acceptor < length p.reported → counts p acceptor ballot ≡ true →
      reported (after_reply p acceptor ballot reply) acceptor ≡ told_by p.updates reply
  pub others : (p : ProposerState) (acceptor from ballot : ℕ) (reply : Reply) →
      acceptor ≢ from → reported (after_reply p from ballot reply) acceptor ≡ reported p acceptor
  pub submitting : (p : ProposerState) (object_op : ObjectOp) →
      (after_submission p object_op).reported ≡ p.reported
