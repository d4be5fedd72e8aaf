-- What holds of the trace of every list of events, in every instance: each event does one of the cases of
-- `EventCases`, and all that follows is had from these.
use Rattle.std.proofs.Common.{◌≡◌, ℕ, ◌<◌, ◌≤◌, List, [], ◌∷◌, ◌++◌, length, Some, refl, sym, subst, arith, inl, inr}
use Rattle.std.proofs.lemmas.Bool.{cases_lt}
use Rattle.la_set.specs.Histories.{history, count}
use Rattle.la_set.specs.Inclusion.{IsSubset}
use Rattle.la_set.proofs.lemmas.Prefixes.{IsPrefix, IsPrefix-length}
use Rattle.la_set.proofs.lemmas.SetHistories.{history_past}
use Rattle.la_set.proofs.lemmas.Inclusions.{subset-prefix}
use Rattle.la_acceptor.specs.declared.reply.Reply.{Reply}
use Rattle.la_acceptor.specs.declared.reply.Reply.TheVariants as replied
use Rattle.la_proposer.specs.declared.tally.Counted.{Counted}
use Rattle.la_replica.specs.Whole.{Message}
use Rattle.la_world.specs.declared.step.Opening.{Opening}
use Rattle.la_world.specs.Groups.{Group, replicas}
use Rattle.la_world.specs.Events.{Event}
use Rattle.la_world.specs.Trace.{Entry, Trace}
use Rattle.la_world.specs.Sent.{sent}
use Rattle.la_world.specs.Ballots.{ballots, newest_of, round}
use Rattle.la_world.specs.Counting.{reply_at, counted_replies, counted}
use Rattle.la_world.specs.Submissions.{submitted_ops, whole}
use Rattle.la_world.specs.Playing.{trace}
use Rattle.la_world.proofs.Lists.{IsIn, AllIn, AllIn-append, AllIn_at}
use Rattle.la_world.proofs.EventCases.{Step, each}
use Rattle.la_world.proofs.Sizes.{total, total_strict}
use Rattle.la_world.proofs.Quorum.{Numbered, last_number, numbered_below, IsJustifiedMessage, IsJustifiedReply, IsCountBacked, firsts_all, reply_backed, QuorumInvariant, quorum_start, quorum_more}
use Rattle.la_world.proofs.Within.{IsMessageWithin, IsCountWithin, AreWithin, round_within, within_start}
use Rattle.la_world.proofs.SubmittedBound.{history-whole, IsWithinSubmitted, submitted_bound_more, round_submitted}
use Rattle.la_world.proofs.OwnBound.{own_bound, known_more}
use Rattle.la_world.proofs.Growth.{Growing, growing_more}

pub record Holds (g : Group) (t : Trace) : Type 0 where
  -- numbers name ballots, and acknowledgements have places
  pub quorum : QuorumInvariant g t
  -- no set has more than was submitted, nor more of a replica than this replica's last ballot
  pub submitted : IsWithinSubmitted g t
  pub within : AreWithin own_bound g t
  -- each ballot is strictly larger than the one before
  pub growing : (i r : ℕ) → Growing i r (ballots t i r)

holds_start : (g : Group) → Holds g []
unfolding ballots
holds_start g = record { quorum = quorum_start g; submitted = within_start whole g; within = within_start own_bound g; growing = λ i r. tt }

holds_more : (g : Group) (t : Trace) (x : Entry) → Step g t x → Holds g t → Holds g (x ∷ t)
holds_more g t x step h = record {
  quorum = quorum_more g t x step h.quorum;
  submitted = submitted_bound_more g t x step h.submitted;
  within = known_more g t x step h.within;
  growing = λ i r. growing_more g t x step h.quorum h.submitted i r (h.growing i r);
}

pub holds : (g : Group) (events : List Event) → Holds g (trace g events)
holds g events = each g (Holds g) (holds_start g) (holds_more g) events

-- what is kept by each event where all this holds, holds of every list of events
pub always : (g : Group) (P : Trace → Type 0) → P []
    → ((t : Trace) (x : Entry) → Step g t x → Holds g t → P t → P (x ∷ t)) → (events : List Event) → P (trace g events)
always g P start more events =
    (each g (λ t. Holds g t × P t) (holds_start g, start)
    (λ t x step h. (holds_more g t x step h.0, more t x step h.0 h.1)) events).1

-- ## Ballots

-- a ballot's number is at most the size of its set
newest_size : (i r : ℕ) (bs : List Opening) → Numbered bs → Growing i r bs
    → (newest_of i r bs).ballot ≤ total (newest_of i r bs).updates
newest_size i r [] n w = omega arith
newest_size i r (b ∷ bs) n w =
    let last = newest_of i r bs in
    omega (arith, n.0, last_number i r bs n.1, newest_size i r bs n.1 w.2, total_strict last.updates b.updates w.0 w.1)

-- a reply is to a ballot that was opened
asked : (t : Trace) (i r b a : ℕ) (w : Reply) → Numbered (ballots t i r) → IsJustifiedReply t i r b a w
    → b ≤ length (ballots t i r)
asked t i r b a replied.Yes n h = omega (arith, numbered_below (ballots t i r) h.ballot n h.opened, h.is_number)
asked t i r b a (replied.No s) n h = omega (arith, numbered_below (ballots t i r) h.ballot n h.opened, h.is_number)

unasked_in : (t : Trace) (i r b : ℕ) (cs : List Counted) → Numbered (ballots t i r) → length (ballots t i r) < b
    → AllIn (IsCountBacked t i r b) cs → cs ≡ []
unasked_in t i r b [] n lt h = refl
unasked_in t i r b (c ∷ cs) n lt h = absurd (omega (arith, asked t i r b c.from c.reply n h.0))

module _ (g : Group) (t : Trace) (h : Holds g t) where
  last_is : (i r : ℕ) → (round t i r).ballot ≡ length (ballots t i r)
  unfolding round
  last_is i r = last_number i r (ballots t i r) (h.quorum.numbered i r)

  pub size : (i r : ℕ) → (round t i r).ballot ≤ total (round t i r).updates
  unfolding round
  size i r = newest_size i r (ballots t i r) (h.quorum.numbered i r) (h.growing i r)

  -- the own history in the last ballot's set is the beginning of what was submitted
  pub own : (i r : ℕ) → IsPrefix (history (round t i r).updates r) (submitted_ops t i r)
  own i r = elim (cases_lt r 8) [
    | inl lt ↦ subst (IsPrefix (history (round t i r).updates r)) (history-whole t i r lt) (subset-prefix (round t i r).updates (whole t i) (round_submitted g t h.submitted i r) r)
    | inr le ↦ subst (λ ds. IsPrefix ds (submitted_ops t i r)) (sym (history_past (round t i r).updates r le)) (record { front = refl })
  ]

  pub own_count : (i r : ℕ) → count (round t i r).updates r ≤ length (submitted_ops t i r)
  own_count i r = IsPrefix-length (history (round t i r).updates r) (submitted_ops t i r) (own i r)

  pub round_known : (i r : ℕ) → IsSubset (round t i r).updates (own_bound t i)
  round_known i r = round_within own_bound g t h.within i r

  pub counted_known : (i r : ℕ) → AllIn (IsCountWithin own_bound t i) (counted t i r)
  unfolding counted
  counted_known i r =
      firsts_all (IsCountWithin own_bound t i) (counted_replies t i r (round t i r).ballot)
      (h.within.reply i r (round t i r).ballot)

  -- ## Messages

  module _ (m : Message) (was_sent : IsIn m (sent (replicas g) t)) where
    pub stands : IsJustifiedMessage t m
    stands = AllIn_at (IsJustifiedMessage t) (sent (replicas g) t) m h.quorum.stand was_sent

    pub message_known : IsMessageWithin own_bound t m
    message_known = AllIn_at (IsMessageWithin own_bound t) (sent (replicas g) t) m h.within.message was_sent

  -- nobody has replied to a ballot before it opens
  pub unasked : (x : Entry) → ((m : Message) → x.delivered ≡ Some m → IsIn m (sent (replicas g) t)) → (i r b : ℕ)
      → (round t i r).ballot < b → counted_replies (x ∷ t) i r b ≡ []
  unfolding counted_replies
  unasked x was_sent i r b lt =
      unasked_in t i r b (counted_replies t i r b ++ reply_at i r b x.delivered) (h.quorum.numbered i r)
      (let e = last_is i r in omega arith)
      (AllIn-append (IsCountBacked t i r b) (counted_replies t i r b) (reply_at i r b x.delivered) (h.quorum.backed i r b)
      (reply_backed t i r b x.delivered (λ m e. stands m (was_sent m e))))
