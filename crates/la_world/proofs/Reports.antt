-- What acceptors have reported, event by event: a reply that counts is what its acceptor reports, and
-- nothing else changes it.
use Rattle.std.proofs.Common.{◌≡◌, ◌≢◌, ℕ, ◌==◌, ◌&&◌, Bool, true, false, cond, [], ◌∷◌, slice_set, Option, Some, None, unwrap_or, refl, ap, sym, ◌∙◌, arith, eq-eqb, ne_eqb}
use Rattle.std.proofs.lemmas.Bool.{cond-true, cond-false, and_from}
use Rattle.la_set.specs.Histories.{Histories}
use Rattle.la_set.specs.Counts.{counts_of}
use Rattle.la_acceptor.specs.declared.reply.Reply.{Reply}
use Rattle.la_acceptor.specs.declared.reply.Reply.TheVariants as replied
use Rattle.la_proposer.specs.ProposerState as proposer
use Rattle.la_replica.specs.Whole.{Message, Body, Offer, Yes, No, Tell}
use Rattle.la_replica.specs.Messages.{body_of}
use Rattle.la_world.specs.Trace.{Entry, Trace}
use Rattle.la_world.specs.Ballots.{round}
use Rattle.la_world.specs.Counting.{counted_reply}
use Rattle.la_world.specs.Playing.{counts_reply}
use Rattle.la_world.specs.Hearing.{body_tells, heard_from, reported_set}
use Rattle.la_world.specs.ReplicaStates.{reports}
use Rattle.la_world.proofs.Lists.{map_same, set_made}
use Rattle.la_world.proofs.Openings.{IsAway, not_both}

-- ## What an event leaves

module _ (x : Entry) (t : Trace) (i r : ℕ) where
  nothing_new : ((a : ℕ) → heard_from t i r a x.delivered ≡ None) → reports (x ∷ t) i r ≡ reports t i r
  unfolding reports reported_set
  nothing_new none =
      map_same (λ a. counts_of (unwrap_or (heard_from t i r a x.delivered) (reported_set t i r a)))
      (λ a. counts_of (reported_set t i r a)) 0 8
      (λ a le. ap (λ o. counts_of (unwrap_or o (reported_set t i r a))) (none a))

  -- nothing is delivered
  pub reports-silent : x.delivered ≡ None → reports (x ∷ t) i r ≡ reports t i r
  reports-silent e = nothing_new (λ a. ap (heard_from t i r a) e)

  away_false : (u v w : Bool) → (u && v) ≡ false → (u && (v && w)) ≡ false
  away_false true true w e = cc
  away_false true false w e = refl
  away_false false v w e = refl

  away : (a : ℕ) (o : Option Message) → ((m : Message) → o ≡ Some m → IsAway m.instance m.to i r)
      → heard_from t i r a o ≡ None
  away a None h = refl
  away a (Some m) h =
      cond-false _ (body_tells (round t i r).updates m.body) None
      (away_false (m.instance == i) (m.to == r) ((m.from == a) && counts_reply t m) (not_both m.instance m.to i r (h m refl)))

  -- what is delivered is to another replica, or of another instance
  pub reports-away : ((m : Message) → x.delivered ≡ Some m → IsAway m.instance m.to i r)
      → reports (x ∷ t) i r ≡ reports t i r
  reports-away left = nothing_new (λ a. away a x.delivered left)

  module _ (m : Message) (delivers : x.delivered ≡ Some m) where
    last_false : (u v w c : Bool) → c ≡ false → (u && (v && (w && c))) ≡ false
    last_false true true true c e = e
    last_false true true false c e = refl
    last_false true false w c e = refl
    last_false false v w c e = refl

    -- a reply that does not count
    pub reports-ignored : counts_reply t m ≡ false → reports (x ∷ t) i r ≡ reports t i r
    reports-ignored e =
        nothing_new
        (λ a.
        ap (heard_from t i r a) delivers
        ∙ cond-false _ (body_tells (round t i r).updates m.body) None
        (last_false (m.instance == i) (m.to == r) (m.from == a) (counts_reply t m) e))

    no_reply : (s : Histories) (b : Body) → counted_reply m.from b ≡ [] → body_tells s b ≡ None
    no_reply s Yes e = cc
    no_reply s (No u) e = cc
    no_reply s (Offer u) e = refl
    no_reply s (Tell u) e = refl

    either : (v : Bool) (o : Option Histories) → o ≡ None → cond v o None ≡ None
    either true o e = e
    either false o e = refl

    -- a message that is no reply
    pub reports-quiet : counted_reply m.from m.body ≡ [] → reports (x ∷ t) i r ≡ reports t i r
    reports-quiet e =
        nothing_new
        (λ a.
        ap (heard_from t i r a) delivers
        ∙ either ((m.instance == i) && ((m.to == r) && ((m.from == a) && counts_reply t m)))
        (body_tells (round t i r).updates m.body) (no_reply (round t i r).updates m.body e))

-- ## A reply that counts

module _ (x : Entry) (t : Trace) (m : Message) (reply : Reply) (delivers : x.delivered ≡ Some m)
    (is : m.body ≡ body_of reply) (heeded : counts_reply t m ≡ true) where
  abbrev i : ℕ
  i = m.instance

  abbrev r : ℕ
  r = m.to

  abbrev updates : Histories
  updates = (round t i r).updates

  told_counts : (a : Reply) (before : Histories)
      → counts_of (unwrap_or (body_tells updates (body_of a)) before) ≡ proposer.told_by updates a
  told_counts replied.Yes before = refl
  told_counts (replied.No s) before = refl

  from_it : heard_from t i r m.from x.delivered ≡ body_tells updates m.body
  from_it =
      ap (heard_from t i r m.from) delivers
      ∙ cond-true _ (body_tells updates m.body) None
      (and_from _ _ (eq-eqb m.instance i refl)
      (and_from _ _ (eq-eqb m.to r refl) (and_from _ _ (eq-eqb m.from m.from refl) heeded)))

  other_false : (u v w c : Bool) → w ≡ false → (u && (v && (w && c))) ≡ false
  other_false true true w c e = ap (λ z. z && c) e
  other_false true false w c e = refl
  other_false false v w c e = refl

  from_other : (a : ℕ) → a ≢ m.from → heard_from t i r a x.delivered ≡ None
  from_other a ne =
      ap (heard_from t i r a) delivers
      ∙ cond-false _ (body_tells updates m.body) None
      (other_false (m.instance == i) (m.to == r) (m.from == a) (counts_reply t m) (ne_eqb m.from a (λ e. ne (sym e))))

  -- is what its acceptor reports
  pub reports-heard : reports (x ∷ t) i r ≡ slice_set (reports t i r) m.from (proposer.told_by updates reply)
  unfolding reports reported_set
  reports-heard =
      set_made (λ a. counts_of (reported_set t i r a))
      (λ a. counts_of (unwrap_or (heard_from t i r a x.delivered) (reported_set t i r a))) 0 8 m.from m.from (omega arith)
      (λ a le ne. sym (ap (λ o. counts_of (unwrap_or o (reported_set t i r a))) (from_other a ne)))
      ∙ ap (slice_set (reports t i r) m.from)
      (ap (λ o. counts_of (unwrap_or o (reported_set t i r m.from))) (from_it ∙ ap (body_tells updates) is)
      ∙ told_counts reply (reported_set t i r m.from))
