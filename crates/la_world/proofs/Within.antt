-- Every set of an instance lies within a bound, where the bound grows from event to event and the sets of new ballots
-- are within it: no set comes from elsewhere.
use Rattle.std.proofs.Common.{◌≡◌, ℕ, Bool, true, false, cond, ◌&&◌, ◌==◌, List, [], ◌∷◌, ◌++◌, fold, Option, Some, None, refl, sym, subst, eqb-true}
use Rattle.std.proofs.lemmas.Bool.{and_parts}
use Rattle.std.specs.List.{cons_option}
use Rattle.la_set.specs.Histories.{Histories, empty}
use Rattle.la_set.specs.Inclusion.{IsSubset, is_subset}
use Rattle.la_set.specs.Join.{join}
use Rattle.la_set.proofs.lemmas.Inclusions.{subset-trans}
use Rattle.la_set.proofs.lemmas.Joins.{join-least}
use Rattle.la_acceptor.specs.declared.reply.Reply.{Reply}
use Rattle.la_acceptor.specs.declared.reply.Reply.TheVariants as replied
use Rattle.la_acceptor.specs.Answer.{answer}
use Rattle.la_set.proofs.lemmas.Inclusions.{contains-empty}
use Rattle.la_proposer.specs.declared.tally.Counted.{Counted}
use Rattle.la_proposer.specs.Tally.{with_refusal, joined_with_refusals}
use Rattle.la_replica.specs.Whole.{Message, Body, Offer, Yes, No, Tell}
use Rattle.la_replica.specs.Messages.{group, offer_to, body_of}
use Rattle.la_world.specs.declared.step.Opening.{Opening}
use Rattle.la_world.specs.Groups.{Group, replicas}
use Rattle.la_world.specs.Events.{Event}
use Rattle.la_world.specs.Trace.{Did, Entry, Trace}
use Rattle.la_world.specs.Sent.{sender_for, ballot_of, offers_for, offers_for_next, tells_for, sent_by, sent}
use Rattle.la_world.specs.Acceptors.{offered, offered_there, offers_to, accepted_there}
use Rattle.la_world.specs.Ballots.{opened_by, only, ballots, newest_of, round}
use Rattle.la_world.specs.Counting.{counted_reply, reply_at, counted_replies, counted}
use Rattle.la_world.proofs.Lists.{AllIn, AllIn-append, AllIn-each, AllIn-map, AllIn_at}
use Rattle.la_world.proofs.Accepted.{accepted_moves}
use Rattle.la_world.proofs.EventCases.{EventCases, heard, silent, opens, answers_offer, refines, learns, Step}
use Rattle.la_world.proofs.Quorum.{tells_all, firsts_all}
use Rattle.la_world.proofs.Openings.{only_is, round_is}

abbrev pub refusal : Reply → Histories
refusal replied.Yes = empty
refusal (replied.No s) = s

-- the set in a body
abbrev pub set_in : Body → Histories
set_in (Offer s) = s
set_in Yes = empty
set_in (No s) = s
set_in (Tell s) = s

refusal_in : (a : Reply) → set_in (body_of a) ≡ refusal a
refusal_in replied.Yes = refl
refusal_in (replied.No s) = refl

module _ (bound : Trace → (i : ℕ) → Histories) where
  abbrev pub IsWithin : Trace → (i : ℕ) → Histories → Type 0
  IsWithin t i s = IsSubset s (bound t i)

  pub empty_within : (t : Trace) (i : ℕ) → IsWithin t i empty
  empty_within t i u e = absurd (contains-empty u e)

  abbrev pub IsMessageWithin : Trace → Message → Type 0
  IsMessageWithin t m = IsWithin t m.instance (set_in m.body)

  abbrev pub IsCountWithin : Trace → (i : ℕ) → Counted → Type 0
  IsCountWithin t i c = IsWithin t i (refusal c.reply)

  abbrev pub IsBallotWithin : Trace → (i : ℕ) → Opening → Type 0
  IsBallotWithin t i b = IsWithin t i b.updates

  pub record AreWithin (g : Group) (t : Trace) : Type 0 where
    pub ballot : (i r : ℕ) → AllIn (IsBallotWithin t i) (ballots t i r)
    pub message : AllIn (IsMessageWithin t) (sent (replicas g) t)
    pub acceptor : (i a : ℕ) → IsWithin t i (accepted_there t i a)
    pub reply : (i r b : ℕ) → AllIn (IsCountWithin t i) (counted_replies t i r b)

  -- the bound grows at an event
  abbrev pub Grows : Entry → Trace → Type 0
  Grows x t = (i : ℕ) → IsSubset (bound t i) (bound (x ∷ t) i)

  within_later : (x : Entry) (t : Trace) → Grows x t → (i : ℕ) (s : Histories) → IsWithin t i s → IsWithin (x ∷ t) i s
  within_later x t up i s h = subset-trans s (bound t i) (bound (x ∷ t) i) h (up i)

  newest_within : (t : Trace) (i r : ℕ) (bs : List Opening) → AllIn (IsBallotWithin t i) bs
      → IsWithin t i (newest_of i r bs).updates
  newest_within t i r [] h = empty_within t i
  newest_within t i r (b ∷ bs) h = h.0

  pub round_within : (g : Group) (t : Trace) → AreWithin g t → (i r : ℕ) → IsWithin t i (round t i r).updates
  unfolding round
  round_within g t h i r = newest_within t i r (ballots t i r) (h.ballot i r)

  pub with_refusal_within : (t : Trace) (i : ℕ) (s : Histories) (a : Reply) → IsWithin t i s → IsWithin t i (refusal a)
      → IsWithin t i (with_refusal s a)
  with_refusal_within t i s replied.Yes h w = h
  with_refusal_within t i s (replied.No u) h w = join-least s u (bound t i) h w

  pub refused_within : (t : Trace) (i : ℕ) (s : Histories) (cs : List Counted) → IsWithin t i s
      → AllIn (IsCountWithin t i) cs → IsWithin t i (joined_with_refusals s cs)
  refused_within t i s [] h w = h
  refused_within t i s (c ∷ cs) h w =
      refused_within t i (with_refusal s c.reply) cs (with_refusal_within t i s c.reply h w.0) w.1

  -- what counts of the last ballot's replies, with one reply more
  pub heard_within : (g : Group) (t : Trace) → AreWithin g t → (m : Message) (a : Reply) → m.body ≡ body_of a
      → IsMessageWithin t m → AllIn (IsCountWithin t m.instance) (heard t m a)
  unfolding counted
  heard_within g t h m a body k =
      AllIn-append (IsCountWithin t m.instance) (counted t m.instance m.to) (record { from = m.from; reply = a } ∷ [])
      (firsts_all (IsCountWithin t m.instance) (counted_replies t m.instance m.to (round t m.instance m.to).ballot)
      (h.reply m.instance m.to (round t m.instance m.to).ballot))
      (subst (IsWithin t m.instance) (refusal_in a) (subst (λ z. IsWithin t m.instance (set_in z)) body k), tt)

  -- the join of the last ballot with the refusals that count
  pub joined_within : (g : Group) (t : Trace) → AreWithin g t → (m : Message) (a : Reply) → m.body ≡ body_of a
      → IsMessageWithin t m → IsWithin t m.instance (joined_with_refusals (round t m.instance m.to).updates (heard t m a))
  joined_within g t h m a body k =
      refused_within t m.instance (round t m.instance m.to).updates (heard t m a) (round_within g t h m.instance m.to)
      (heard_within g t h m a body k)

  ballots_within : (g : Group) (t : Trace) (x : Entry) → Grows x t → (i r : ℕ) → AreWithin g t
      → ((b : Opening) → opened_by x.did ≡ Some b → IsWithin (x ∷ t) b.instance b.updates)
      → AllIn (IsBallotWithin (x ∷ t) i) (ballots (x ∷ t) i r)
  unfolding ballots
  ballots_within g t x up i r h o = go (only i r (opened_by x.did)) refl
    where
      old : AllIn (IsBallotWithin (x ∷ t) i) (ballots t i r)
      old =
          AllIn-each (IsBallotWithin t i) (IsBallotWithin (x ∷ t) i) (λ b k. within_later x t up i b.updates k)
          (ballots t i r) (h.ballot i r)

      go : (v : Option Opening) → only i r (opened_by x.did) ≡ v
          → AllIn (IsBallotWithin (x ∷ t) i) (cons_option v (ballots t i r))
      go None e = old
      go (Some b) e =
          let p = only_is i r (opened_by x.did) b e in (subst (λ j. IsWithin (x ∷ t) j b.updates) p.1 (o b p.0), old)

  -- ## What is sent

  offers_within : (n : ℕ) (t : Trace) (b : Opening) → IsWithin t b.instance b.updates
      → AllIn (IsMessageWithin t) (offers_for n b)
  offers_within n t b h = AllIn-map (IsMessageWithin t) (offer_to (sender_for n b) (ballot_of b)) (λ a. h) (group n)

  next_within : (n : ℕ) (t : Trace) (o : Option Opening)
      → ((b : Opening) → o ≡ Some b → IsWithin t b.instance b.updates) → AllIn (IsMessageWithin t) (offers_for_next n o)
  next_within n t None h = tt
  next_within n t (Some b) h = offers_within n t b (h b refl)

  answer_within : (t : Trace) (m : Message) (u s : Histories) → IsWithin t m.instance u → IsWithin t m.instance s
      → IsWithin t m.instance (set_in (body_of (answer u s)))
  answer_within t m u s p q = go (is_subset u s)
    where
      go : (v : Bool) → IsWithin t m.instance (set_in (body_of (cond v replied.Yes (replied.No (join u s)))))
      go true = empty_within t m.instance
      go false = join-least u s (bound t m.instance) p q

  new_within : (g : Group) (x : Entry) (t : Trace) → Grows x t → (v : Event) (m : Option Message) (d : Did)
      → AreWithin g t → EventCases g t v m d → ((k : Message) → m ≡ Some k → IsMessageWithin t k)
      → ((b : Opening) → opened_by d ≡ Some b → IsWithin (x ∷ t) b.instance b.updates)
      → AllIn (IsMessageWithin (x ∷ t)) (sent_by (replicas g) m d)
  new_within g x t up v m d h (silent o l s) k w = subst (AllIn (IsMessageWithin (x ∷ t))) (sym s) tt
  new_within g x t up v m d h (opens b o) k w = offers_within (replicas g) (x ∷ t) b (w b refl)
  new_within g x t up v m d h (answers_offer c s e) k w = (
    within_later x t up c.instance (set_in (body_of (answer (accepted_there t c.instance c.to) s)))
        (answer_within t c (accepted_there t c.instance c.to) s (h.acceptor c.instance c.to)
        (subst (λ z. IsWithin t c.instance (set_in z)) e (k c refl))),
    tt,
  )
  new_within g x t up v m d h (refines b o) k w = offers_within (replicas g) (x ∷ t) b (w b refl)
  new_within g x t up v m d h (learns c a next e q y o) k w =
      let b = round t c.instance c.to in
      let of = round_is t c.instance c.to in
      let here : IsWithin (x ∷ t) b.instance b.updates =
      within_later x t up b.instance b.updates
      (subst (λ i. IsWithin t i b.updates) (sym of.instance) (round_within g t h c.instance c.to)) in
      AllIn-append (IsMessageWithin (x ∷ t)) (tells_for (replicas g) b) (offers_for_next (replicas g) next)
      (tells_all (IsMessageWithin (x ∷ t)) (replicas g) b (λ z to lt. here))
      (next_within (replicas g) (x ∷ t) next w)

  -- ## Acceptors and replies

  offered_within : (t : Trace) (i : ℕ) (b : Body) → IsWithin t i (set_in b) → AllIn (IsWithin t i) (offered b)
  offered_within t i (Offer s) h = (h, tt)
  offered_within t i Yes h = tt
  offered_within t i (No s) h = tt
  offered_within t i (Tell s) h = tt

  offered_to_within : (t : Trace) (i a : ℕ) (m : Option Message) → ((k : Message) → m ≡ Some k → IsMessageWithin t k)
      → AllIn (IsWithin t i) (offered_there i a m)
  offered_to_within t i a None d = tt
  offered_to_within t i a (Some m) d = go ((m.instance == i) && (m.to == a)) refl
    where
      go : (v : Bool) → ((m.instance == i) && (m.to == a)) ≡ v → AllIn (IsWithin t i) (cond v (offered m.body) [])
      go true p =
          offered_within t i m.body
          (subst (λ j. IsWithin t j (set_in m.body))
          (eqb-true m.instance i (and_parts (m.instance == i) (m.to == a) p).0) (d m refl))
      go false p = tt

  join_within : (t : Trace) (i : ℕ) (sets : List Histories) (s : Histories) → IsWithin t i s → AllIn (IsWithin t i) sets
      → IsWithin t i (fold join s sets)
  join_within t i [] s h w = h
  join_within t i (u ∷ sets) s h w = join_within t i sets (join s u) (join-least s u (bound t i) h w.0) w.1

  accepted_within : (g : Group) (x : Entry) (t : Trace) → Grows x t → (i a : ℕ) → AreWithin g t
      → ((k : Message) → x.delivered ≡ Some k → IsMessageWithin t k) → IsWithin (x ∷ t) i (accepted_there (x ∷ t) i a)
  accepted_within g x t up i a h d =
      let now = fold join (accepted_there t i a) (offered_there i a x.delivered) in
      subst (IsWithin (x ∷ t) i) (sym (accepted_moves x t i a))
      (within_later x t up i now
      (join_within t i (offered_there i a x.delivered) (accepted_there t i a) (h.acceptor i a)
      (offered_to_within t i a x.delivered d)))

  reply_of_within : (t : Trace) (i from : ℕ) (b : Body) → IsWithin t i (set_in b)
      → AllIn (IsCountWithin t i) (counted_reply from b)
  reply_of_within t i from (Offer s) h = tt
  reply_of_within t i from Yes h = (h, tt)
  reply_of_within t i from (No s) h = (h, tt)
  reply_of_within t i from (Tell s) h = tt

  reply_within : (t : Trace) (i r b : ℕ) (m : Option Message) → ((k : Message) → m ≡ Some k → IsMessageWithin t k)
      → AllIn (IsCountWithin t i) (reply_at i r b m)
  reply_within t i r b None h = tt
  reply_within t i r b (Some m) h = go ((m.instance == i) && ((m.to == r) && (m.ballot == b))) refl
    where
      go : (v : Bool) → ((m.instance == i) && ((m.to == r) && (m.ballot == b))) ≡ v
          → AllIn (IsCountWithin t i) (cond v (counted_reply m.from m.body) [])
      go true p =
          reply_of_within t i m.from m.body
          (subst (λ j. IsWithin t j (set_in m.body))
          (eqb-true m.instance i (and_parts (m.instance == i) ((m.to == r) && (m.ballot == b)) p).0) (h m refl))
      go false p = tt

  replies_within : (g : Group) (x : Entry) (t : Trace) → Grows x t → (i r b : ℕ) → AreWithin g t
      → ((k : Message) → x.delivered ≡ Some k → IsMessageWithin t k)
      → AllIn (IsCountWithin (x ∷ t) i) (counted_replies (x ∷ t) i r b)
  unfolding counted_replies
  replies_within g x t up i r b h d =
      AllIn-each (IsCountWithin t i) (IsCountWithin (x ∷ t) i) (λ c k. within_later x t up i (refusal c.reply) k)
      (counted_replies t i r b ++ reply_at i r b x.delivered)
      (AllIn-append (IsCountWithin t i) (counted_replies t i r b) (reply_at i r b x.delivered) (h.reply i r b)
      (reply_within t i r b x.delivered d))

  -- a message that an event delivers was sent
  pub delivered_within : (g : Group) (t : Trace) (x : Entry) → Step g t x → AreWithin g t → (m : Message)
      → x.delivered ≡ Some m → IsMessageWithin t m
  delivered_within g t x step h m e = AllIn_at (IsMessageWithin t) (sent (replicas g) t) m h.message (step.was_sent m e)

  -- an event keeps this, where the bound grows, and what opens is within it
  pub within_more : (g : Group) (t : Trace) (x : Entry) → Step g t x → Grows x t → AreWithin g t
      → ((b : Opening) → opened_by x.did ≡ Some b → IsWithin (x ∷ t) b.instance b.updates) → AreWithin g (x ∷ t)
  unfolding sent
  within_more g t x step up h opened = record {
    ballot = λ i r. ballots_within g t x up i r h opened;
    message = AllIn-append (IsMessageWithin (x ∷ t)) (sent (replicas g) t) (sent_by (replicas g) x.delivered x.did)
        (AllIn-each (IsMessageWithin t) (IsMessageWithin (x ∷ t))
        (λ m k. within_later x t up m.instance (set_in m.body) k) (sent (replicas g) t) h.message)
        (new_within g x t up x.event x.delivered x.did h step.cases d opened);
    acceptor = λ i a. accepted_within g x t up i a h d;
    reply = λ i r b. replies_within g x t up i r b h d;
  }
    where
      d : (m : Message) → x.delivered ≡ Some m → IsMessageWithin t m
      d = delivered_within g t x step h

  pub within_start : (g : Group) → AreWithin g []
  unfolding sent ballots counted_replies accepted_there offers_to
  within_start g = record { ballot = λ i r. tt; message = tt; acceptor = λ i a. empty_within [] i; reply = λ i r b. tt }
