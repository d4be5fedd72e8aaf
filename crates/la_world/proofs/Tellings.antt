-- What was sent, as it is told: it carries what was sent, and stands on what its receiver has.
use Rattle.std.proofs.Common.{◌≡◌, ℕ, ◌<◌, Bool, true, false, cond, min, List, [], ◌∷◌, ◌++◌, Option, Some, None, refl, sym, ◌∙◌, ap, ap₂, subst, arith}
use Rattle.std.proofs.lemmas.List.{map-append}
use Rattle.la_set.specs.declared.counts.Counts.{Counts}
use Rattle.la_set.specs.Histories.{Histories}
use Rattle.la_set.specs.Inclusion.{IsSubset, is_subset}
use Rattle.la_set.specs.Join.{join, IsCompatible}
use Rattle.la_set.specs.Counts.{count_in, counts_of, HasCounts}
use Rattle.la_set.proofs.lemmas.Counting.{HasCounts-known, count_in-from_counts, count_in-counts_of}
use Rattle.la_set.proofs.lemmas.Inclusions.{subset-count, compatible-within}
use Rattle.la_set.proofs.lemmas.Joins.{subset-join_right}
use Rattle.la_acceptor.specs.declared.reply.Reply.TheVariants as replied
use Rattle.la_acceptor.specs.Answer.{answer}
use Rattle.la_replica.specs.declared.message.Message as code
use Rattle.la_replica.specs.Whole.{Message, Body, Offer, Yes, No, Tell, whole_of, CarryAll}
use Rattle.la_replica.specs.Messages.{group, offer_to, reply_to}
use Rattle.la_replica.specs.Bases.{smaller, offered_in, offered_by}
use Rattle.la_world.specs.declared.step.Opening.{Opening}
use Rattle.la_world.specs.Groups.{Group, replicas}
use Rattle.la_world.specs.Events.{Event, Past}
use Rattle.la_world.specs.Trace.{Did, Entry, Trace}
use Rattle.la_world.specs.Sent.{sender_for, ballot_of, offers_for, offers_for_next, tells_for, sent_by, sent_at, sent}
use Rattle.la_world.specs.Acceptors.{accepted_there}
use Rattle.la_world.specs.Ballots.{ballots, round}
use Rattle.la_world.specs.Hearing.{reported_set}
use Rattle.la_world.specs.Playing.{counts_reply, trace}
use Rattle.la_replica.specs.Stored.{IsMade}
use Rattle.la_node.specs.Telling.{told_body, told_over}
use Rattle.la_node.proofs.lemmas.Told.{told_whole, wholes, body_made}
use Rattle.la_world.specs.Told.{base_of, offered_to, sent_as_told, told_messages, StandsBody, ToldMessagesStand}
use Rattle.la_world.proofs.Lists.{IsIn, IsIn_get, AllIn, AllIn-append, AllIn-each, AllIn-map, AllIn-made, AllIn_at}
use Rattle.la_world.proofs.Accepted.{accepted_more}
use Rattle.la_world.proofs.EventCases.{EventCases, silent, opens, answers_offer, refines, learns, Step}
use Rattle.la_world.proofs.Quorum.{same_number, counts_is, open_in, tells_all, ballots_more, IsOffered, IsJustified}
use Rattle.la_world.proofs.OwnBound.{own_bound}
use Rattle.la_world.proofs.Within.{set_in}
use Rattle.la_world.proofs.Traces.{Holds, holds, always, stands, message_known}
use Rattle.la_world.proofs.Hearing.{AreAccepted, accepted_start, accepted_kept}

-- ## It carries what was sent

pub told_at_carries : (n : ℕ) (x : Entry) (t : Trace) → CarryAll (sent_as_told n x t) (sent_at n x)
told_at_carries n x t = wholes (base_of (x ∷ t) (offered_to x.delivered)) (sent_at n x)

pub told_carries : (n : ℕ) (t : Trace) → CarryAll (told_messages n t) (sent n t)
unfolding told_messages sent
told_carries n [] = refl
told_carries n (x ∷ t) =
    map-append whole_of (told_messages n t) (sent_as_told n x t) ∙ ap₂ (λ xs ys. xs ++ ys) (told_carries n t) (told_at_carries n x t)

-- ## Its bases

smaller_in : (c d : Counts) (r : ℕ) → r < 8 → count_in (smaller c d) r ≡ min (count_in c r) (count_in d r)
smaller_in c d r lt = count_in-from_counts (λ q. min (count_in c q) (count_in d q)) r lt

pub smaller_right : (c : Counts) (s : Histories) → HasCounts s (smaller c (counts_of s))
smaller_right c s =
    HasCounts-known s (smaller c (counts_of s))
    (λ r lt. omega (arith, smaller_in c (counts_of s) r lt, count_in-counts_of s r))

smaller_left : (told_messages there : Histories) (d : Counts) → IsSubset told_messages there
    → HasCounts there (smaller (counts_of told_messages) d)
smaller_left told_messages there d sub =
    HasCounts-known there (smaller (counts_of told_messages) d)
    (λ r lt. omega (arith, smaller_in (counts_of told_messages) d r lt, count_in-counts_of told_messages r, subset-count told_messages there sub r))

-- the base is what a ballot with this number has
pub record IsBaseOf (t : Trace) (i r number : ℕ) (base : Counts) : Type 0 where
  pub ballot : Opening
  pub opened : IsIn ballot (ballots t i r)
  pub is_number : ballot.ballot ≡ number
  pub counts : base ≡ counts_of ballot.updates

-- the set has it; and the acceptor to which it is offered has accepted it, or it is what was offered
abbrev pub Stands : Trace → Message → (base : Counts) → Body → Type 0
Stands t m base (Offer s) = HasCounts s base × HasCounts (accepted_there t m.instance m.to) base
Stands t m base Yes = Unit {0}
Stands t m base (No s) = HasCounts s base × IsBaseOf t m.instance m.to m.ballot base
Stands t m base (Tell s) = Unit {0}

pub record StandsMessage (t : Trace) (c : code.Message) : Type 0 where
  pub whole : Message
  pub base : Counts
  pub is : c ≡ told_over base whole
  pub stands : Stands t whole base whole.body

stands_more : (x : Entry) (t : Trace) (m : Message) (base : Counts) (b : Body) → Stands t m base b
    → Stands (x ∷ t) m base b
stands_more x t m base (Offer s) h = (
  h.0,
  λ r.
      omega (
        arith,
        h.1 r,
        subset-count (accepted_there t m.instance m.to) (accepted_there (x ∷ t) m.instance m.to)
            (accepted_more x t m.instance m.to) r,
      ),
)
stands_more x t m base Yes h = tt
stands_more x t m base (No s) h = (h.0, record { ballot = h.1.ballot; opened = ballots_more x t m.instance m.to h.1.ballot h.1.opened; is_number = h.1.is_number; counts = h.1.counts })
stands_more x t m base (Tell s) h = tt

-- what is sent by an event stands
abbrev StandsNew : Trace → (offered : Counts) → Message → Type 0
StandsNew t offered m = Stands t m (base_of t offered m) m.body

module _ (g : Group) (x : Entry) (t : Trace) (h : Holds g t) (are : AreAccepted g (x ∷ t))
    (was_sent : (m : Message) → x.delivered ≡ Some m → IsIn m (sent (replicas g) t)) where
  offers_stand : (offered : Counts) (b : Opening) → AllIn (StandsNew (x ∷ t) offered) (offers_for (replicas g) b)
  offers_stand offered b =
      AllIn-map (StandsNew (x ∷ t) offered) (offer_to (sender_for (replicas g) b) (ballot_of b))
      (λ a. (
        smaller_right (counts_of (reported_set (x ∷ t) b.instance b.replica a)) b.updates,
        smaller_left (reported_set (x ∷ t) b.instance b.replica a) (accepted_there (x ∷ t) b.instance a) (counts_of b.updates)
            (are.reports b.instance b.replica a),
      ))
      (group (replicas g))

  next_stands : (offered : Counts) (o : Option Opening)
      → AllIn (StandsNew (x ∷ t) offered) (offers_for_next (replicas g) o)
  next_stands offered None = tt
  next_stands offered (Some b) = offers_stand offered b

  answer_stands : (m : Message) (s : Histories) → x.delivered ≡ Some m → m.body ≡ Offer s
      → StandsNew (x ∷ t) (offered_by m) (reply_to m (answer (accepted_there t m.instance m.to) s))
  answer_stands m s d e = go (is_subset u s)
    where
      u : Histories
      u = accepted_there t m.instance m.to

      is_in : IsIn m (sent (replicas g) t)
      is_in = was_sent m d

      o : IsOffered t m.instance m.from m.ballot s
      o = subst (IsJustified t m) e (stands g t h m is_in)

      known : IsSubset s (own_bound t m.instance)
      known = subst (λ c. IsSubset (set_in c) (own_bound t m.instance)) e (message_known g t h m is_in)

      fits : IsCompatible u s
      fits = compatible-within u s (own_bound t m.instance) (h.within.acceptor m.instance m.to) known

      counts_are : offered_by m ≡ counts_of s
      counts_are = ap offered_in e

      go : (v : Bool) → let a = cond v replied.Yes (replied.No (join u s)) in StandsNew (x ∷ t) (offered_by m) (reply_to m a)
      go true = tt
      go false = (
        λ r.
            omega (
              arith,
              ap (λ c. count_in c r) counts_are,
              count_in-counts_of s r,
              subset-count s (join u s)
                  (subset-join_right u s fits) r,
            ),
        record {
          ballot = o.ballot;
          opened = ballots_more x t m.instance m.from o.ballot o.opened;
          is_number = o.is_number;
          counts = counts_are ∙ ap counts_of (sym o.set);
        },
      )

  new_stand : (e : Event) (m : Option Message) (d : Did) → x.delivered ≡ m → EventCases g t e m d
      → AllIn (StandsNew (x ∷ t) (offered_to m)) (sent_by (replicas g) m d)
  new_stand v m d p (silent o l s) = subst (AllIn (StandsNew (x ∷ t) (offered_to m))) (sym s) tt
  new_stand v m d p (opens b o) = offers_stand (offered_to m) b
  new_stand v m d p (answers_offer k s e) = (answer_stands k s p e, tt)
  new_stand v m d p (refines b o) = offers_stand (offered_to m) b
  new_stand v m d p (learns k a next e c y o) =
      AllIn-append (StandsNew (x ∷ t) (offered_by k)) (tells_for (replicas g) (round t k.instance k.to))
      (offers_for_next (replicas g) next)
      (tells_all (StandsNew (x ∷ t) (offered_by k)) (replicas g) (round t k.instance k.to) (λ z to lt. tt))
      (next_stands (offered_by k) next)

pub record AreStanding (g : Group) (t : Trace) : Type 0 where
  pub reports : AreAccepted g t
  pub messages : AllIn (StandsMessage t) (told_messages (replicas g) t)

standing_start : (g : Group) → AreStanding g []
unfolding told_messages
standing_start g = record { reports = accepted_start g; messages = tt }

standing_kept : (g : Group) (t : Trace) (x : Entry) → Step g t x → Holds g t → AreStanding g t → AreStanding g (x ∷ t)
unfolding told_messages
standing_kept g t x step h are =
    let reports = accepted_kept g t x step h are.reports in
    let base = base_of (x ∷ t) (offered_to x.delivered) in
    record {
      reports = reports;
      messages = AllIn-append (StandsMessage (x ∷ t)) (told_messages (replicas g) t) (sent_as_told (replicas g) x t)
          (AllIn-each (StandsMessage t) (StandsMessage (x ∷ t)) (λ c k. record { whole = k.whole; base = k.base; is = k.is; stands = stands_more x t k.whole k.base k.whole.body k.stands }) (told_messages (replicas g) t) are.messages)
          (AllIn-made (StandsMessage (x ∷ t)) (λ m. told_over (base m) m) (StandsNew (x ∷ t) (offered_to x.delivered)) (λ m k. record { whole = m; base = base m; is = refl; stands = k }) (sent_at (replicas g) x)
          (new_stand g x t h reports step.was_sent x.event x.delivered x.did refl step.cases));
    }

pub standing : (g : Group) (events : List Event) → AreStanding g (trace g events)
standing g events = always g (AreStanding g) (standing_start g) (standing_kept g) events

-- ## What its receiver has

body_stands : (g : Group) (t : Trace) → Holds g t → (m : Message) (base : Counts) (b : Body) → Stands t m base b
    → StandsBody t (told_over base m) (told_body base b)
body_stands g t h m base (Offer s) st = st
body_stands g t h m base Yes st = tt
body_stands g t h m base (No s) st = (
  st.0,
  λ heeded.
      let is = counts_is t m (ap (counts_reply t) (sym (told_whole base m)) ∙ heeded) in
      let last = round t m.instance m.to in
      let same : st.1.ballot ≡ last =
      same_number (ballots t m.instance m.to) st.1.ballot last (h.quorum.numbered m.instance m.to) st.1.opened
      (open_in t m.instance m.to is.0) (st.1.is_number ∙ is.1) in
      st.1.counts ∙ ap (λ (o : Opening). counts_of o.updates) same,
)
body_stands g t h m base (Tell s) st = tt

pub told_messages_stand : ToldMessagesStand
told_messages_stand g events k c at =
    let t = trace g events in
    let st =
    AllIn_at (StandsMessage t) (told_messages (replicas g) t) c (standing g events).messages
    (IsIn_get (told_messages (replicas g) t) k c at) in
    subst (λ m. StandsBody t m m.body) (sym st.is)
    (body_stands g t (holds g events) st.whole st.base st.whole.body st.stands)

-- ## Its deltas were made of sets

pub told_are_made : (g : Group) (events : Past) → AllIn IsMade (told_messages (replicas g) (trace g events))
told_are_made g events =
    AllIn-each (StandsMessage (trace g events)) IsMade
    (λ c st. subst IsMade (sym st.is) (body_made st.base st.whole.body)) (told_messages (replicas g) (trace g events))
    (standing g events).messages
