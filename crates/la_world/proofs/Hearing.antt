-- What an acceptor has reported lies in what it has accepted, and stays in it.
use Rattle.std.proofs.Common.{◌≡◌, ℕ, Bool, true, false, cond, ◌&&◌, ◌==◌, [], ◌∷◌, ◌++◌, Option, Some, None, refl, sym, ◌∙◌, ap, subst, subst₂, eqb-true, eq-eqb, unwrap_or}
use Rattle.std.proofs.lemmas.Bool.{and_parts, and_from, cond-true}
use Rattle.la_set.specs.Histories.{Histories}
use Rattle.la_set.specs.Inclusion.{IsSubset, is_subset}
use Rattle.la_set.specs.Join.{join}
use Rattle.la_set.proofs.lemmas.Inclusions.{subset-refl, subset-trans}
use Rattle.la_acceptor.specs.declared.reply.Reply.TheVariants as replied
use Rattle.la_acceptor.specs.Answer.{answer}
use Rattle.la_replica.specs.Whole.{Message, Body, Offer, Yes, No, Tell}
use Rattle.la_replica.specs.Messages.{group, offer_to, body_of, reply_to}
use Rattle.la_world.specs.declared.step.Opening.{Opening}
use Rattle.la_world.specs.Groups.{Group, replicas}
use Rattle.la_world.specs.Events.{Event}
use Rattle.la_world.specs.Trace.{Did, Entry, Trace}
use Rattle.la_world.specs.Sent.{sender_for, ballot_of, offers_for, offers_for_next, tells_for, sent_by, sent}
use Rattle.la_world.specs.Acceptors.{offered, offered_there, accepted_there}
use Rattle.la_world.specs.Ballots.{ballots, round}
use Rattle.la_world.specs.Playing.{event_entry, counts_reply, trace}
use Rattle.la_world.specs.Hearing.{body_tells, heard_from, reported_set}
use Rattle.la_world.specs.Laws.{ReportsAreAccepted}
use Rattle.la_world.proofs.Lists.{IsIn, AllIn, AllIn-append, AllIn-each, AllIn-map, AllIn_at}
use Rattle.la_world.proofs.Accepted.{accepted_more, accepted_offer, accepted_earlier}
use Rattle.la_world.proofs.EventCases.{EventCases, silent, opens, answers_offer, refines, learns, Step}
use Rattle.la_world.proofs.Quorum.{same_number, tells_all, IsBacked, IsJustified, counts_is, open_in}
use Rattle.la_world.proofs.LargestViews.{empty_least}
use Rattle.la_world.proofs.Traces.{Holds, always, stands}

-- ## Messages

-- what a refusal carries its acceptor has accepted
abbrev IsAccepted : Trace → Message → Body → Type 0
IsAccepted t m (No s) = IsSubset s (accepted_there t m.instance m.from)
IsAccepted t m (Offer s) = Unit {0}
IsAccepted t m Yes = Unit {0}
IsAccepted t m (Tell s) = Unit {0}

abbrev IsAcceptedMessage : Trace → Message → Type 0
IsAcceptedMessage t m = IsAccepted t m m.body

accepted_stays : (x : Entry) (t : Trace) (m : Message) (body : Body) → IsAccepted t m body → IsAccepted (x ∷ t) m body
accepted_stays x t m (No s) h =
    subset-trans s (accepted_there t m.instance m.from) (accepted_there (x ∷ t) m.instance m.from) h
    (accepted_more x t m.instance m.from)
accepted_stays x t m (Offer s) h = tt
accepted_stays x t m Yes h = tt
accepted_stays x t m (Tell s) h = tt

answer_accepted : (x : Entry) (t : Trace) (m : Message) (s : Histories) → x.delivered ≡ Some m → m.body ≡ Offer s
    → let a = answer (accepted_there t m.instance m.to) s in IsAccepted (x ∷ t) (reply_to m a) (body_of a)
answer_accepted x t m s d e = go (is_subset u s)
  where
    u : Histories
    u = accepted_there t m.instance m.to

    at : offered_there m.instance m.to x.delivered ≡ s ∷ []
    at =
        ap (offered_there m.instance m.to) d
        ∙ cond-true ((m.instance == m.instance) && (m.to == m.to)) (offered m.body) []
        (and_from _ _ (eq-eqb m.instance m.instance refl) (eq-eqb m.to m.to refl)) ∙ ap offered e

    go : (v : Bool) → let a = cond v replied.Yes (replied.No (join u s)) in IsAccepted (x ∷ t) (reply_to m a) (body_of a)
    go true = tt
    go false = subst (IsSubset (join u s)) (sym (accepted_offer x t m.instance m.to s at)) (subset-refl (join u s))

offers_accepted : (n : ℕ) (t : Trace) (b : Opening) → AllIn (IsAcceptedMessage t) (offers_for n b)
offers_accepted n t b = AllIn-map (IsAcceptedMessage t) (offer_to (sender_for n b) (ballot_of b)) (λ a. tt) (group n)

next_accepted : (n : ℕ) (t : Trace) (o : Option Opening) → AllIn (IsAcceptedMessage t) (offers_for_next n o)
next_accepted n t None = tt
next_accepted n t (Some b) = offers_accepted n t b

new_accepted : (g : Group) (x : Entry) (t : Trace) (e : Event) (m : Option Message) (d : Did) → x.delivered ≡ m
    → EventCases g t e m d → AllIn (IsAcceptedMessage (x ∷ t)) (sent_by (replicas g) m d)
new_accepted g x t v m d p (silent o l s) = subst (AllIn (IsAcceptedMessage (x ∷ t))) (sym s) tt
new_accepted g x t v m d p (opens b o) = offers_accepted (replicas g) (x ∷ t) b
new_accepted g x t v m d p (answers_offer k s e) = (answer_accepted x t k s p e, tt)
new_accepted g x t v m d p (refines b o) = offers_accepted (replicas g) (x ∷ t) b
new_accepted g x t v m d p (learns k a next e c y o) =
    AllIn-append (IsAcceptedMessage (x ∷ t)) (tells_for (replicas g) (round t k.instance k.to))
    (offers_for_next (replicas g) next)
    (tells_all (IsAcceptedMessage (x ∷ t)) (replicas g) (round t k.instance k.to) (λ z to lt. tt))
    (next_accepted (replicas g) (x ∷ t) next)

-- ## Reports

-- an acknowledgement that counts is to the open ballot, whose set was what its acceptor had accepted
backed_accepted : (g : Group) (t : Trace) → Holds g t → (m : Message) → counts_reply t m ≡ true
    → IsBacked t m.instance m.to m.ballot m.from
    → IsSubset (round t m.instance m.to).updates (accepted_there t m.instance m.from)
backed_accepted g t h m c b =
    let is = counts_is t m c in
    let last = round t m.instance m.to in
    let same : b.ballot ≡ last =
    same_number (ballots t m.instance m.to) b.ballot last (h.quorum.numbered m.instance m.to) b.opened
    (open_in t m.instance m.to is.0) (b.is_number ∙ is.1) in
    subst (λ s. IsSubset s (accepted_there t m.instance m.from)) (b.was ∙ ap (λ (o : Opening). o.updates) same)
    (accepted_earlier b.later t m.instance m.from)

-- what a reply that counts says its acceptor has
told_accepted : (g : Group) (t : Trace) → Holds g t → (m : Message) (body : Body) → counts_reply t m ≡ true
    → IsJustified t m body → IsAccepted t m body → (before : Histories) → IsSubset before (accepted_there t m.instance m.from)
    → IsSubset (unwrap_or (body_tells (round t m.instance m.to).updates body) before) (accepted_there t m.instance m.from)
told_accepted g t h m Yes c j w before b = backed_accepted g t h m c j
told_accepted g t h m (No s) c j w before b = w
told_accepted g t h m (Offer s) c j w before b = b
told_accepted g t h m (Tell s) c j w before b = b

pub record AreAccepted (g : Group) (t : Trace) : Type 0 where
  pub refusals : AllIn (IsAcceptedMessage t) (sent (replicas g) t)
  pub reports : (i r a : ℕ) → IsSubset (reported_set t i r a) (accepted_there t i a)

module _ (g : Group) (t : Trace) (h : Holds g t) (are : AreAccepted g t) where
  heard_accepted : (i r a : ℕ) (o : Option Message) → ((m : Message) → o ≡ Some m → IsIn m (sent (replicas g) t))
      → IsSubset (unwrap_or (heard_from t i r a o) (reported_set t i r a)) (accepted_there t i a)
  heard_accepted i r a None was_sent = are.reports i r a
  heard_accepted i r a (Some m) was_sent = go ((m.instance == i) && ((m.to == r) && ((m.from == a) && counts_reply t m))) refl
    where
      Goal : ℕ → ℕ → ℕ → Type 0
      Goal i r a = IsSubset (unwrap_or (body_tells (round t i r).updates m.body) (reported_set t i r a)) (accepted_there t i a)

      here : counts_reply t m ≡ true → Goal m.instance m.to m.from
      here c =
          let is_in = was_sent m refl in
          told_accepted g t h m m.body c (stands g t h m is_in)
          (AllIn_at (IsAcceptedMessage t) (sent (replicas g) t) m are.refusals is_in)
          (reported_set t m.instance m.to m.from) (are.reports m.instance m.to m.from)

      go : (v : Bool) → ((m.instance == i) && ((m.to == r) && ((m.from == a) && counts_reply t m))) ≡ v
          → IsSubset (unwrap_or (cond v (body_tells (round t i r).updates m.body) None) (reported_set t i r a)) (accepted_there t i a)
      go true e =
          let p = and_parts (m.instance == i) ((m.to == r) && ((m.from == a) && counts_reply t m)) e in
          let q = and_parts (m.to == r) ((m.from == a) && counts_reply t m) p.1 in
          let s = and_parts (m.from == a) (counts_reply t m) q.1 in
          subst (λ j. Goal j r a) (eqb-true m.instance i p.0)
          (subst₂ (λ j k. Goal m.instance j k) (eqb-true m.to r q.0) (eqb-true m.from a s.0) (here s.1))
      go false e = are.reports i r a

pub accepted_start : (g : Group) → AreAccepted g []
unfolding sent reported_set
accepted_start g = record { refusals = tt; reports = λ i r a. empty_least (accepted_there [] i a) }

pub accepted_kept : (g : Group) (t : Trace) (x : Entry) → Step g t x → Holds g t → AreAccepted g t
    → AreAccepted g (x ∷ t)
unfolding sent reported_set
accepted_kept g t x step h are = record {
  refusals = AllIn-append (IsAcceptedMessage (x ∷ t)) (sent (replicas g) t) (sent_by (replicas g) x.delivered x.did)
      (AllIn-each (IsAcceptedMessage t) (IsAcceptedMessage (x ∷ t)) (λ m k. accepted_stays x t m m.body k)
      (sent (replicas g) t) are.refusals)
      (new_accepted g x t x.event x.delivered x.did refl step.cases);
  reports =
      λ i r a.
      subset-trans (unwrap_or (heard_from t i r a x.delivered) (reported_set t i r a)) (accepted_there t i a)
      (accepted_there (x ∷ t) i a)
      (heard_accepted g t h are i r a x.delivered step.was_sent) (accepted_more x t i a);
}

pub reports_are_accepted : ReportsAreAccepted
unfolding trace
reports_are_accepted g events [] i r a =
    (always g (AreAccepted g) (accepted_start g) (accepted_kept g) events).reports i r a
reports_are_accepted g events (e ∷ later) i r a =
    let t = trace g (later ++ events) in
    subset-trans (reported_set (trace g events) i r a) (accepted_there t i a) (accepted_there (event_entry g t e ∷ t) i a)
    (reports_are_accepted g events later i r a) (accepted_more (event_entry g t e) t i a)
