-- What a replica saw, by the lines that show it: what it learnt, and the tells that were delivered
-- to it, each of which a learning sent.
use Rattle.std.proofs.Common.{◌≡◌, ℕ, ◌+◌, ◌-◌, ◌<◌, ◌≤◌, ◌==◌, ◌&&◌, Bool, true, false, cond, List, [], ◌∷◌, ◌++◌, length, map, filter, take, reverse, slice_get, Option, Some, None, option_map, refl, ap, sym, ◌∙◌, subst, subst₂, arith, inl, inr}
use Rattle.std.specs.Prelude.{nat_le}
use Rattle.std.proofs.lemmas.Bool.{cases_lt, and_parts, cond-true, eq-eqb, eqb-true, leb-false}
use Rattle.std.proofs.lemmas.List.{length-append, reverse-append, reverse-reverse, length-reverse}
use Rattle.std.proofs.lemmas.Option.{same_Some, none-some, slice_get_within}
use Rattle.la_set.specs.Histories.{Histories}
use Rattle.la_set.proofs.lemmas.NumberedLists.{slice_get-append_left, slice_get-append_right}
use Rattle.la_acceptor.specs.declared.reply.Reply.{Reply}
use Rattle.la_acceptor.specs.declared.reply.Reply.TheVariants as replied
use Rattle.la_replica.specs.Whole.{Message, Body, Offer, Yes, No, Tell}
use Rattle.la_replica.specs.Messages.{group, offer_to, tell_to, is_to_other}
use Rattle.la_world.specs.declared.error.Refusal.{Refusal}
use Rattle.la_world.specs.declared.error.Refusal.TheVariants.{NoSuchMessage}
use Rattle.la_world.specs.declared.report.Line.{Line}
use Rattle.la_world.specs.declared.report.Line.TheVariants.{Done, Refused}
use Rattle.la_world.specs.declared.step.Learnt.{Learnt}
use Rattle.la_world.specs.declared.step.Opening.{Opening}
use Rattle.la_world.specs.declared.step.Step.{Step}
use Rattle.la_world.specs.Groups.{Group, replicas}
use Rattle.la_world.specs.Events.{Event, Submit, Deliver, Decide, Ask}
use Rattle.la_world.specs.Trace as did
use Rattle.la_world.specs.Trace.{Did, Trace}
use Rattle.la_world.specs.Sent.{sender_for, ballot_of, offers_for, offers_for_next, tells_for, replies_for, sent_by, sent_at, sent}
use Rattle.la_world.specs.Ballots.{only, opening_learnt}
use Rattle.la_world.specs.Views.{told_sets, told_to, opening_sets, seen_at, seen}
use Rattle.la_world.specs.Playing.{delivered, event_entry, trace}
use Rattle.la_world.specs.Learnings.{learning, learning_of, learnt}
use Rattle.la_world.specs.Report.{Run, refused, shown_as, line_of, runs, runs_on, report_lines, trace_of, views}
use Rattle.la_world.specs.Reading.{learnt_by_did, place_beside, IsToldAt, IsSeenAt, WasSeen}
use Rattle.la_world.specs.Headline.{AreLargestSeen}
use Rattle.la_world.proofs.Allowing.{none_from_cond}
use Rattle.la_world.proofs.Asking.{done_by}
use Rattle.la_world.proofs.Lists.{IsIn, AllIn, AllIn-map, AllIn_at, IsIn_get, IsIn-left, IsIn-right, in_either, IsIn_contains, contains_IsIn}
use Rattle.la_world.proofs.Openings.{only_is, both_at}
use Rattle.la_world.proofs.Places.{accepted_of, accepted_before, accepted_between, accepted_next, handed_in_at, was_done, learnt_at_end}
use Rattle.la_world.proofs.Promised.{largest}
use Rattle.la_world.proofs.Safe.{line_each}
use Rattle.la_world.proofs.TellOrder.{beside_is, beside_only, tell_at, IsTell, tell_is}

still : {A : Type 0} (xs ys : List A) (k : ℕ) (x : A) → slice_get xs k ≡ Some x → slice_get (xs ++ ys) k ≡ Some x
still xs ys k x e = slice_get-append_left xs ys k (slice_get_within xs k x e) ∙ e

last_at : {A : Type 0} (xs : List A) (x : A) → slice_get (xs ++ x ∷ []) (length xs) ≡ Some x
last_at [] x = refl
last_at (y ∷ xs) x = last_at xs x

-- ## Lines of learnings

learnt_line : (n place : ℕ) (d : Did) → learnt_by_did (shown_as n place d) ≡ option_map (learning place) (opening_learnt d)
learnt_line n place (did.Learnt b next) = refl
learnt_line n place (did.Opened b) = refl
learnt_line n place (did.Held id) = refl
learnt_line n place (did.Answered reply) = refl
learnt_line n place did.Counted = refl
learnt_line n place did.Ignored = refl
learnt_line n place (did.Refined b) = refl
learnt_line n place (did.Took s) = refl
learnt_line n place did.Kept = refl
learnt_line n place (did.Replied answer) = refl

record Learns (place : ℕ) (d : Did) (x : Learnt) : Type 0 where
  ballot : Opening
  next : Option Opening
  is : d ≡ did.Learnt ballot next
  same : learning place ballot ≡ x

did_learn : (n place : ℕ) (d : Did) (x : Learnt) → learnt_by_did (shown_as n place d) ≡ Some x → Learns place d x
did_learn n place (did.Learnt b next) x e = record { ballot = b; next = next; is = refl; same = same_Some (learning place b) x e }
did_learn n place (did.Opened b) x e = absurd (none-some x e)
did_learn n place (did.Held id) x e = absurd (none-some x e)
did_learn n place (did.Answered reply) x e = absurd (none-some x e)
did_learn n place did.Counted x e = absurd (none-some x e)
did_learn n place did.Ignored x e = absurd (none-some x e)
did_learn n place (did.Refined b) x e = absurd (none-some x e)
did_learn n place (did.Took s) x e = absurd (none-some x e)
did_learn n place did.Kept x e = absurd (none-some x e)
did_learn n place (did.Replied answer) x e = absurd (none-some x e)

-- ## What was sent and seen stays

module _ (g : Group) where
  abbrev sent_after : List Event → List Message
  sent_after es = sent (replicas g) (trace g es)

  sent_stays : (more es : List Event) (n : ℕ) (m : Message) → slice_get (sent_after es) n ≡ Some m
      → slice_get (sent_after (more ++ es)) n ≡ Some m
  unfolding trace sent
  sent_stays [] es n m e = e
  sent_stays (d ∷ more) es n m e =
      still (sent_after (more ++ es)) (sent_at (replicas g) (event_entry g (trace g (more ++ es)) d)) n m
      (sent_stays more es n m e)

  sent_longer : (more es : List Event) → length (sent_after es) ≤ length (sent_after (more ++ es))
  unfolding trace sent
  sent_longer [] es = omega arith
  sent_longer (d ∷ more) es =
      omega (
        arith,
        sent_longer more es,
        length-append (sent_after (more ++ es))
            (sent_at (replicas g) (event_entry g (trace g (more ++ es)) d)),
      )

  seen_stays : (more es : List Event) (r : ℕ) (s : Histories) → IsIn s (seen (trace g es) r)
      → IsIn s (seen (trace g (more ++ es)) r)
  unfolding trace seen
  seen_stays [] es r s h = h
  seen_stays (d ∷ more) es r s h =
      IsIn-left s (seen (trace g (more ++ es)) r) (seen_at r (event_entry g (trace g (more ++ es)) d))
      (seen_stays more es r s h)

  seen_now : (es : List Event) (d : Event) (r : ℕ) (s : Histories) → IsIn s (seen_at r (event_entry g (trace g es) d))
      → IsIn s (seen (trace g (d ∷ es)) r)
  unfolding trace seen
  seen_now es d r s h = IsIn-right s (seen (trace g es) r) (seen_at r (event_entry g (trace g es) d)) h

-- ## What lines show as seen, was seen

-- the tell of a learnt set to r, in a group of n
abbrev tell_of : (n : ℕ) → Learnt → (r : ℕ) → Message
tell_of n x r = tell_to (record { replicas = n; from = x.replica; instance = x.instance }) x.ballot x.updates r

tells_are : (n : ℕ) (b : Opening) (place r : ℕ) → b.instance ≡ 0 → r < n → (r ≡ b.replica → ⊥)
    → slice_get (tells_for n b) (place_beside b.replica r) ≡ Some (tell_of n (learning place b) r)
tells_are n b place r zeroth lt ne =
    ap (λ ms. slice_get ms (place_beside b.replica r)) (cond-true (b.instance == 0) _ [] (eq-eqb b.instance 0 zeroth))
    ∙ tell_at (sender_for n b) b.ballot b.updates 0 n r (place_beside b.replica r) (beside_is b.replica r ne)
    (omega arith) (omega arith) ne

told_is : (n : ℕ) (x : Learnt) (r : ℕ) → x.instance ≡ 0 → IsIn x.updates (told_to r (Some (tell_of n x r)))
told_is n x r zeroth =
    subst (λ v. IsIn x.updates (cond v (x.updates ∷ []) [])) (sym (both_at x.instance r 0 r zeroth refl)) (inl refl)

module _ (g : Group) (events : List Event) where
  abbrev before : ℕ → List Event
  before place = accepted_of g (take place events)

  -- a line's message numbers go on from what was sent before
  record IsTelling (j : ℕ) (teller : Step) (x : Learnt) : Type 0 where
    first : teller.first ≡ length (sent_after g (before j))
    sends : (r : ℕ) → x.instance ≡ 0 → r < replicas g → (r ≡ x.replica → ⊥)
        → slice_get (sent_after g (before (j + 1))) (teller.first + place_beside x.replica r)
        ≡ Some (tell_of (replicas g) x r)

  telling : (j : ℕ) (teller : Step) (x : Learnt) → slice_get (report_lines g events) j ≡ Some (Done teller)
      → learnt_by_did teller.did ≡ Some x → IsTelling j teller x
  unfolding trace sent
  telling j teller x done learns =
      let p = handed_in_at g events j (Done teller) done in
      let d = p.0 in
      let was = was_done g events j d teller p.1 done in
      let t = trace_of g (take j events) in
      let y = event_entry g t d in
      let n = replicas g in
      let same : record { did = shown_as n (length t) y.did; first = length (sent n t); sent = length (sent_at n y) } ≡ teller = same_Some _ teller (ap done_by was.line) in
      let first : teller.first ≡ length (sent n t) = sym (ap (λ (z : Step). z.first) same) in
      let l = did_learn n (length t) y.did x (ap (λ (z : Step). learnt_by_did z.did) same ∙ learns) in
      let b = l.ballot in
      let all : sent_after g (before (j + 1)) ≡ sent n t ++ sent_by n y.delivered y.did =
      ap (sent_after g) (accepted_next g events j d p.1 was.allowed) in
      let mail : sent_by n y.delivered y.did ≡ tells_for n b ++ offers_for_next n l.next =
      ap (sent_by n y.delivered) l.is in
      record {
        first = first;
        sends =
            subst
            (λ (z : Learnt).
            (r : ℕ) → z.instance ≡ 0 → r < n → (r ≡ z.replica → ⊥)
            → slice_get (sent_after g (before (j + 1))) (teller.first + place_beside z.replica r)
            ≡ Some (tell_of n z r)) l.same
            (λ r zeroth lt ne.
            let q = place_beside b.replica r in
            ap (λ ms. slice_get ms (teller.first + q)) (all ∙ ap (λ ms. sent n t ++ ms) mail)
            ∙ ap (λ k. slice_get (sent n t ++ (tells_for n b ++ offers_for_next n l.next)) (k + q)) first
            ∙ slice_get-append_right (sent n t) (tells_for n b ++ offers_for_next n l.next) q
            ∙ still (tells_for n b) (offers_for_next n l.next) q (tell_of n (learning (length t) b) r) (tells_are n b (length t) r zeroth lt ne));
      }

  was_told : (place r : ℕ) (x : Learnt) → IsToldAt g events (report_lines g events) place r x
      → IsIn x.updates (seen (trace_of g events) r)
  was_told place r x h =
      let n = h.teller.first + place_beside x.replica r in
      let e = Deliver n in
      let tells = telling h.learnt_at h.teller x h.tells h.learnt in
      let sends = tells.sends r h.of_objects h.in_group h.other in
      let was = was_done g events place e h.told h.delivered h.done in
      let known : n < length (sent_after g (before place)) =
      leb-false (length (sent_after g (before place))) n
      (none_from_cond (nat_le (length (sent_after g (before place))) n) NoSuchMessage None was.allowed).0 in
      let there : slice_get (sent_after g (before place)) n ≡ Some (tell_of (replicas g) x r) =
      elim (cases_lt h.learnt_at place) [
        | inl lt ↦ (let p = accepted_between g events (h.learnt_at + 1) place (omega arith) in ap (λ es. slice_get (sent_after g es) n) p.is ∙ sent_stays g p.more (before (h.learnt_at + 1)) n (tell_of (replicas g) x r) sends)
        | inr le ↦ absurd (let p = accepted_between g events place h.learnt_at le in let first = tells.first in let longer = sent_longer g p.more (before place) in let same = ap (λ es. length (sent_after g es)) p.is in omega arith)
      ] in
      let p = accepted_before g events (place + 1) in
      let now : IsIn x.updates (seen_at r (event_entry g (trace g (before place)) e)) =
      IsIn-right x.updates (opening_sets (only 0 r (opening_learnt (event_entry g (trace g (before place)) e).did)))
      (told_to r (delivered g (trace g (before place)) e))
      (subst (λ o. IsIn x.updates (told_to r o)) (sym there) (told_is (replicas g) x r h.of_objects)) in
      subst (λ es. IsIn x.updates (seen (trace g es) r)) (sym p.is)
      (seen_stays g p.more (before (place + 1)) r x.updates
      (subst (λ es. IsIn x.updates (seen (trace g es) r))
      (sym (accepted_next g events place e h.delivered was.allowed)) (seen_now g (before place) e r x.updates now)))

  learnt_seen : (t : Trace) (x : Learnt) → IsIn x (learnt t) → x.instance ≡ 0 → IsIn x.updates (seen t x.replica)
  unfolding learnt seen
  learnt_seen [] x i e = absurd i
  learnt_seen (y ∷ t) x i e =
      let r = x.replica in
      elim (in_either x (learnt t) (learning_of (length t) (opening_learnt y.did)) i) [
        | inl old ↦ IsIn-left x.updates (seen t r) (seen_at r y) (learnt_seen t x old e)
        | inr new ↦ IsIn-right x.updates (seen t r) (seen_at r y) (IsIn-left x.updates (opening_sets (only 0 r (opening_learnt y.did))) (told_to r y.delivered) (now (opening_learnt y.did) new))
      ]
    where
      own : (b : Opening) → learning (length t) b ≡ x → IsIn x.updates (opening_sets (only 0 x.replica (Some b)))
      own b same =
          let zeroth : b.instance ≡ 0 = ap (λ (z : Learnt). z.instance) same ∙ e in
          let at : b.replica ≡ x.replica = ap (λ (z : Learnt). z.replica) same in
          subst (λ o. IsIn x.updates (opening_sets o))
          (sym
          (cond-true ((b.instance == 0) && (b.replica == x.replica)) (Some b) None
          (both_at b.instance b.replica 0 x.replica zeroth at)))
          (inl (ap (λ (z : Learnt). z.updates) same))

      now : (o : Option Opening) → IsIn x (learning_of (length t) o) → IsIn x.updates (opening_sets (only 0 x.replica o))
      now None new = absurd new
      now (Some b) (inl same) = own b same
      now (Some b) (inr none) = absurd none

  was_seen : (place r : ℕ) (x : Learnt) → IsSeenAt g events (report_lines g events) place r x
      → IsIn x.updates (seen (trace_of g events) r)
  was_seen place r x (inl h) =
      subst (λ q. IsIn x.updates (seen (trace_of g events) q)) h.replica
      (learnt_seen (trace_of g events) x
      (contains_IsIn (learnt (trace_of g events)) x (learnt_at_end g events place x h.learnt)) h.of_objects)
  was_seen place r x (inr h) = was_told place r x h

-- ## What was seen, lines show

abbrev told_set : Body → Option Histories
told_set (Tell s) = Some s
told_set (Offer s) = None
told_set Yes = None
told_set (No s) = None

-- the line of the learning that sent a tell, by the tell's number
record IsTeller (g : Group) (steps : List Line) (n : ℕ) (m : Message) : Type 0 where
  learnt_as : Learnt
  learnt_at : ℕ
  teller : Step
  tells : slice_get steps learnt_at ≡ Some (Done teller)
  learnt : learnt_by_did teller.did ≡ Some learnt_as
  of_objects : learnt_as.instance ≡ 0
  in_group : m.to < replicas g
  other : m.to ≡ learnt_as.replica → ⊥
  set : told_set m.body ≡ Some learnt_as.updates
  number : n ≡ teller.first + place_beside learnt_as.replica m.to

teller_stays : (g : Group) (steps more : List Line) (n : ℕ) (m : Message) → IsTeller g steps n m
    → IsTeller g (steps ++ more) n m
teller_stays g steps more n m h = record {
  learnt_as = h.learnt_as;
  learnt_at = h.learnt_at;
  teller = h.teller;
  tells = still steps more h.learnt_at (Done h.teller) h.tells;
  learnt = h.learnt;
  of_objects = h.of_objects;
  in_group = h.in_group;
  other = h.other;
  set = h.set;
  number = h.number;
}

seen_later : (g : Group) (events more : List Event) (steps longer : List Line) (r : ℕ) (s : Histories)
    → WasSeen g events steps r s → WasSeen g (events ++ more) (steps ++ longer) r s
seen_later g events more steps longer r s h = record { place = h.place; learnt_as = h.learnt_as; seen = go h.seen; set = h.set }
  where
    go : IsSeenAt g events steps h.place r h.learnt_as
        → IsSeenAt g (events ++ more) (steps ++ longer) h.place r h.learnt_as
    go (inl k) = inl (record {
      learnt = record { step = k.learnt.step; done = still steps longer h.place (Done k.learnt.step) k.learnt.done; learnt = k.learnt.learnt };
      of_objects = k.of_objects;
      replica = k.replica;
    })
    go (inr k) = inr (record {
      told = k.told;
      done = still steps longer h.place (Done k.told) k.done;
      learnt_at = k.learnt_at;
      teller = k.teller;
      tells = still steps longer k.learnt_at (Done k.teller) k.tells;
      learnt = k.learnt;
      of_objects = k.of_objects;
      in_group = k.in_group;
      other = k.other;
      delivered = still events more h.place _ k.delivered;
    })

abbrev TellsNothing : Message → Type 0
TellsNothing m = told_set m.body ≡ None

offers_tell_nothing : (n : ℕ) (o : Option Opening) → AllIn TellsNothing (offers_for_next n o)
offers_tell_nothing n None = tt
offers_tell_nothing n (Some b) = AllIn-map TellsNothing (offer_to (sender_for n b) (ballot_of b)) (λ a. refl) (group n)

no_tell : (ms : List Message) (q : ℕ) (m : Message) (s : Histories) → AllIn TellsNothing ms → slice_get ms q ≡ Some m
    → told_set m.body ≡ Some s → ⊥
no_tell ms q m s none at is = none-some s (sym (AllIn_at TellsNothing ms m none (IsIn_get ms q m at)) ∙ is)

replies_tell_nothing : (d : Option Message) (reply : Reply) → AllIn TellsNothing (replies_for d reply)
replies_tell_nothing None reply = tt
replies_tell_nothing (Some m) replied.Yes = (refl, tt)
replies_tell_nothing (Some m) (replied.No s) = (refl, tt)

-- a tell among what an event sent is one of a learning
record TellsAt (n : ℕ) (d : Did) (q : ℕ) (m : Message) : Type 0 where
  ballot : Opening
  next : Option Opening
  is : d ≡ did.Learnt ballot next
  of_objects : ballot.instance ≡ 0
  tell : IsTell (sender_for n ballot) ballot.ballot ballot.updates 0 n q m

learning_tells : (n : ℕ) (b : Opening) (next : Option Opening) (q : ℕ) (m : Message) (s : Histories)
    → slice_get (tells_for n b ++ offers_for_next n next) q ≡ Some m → told_set m.body ≡ Some s
    → TellsAt n (did.Learnt b next) q m
learning_tells n b next q m s at is = elim (cases_lt q (length (tells_for n b))) [
  | inl lt ↦ go (b.instance == 0) refl (sym (slice_get-append_left (tells_for n b) (offers_for_next n next) q lt) ∙ at)
  | inr le ↦ absurd (
      let k = q - length (tells_for n b) in
      let sum : length (tells_for n b) + k ≡ q = omega arith in
      no_tell (offers_for_next n next) k m s (offers_tell_nothing n next) (sym (slice_get-append_right (tells_for n b) (offers_for_next n next) k) ∙ ap (slice_get (tells_for n b ++ offers_for_next n next)) sum ∙ at) is)
]
  where
    go : (v : Bool) → (b.instance == 0) ≡ v
        → slice_get
        (cond v (filter (is_to_other (sender_for n b)) (map (tell_to (sender_for n b) b.ballot b.updates) (group n)))
        []) q ≡ Some m → TellsAt n (did.Learnt b next) q m
    go true zeroth there = record { ballot = b; next = next; is = refl; of_objects = eqb-true b.instance 0 zeroth; tell = tell_is (sender_for n b) b.ballot b.updates 0 n q m there }
    go false zeroth there = absurd (none-some m there)

sent_tells : (n : ℕ) (delivery : Option Message) (d : Did) (q : ℕ) (m : Message) (s : Histories)
    → slice_get (sent_by n delivery d) q ≡ Some m → told_set m.body ≡ Some s → TellsAt n d q m
sent_tells n delivery (did.Learnt b next) q m s at is = learning_tells n b next q m s at is
sent_tells n delivery (did.Opened b) q m s at is =
    absurd (no_tell (offers_for n b) q m s (offers_tell_nothing n (Some b)) at is)
sent_tells n delivery (did.Refined b) q m s at is =
    absurd (no_tell (offers_for n b) q m s (offers_tell_nothing n (Some b)) at is)
sent_tells n delivery (did.Answered reply) q m s at is =
    absurd (no_tell (replies_for delivery reply) q m s (replies_tell_nothing delivery reply) at is)
sent_tells n delivery (did.Held id) q m s at is = absurd (none-some m at)
sent_tells n delivery did.Counted q m s at is = absurd (none-some m at)
sent_tells n delivery did.Ignored q m s at is = absurd (none-some m at)
sent_tells n delivery (did.Took u) q m s at is = absurd (none-some m at)
sent_tells n delivery did.Kept q m s at is = absurd (none-some m at)
sent_tells n delivery (did.Replied answer) q m s at is = absurd (none-some m at)

many_lines : (g : Group) (es : List Event) → length (reverse (runs g es).lines) ≡ length (reverse es)
many_lines g es = length-reverse (runs g es).lines ∙ line_each g es ∙ sym (length-reverse es)

-- the learning that sent it, where that is the newest event
newest_teller : (g : Group) (steps : List Line) (t : Trace) (e : Event) (q : ℕ) (m : Message)
    → TellsAt (replicas g) (event_entry g t e).did q m
    → IsTeller g (steps ++ line_of g t e ∷ []) (length (sent (replicas g) t) + q) m
newest_teller g steps t e q m h =
    let n = replicas g in
    let b = h.ballot in
    let x = h.tell in
    let d = (event_entry g t e).did in
    let teller : Step = record { did = shown_as n (length t) d; first = length (sent n t); sent = length (sent_at n (event_entry g t e)) } in
    record {
      learnt_as = learning (length t) b;
      learnt_at = length steps;
      teller = teller;
      tells = last_at steps (line_of g t e);
      learnt = learnt_line n (length t) d ∙ ap (λ z. option_map (learning (length t)) (opening_learnt z)) h.is;
      of_objects = h.of_objects;
      in_group = let to : m.to ≡ x.to = ap (λ (z : Message). z.to) x.is in let lt = x.below in omega arith;
      other = λ same. x.other (sym (ap (λ (z : Message). z.to) x.is) ∙ same);
      set = ap (λ (z : Message). told_set z.body) x.is;
      number =
          ap (λ k. length (sent n t) + k)
          (beside_only b.replica x.to q x.other x.beside
          ∙ ap (place_beside b.replica) (sym (ap (λ (z : Message). z.to) x.is)));
    }

module _ (g : Group) where
  teller_of : (es : List Event) (n : ℕ) (m : Message) (s : Histories)
      → slice_get (sent (replicas g) (trace g (runs g es).accepted)) n ≡ Some m → told_set m.body ≡ Some s
      → IsTeller g (reverse (runs g es).lines) n m
  unfolding runs trace sent
  teller_of [] n m s at is = absurd (none-some m at)
  teller_of (e ∷ es) n m s at is = go (λ there. teller_of es n m s there is) (refused g t e) at
    where
      ran : Run
      ran = runs g es

      t : Trace
      t = trace g (runs g es).accepted

      earlier : List Message
      earlier = sent (replicas g) t

      more : (l : Line) → IsTeller g (reverse ran.lines) n m → IsTeller g (reverse (l ∷ ran.lines)) n m
      more l h =
          subst (λ ls. IsTeller g ls n m) (sym (reverse-append (l ∷ []) ran.lines))
          (teller_stays g (reverse ran.lines) (l ∷ []) n m h)

      go : (slice_get earlier n ≡ Some m → IsTeller g (reverse ran.lines) n m) → (o : Option Refusal)
          → slice_get (sent (replicas g) (trace g (runs_on g ran e t o).accepted)) n ≡ Some m
          → IsTeller g (reverse (runs_on g ran e t o).lines) n m
      go old (Some name) there = more (Refused name) (old there)
      go old None there = elim (cases_lt n (length earlier)) [
        | inl lt ↦ more (line_of g t e) (old (sym (slice_get-append_left earlier (sent_at (replicas g) (event_entry g t e)) n lt) ∙ there))
        | inr le ↦ (
            let q = n - length earlier in
            let sum : length earlier + q ≡ n = omega arith in
            let new =
            sent_tells (replicas g) (delivered g t e) (event_entry g t e).did q m s
            (sym (slice_get-append_right earlier (sent_at (replicas g) (event_entry g t e)) q)
            ∙ ap (slice_get (earlier ++ sent_at (replicas g) (event_entry g t e))) sum ∙ there) is in
            subst₂ (λ ls k. IsTeller g ls k m) (sym (reverse-append (line_of g t e ∷ []) ran.lines)) sum (newest_teller g (reverse ran.lines) t e q m new))
      ]

  -- a set that was told to r
  record IsHeard (t : Trace) (e : Event) (r : ℕ) (s : Histories) : Type 0 where
    number : ℕ
    is : e ≡ Deliver number
    message : Message
    there : slice_get (sent (replicas g) t) number ≡ Some message
    to : message.to ≡ r
    set : told_set message.body ≡ Some s

  told_one : (b : Body) (s : Histories) → IsIn s (told_sets b) → told_set b ≡ Some s
  told_one (Tell u) s (inl e) = ap Some e
  told_one (Tell u) s (inr none) = absurd none
  told_one (Offer u) s i = absurd i
  told_one Yes s i = absurd i
  told_one (No u) s i = absurd i

  heard : (t : Trace) (e : Event) (r : ℕ) (s : Histories) → IsIn s (told_to r (delivered g t e)) → IsHeard t e r s
  heard t (Submit q object_op) r s i = absurd i
  heard t (Decide q k value) r s i = absurd i
  heard t (Ask q object query) r s i = absurd i
  heard t (Deliver n) r s i = go (slice_get (sent (replicas g) t) n) refl i
    where
      told_by : (m : Message) → slice_get (sent (replicas g) t) n ≡ Some m → (v : Bool)
          → ((m.instance == 0) && (m.to == r)) ≡ v → IsIn s (cond v (told_sets m.body) []) → IsHeard t (Deliver n) r s
      told_by m at true both i = record {
        number = n;
        is = refl;
        message = m;
        there = at;
        to = eqb-true m.to r (and_parts (m.instance == 0) (m.to == r) both).1;
        set = told_one m.body s i;
      }
      told_by m at false both i = absurd i

      go : (o : Option Message) → slice_get (sent (replicas g) t) n ≡ o → IsIn s (told_to r o)
          → IsHeard t (Deliver n) r s
      go None at i = absurd i
      go (Some m) at i = told_by m at ((m.instance == 0) && (m.to == r)) refl i

  pub seen_from : (es : List Event) (r : ℕ) (s : Histories) → IsIn s (seen (trace g (runs g es).accepted) r)
      → WasSeen g (reverse es) (reverse (runs g es).lines) r s
  unfolding runs trace seen
  seen_from [] r s i = absurd i
  seen_from (e ∷ es) r s i = go (λ there. seen_from es r s there) (refused g t e) i
    where
      ran : Run
      ran = runs g es

      t : Trace
      t = trace g (runs g es).accepted

      d : Did
      d = (event_entry g t e).did

      last_line : slice_get (reverse ran.lines ++ line_of g t e ∷ []) (length (reverse es)) ≡ Some (line_of g t e)
      last_line =
          ap (slice_get (reverse ran.lines ++ line_of g t e ∷ [])) (sym (many_lines g es))
          ∙ last_at (reverse ran.lines) (line_of g t e)

      listed : (l : Line) → WasSeen g (reverse es ++ e ∷ []) (reverse ran.lines ++ l ∷ []) r s
          → WasSeen g (reverse (e ∷ es)) (reverse (l ∷ ran.lines)) r s
      listed l h =
          subst₂ (λ xs ls. WasSeen g xs ls r s) (sym (reverse-append (e ∷ []) es))
          (sym (reverse-append (l ∷ []) ran.lines)) h

      more : (l : Line) → WasSeen g (reverse es) (reverse ran.lines) r s
          → WasSeen g (reverse (e ∷ es)) (reverse (l ∷ ran.lines)) r s
      more l h = listed l (seen_later g (reverse es) (e ∷ []) (reverse ran.lines) (l ∷ []) r s h)

      learns : (o : Option Opening) → only 0 r (opening_learnt d) ≡ o → IsIn s (opening_sets o)
          → WasSeen g (reverse es ++ e ∷ []) (reverse ran.lines ++ line_of g t e ∷ []) r s
      learns None is own = absurd own
      learns (Some b) is (inr none) = absurd none
      learns (Some b) is (inl same) =
          let p = only_is 0 r (opening_learnt d) b is in
          record {
            place = length (reverse es);
            learnt_as = learning (length t) b;
            seen = inl (record {
              learnt = record { step = _; done = last_line; learnt = learnt_line (replicas g) (length t) d ∙ ap (option_map (learning (length t))) p.0 };
              of_objects = p.1;
              replica = p.2;
            });
            set = same;
          }

      hears : IsHeard t e r s → WasSeen g (reverse es ++ e ∷ []) (reverse ran.lines ++ line_of g t e ∷ []) r s
      hears h =
          let by =
          teller_stays g (reverse ran.lines) (line_of g t e ∷ []) h.number h.message
          (teller_of es h.number h.message s h.there h.set) in
          record {
            place = length (reverse es);
            learnt_as = by.learnt_as;
            seen = inr (record {
              told = _;
              done = last_line;
              learnt_at = by.learnt_at;
              teller = by.teller;
              tells = by.tells;
              learnt = by.learnt;
              of_objects = by.of_objects;
              in_group = subst (λ q. q < replicas g) h.to by.in_group;
              other = λ same. by.other (h.to ∙ same);
              delivered =
                  last_at (reverse es) e ∙ ap Some h.is
                  ∙ ap (λ k. Some (Deliver k))
                  (by.number ∙ ap (λ q. by.teller.first + place_beside by.learnt_as.replica q) h.to);
            });
            set = same_Some by.learnt_as.updates s (sym by.set ∙ h.set);
          }

      go : (IsIn s (seen t r) → WasSeen g (reverse es) (reverse ran.lines) r s) → (o : Option Refusal)
          → IsIn s (seen (trace g (runs_on g ran e t o).accepted) r)
          → WasSeen g (reverse (e ∷ es)) (reverse (runs_on g ran e t o).lines) r s
      go rest (Some name) there = more (Refused name) (rest there)
      go rest None there = elim (in_either s (seen t r) (seen_at r (event_entry g t e)) there) [
        | inl old ↦ more (line_of g t e) (rest old)
        | inr new ↦ listed (line_of g t e) (elim (in_either s (opening_sets (only 0 r (opening_learnt d))) (told_to r (delivered g t e)) new) [
          | inl own ↦ learns (only 0 r (opening_learnt d)) refl own
          | inr other ↦ hears (heard t e r s other)
        ])
      ]

-- ## Views

pub views_seen : (g : Group) (events : List Event)
    → AreLargestSeen g events (report_lines g events) (views g (trace_of g events))
views_seen g events r s at =
    let sets = seen (trace_of g events) r in
    let all = largest g (accepted_of g events) r s at in
    record {
      contains =
          λ u h.
          all.contains u
          (IsIn_contains sets u (subst (λ z. IsIn z sets) h.set (was_seen g events h.place r h.learnt_as h.seen)));
      is_one = elim all.is_one [
        | inl c ↦ inl (subst (λ xs. WasSeen g xs (report_lines g events) r s) (reverse-reverse events) (seen_from g (reverse events) r s (contains_IsIn sets s c)))
        | inr none ↦ inr ((λ u h. subst (IsIn u) none.0 (subst (λ z. IsIn z sets) h.set (was_seen g events h.place r h.learnt_as h.seen))), none.1)
      ];
    }
