-- A learnt set holds what its replica had submitted when the series of refinements opened, and only
-- what was submitted until its place.
use Rattle.std.proofs.Common.{◌≡◌, ℕ, suc, ◌+◌, List, [], ◌∷◌, length, drop, Option, refl, sym, ◌∙◌, ap, subst, arith}
use Rattle.la_world.specs.declared.step.Learnt.{Learnt}
use Rattle.la_replica.specs.Whole.{Message}
use Rattle.la_world.specs.Groups.{Group}
use Rattle.la_world.specs.Events.{Event}
use Rattle.la_world.specs.Trace.{Did, Entry, Trace}
use Rattle.la_world.specs.Ballots.{opening_learnt, round}
use Rattle.la_world.specs.Learnings.{learning_of, learnt}
use Rattle.la_world.specs.Playing.{trace}
use Rattle.la_world.specs.Laws.{LearntAreValid, LearntHoldWhatWasTaken}
use Rattle.la_world.proofs.Lists.{AllIn, AllIn-append, AllIn-each, AllIn_at, contains_IsIn}
use Rattle.la_world.proofs.EventCases.{EventCases, silent, opens, answers_offer, refines, learns}
use Rattle.la_world.proofs.Traces.{always}
use Rattle.la_world.proofs.Quorum.{learnt_ballot}
use Rattle.la_world.proofs.Chains.{learning_justified, trace_drop}
use Rattle.la_world.proofs.SubmittedBound.{IsSubmitted, submitted_more, IsWithinSubmitted, round_submitted}
use Rattle.la_world.proofs.TakenUpdates.{taken_within, has_taken}
use Rattle.la_world.proofs.Openings.{round_is}

-- when it was learnt, all of it had been submitted
record WasSubmitted (t : Trace) (l : Learnt) : Type 0 where
  later : ℕ
  until_place : length (drop later t) ≡ l.place + 1
  submitted : IsSubmitted (drop later t) l.instance l.updates

new_submitted : (g : Group) (x : Entry) (t : Trace) (v : Event) (m : Option Message) (d : Did) → IsWithinSubmitted g t
    → EventCases g t v m d → AllIn (WasSubmitted (x ∷ t)) (learning_of (length t) (opening_learnt d))
new_submitted g x t v m d h (silent o l s) =
    subst (λ z. AllIn (WasSubmitted (x ∷ t)) (learning_of (length t) z)) (sym l) tt
new_submitted g x t v m d h (opens b o) = tt
new_submitted g x t v m d h (answers_offer c s e) = tt
new_submitted g x t v m d h (refines b o) = tt
new_submitted g x t v m d h (learns c a next e q y o) =
    let b = round t c.instance c.to in
    let of = round_is t c.instance c.to in
    (record { later = 0; until_place = omega arith; submitted = submitted_more x t b.instance b.updates (subst (λ i. IsSubmitted t i b.updates) (sym of.instance) (round_submitted g t h c.instance c.to)) }, tt)

were_submitted : (g : Group) (events : List Event) → AllIn (WasSubmitted (trace g events)) (learnt (trace g events))
unfolding learnt
were_submitted g events = always g (λ t. AllIn (WasSubmitted t) (learnt t)) tt (λ t x step h w.
    AllIn-append (WasSubmitted (x ∷ t)) (learnt t) (learning_of (length t) (opening_learnt x.did))
    (AllIn-each (WasSubmitted t) (WasSubmitted (x ∷ t)) (λ l k. record { later = suc k.later; until_place = k.until_place; submitted = k.submitted }) (learnt t) w)
    (new_submitted g x t x.event x.delivered x.did h.submitted step.cases)) events

length_trace : (g : Group) (events : List Event) → length (trace g events) ≡ length events
unfolding trace
length_trace g [] = refl
length_trace g (e ∷ events) = ap suc (length_trace g events)

pub learnt_valid : LearntAreValid
learnt_valid g events l c =
    let t = trace g events in
    let i = contains_IsIn (learnt t) l c in
    let s = learning_justified g events l i in
    let w = AllIn_at (WasSubmitted t) (learnt t) l (were_submitted g events) i in
    record {
      own = taken_within g events l.instance l.replica (learnt_ballot l) s.opened;
      later = w.later;
      until_place =
          sym (length_trace g (drop w.later events)) ∙ ap length (sym (trace_drop g w.later events)) ∙ w.until_place;
      submitted = subst (λ u. IsSubmitted u l.instance l.updates) (trace_drop g w.later events) w.submitted;
    }

pub learnt_taken : LearntHoldWhatWasTaken
learnt_taken g events l c few =
    has_taken g events l.instance l.replica few (learnt_ballot l)
    (learning_justified g events l (contains_IsIn (learnt (trace g events)) l c)).opened
