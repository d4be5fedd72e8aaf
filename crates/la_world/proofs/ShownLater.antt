-- What a replica learnt in instance 0 at a place its view holds at each later place.
use Rattle.std.proofs.Common.{◌≡◌, ℕ, ◌+◌, ◌<◌, inl, inr, cond, ◌&&◌, List, [], ◌∷◌, length, take, Contains, Option, Some, None, refl, sym, ◌∙◌, ap, ap₂, subst, arith, eq-eqb}
use Rattle.la_set.specs.Inclusion.{IsSubset}
use Rattle.la_world.specs.declared.step.Opening.{Opening}
use Rattle.la_world.specs.declared.step.Learnt.{Learnt}
use Rattle.la_world.specs.Groups.{Group}
use Rattle.la_world.specs.Events.{Event}
use Rattle.la_world.specs.Trace.{Trace}
use Rattle.la_world.specs.Ballots.{only, opening_learnt}
use Rattle.la_world.specs.Views.{opening_sets, told_to, seen_at, seen}
use Rattle.la_world.specs.Playing.{trace}
use Rattle.la_world.specs.Learnings.{learning_of, learnt}
use Rattle.la_world.specs.Report.{report_lines}
use Rattle.la_world.specs.Reading.{IsLearntAt, view_at_place}
use Rattle.la_world.proofs.Lists.{IsIn, IsIn-left, IsIn-right, IsIn_contains, contains_IsIn, in_either}
use Rattle.la_world.proofs.Order.{learnt_still}
use Rattle.la_world.proofs.LargestViews.{views_largest}
use Rattle.la_world.proofs.Places.{accepted_of, accepted_between, learnt_then}

own_set : (b : Opening) → b.instance ≡ 0 → IsIn b.updates (opening_sets (only 0 b.replica (Some b)))
own_set b e =
    subst (λ v. IsIn b.updates (opening_sets (cond v (Some b) None)))
    (sym (ap₂ (λ x y. x && y) (eq-eqb b.instance 0 e) (eq-eqb b.replica b.replica refl))) (inl refl)

learnt_now : (place : ℕ) (o : Option Opening) (x : Learnt) → IsIn x (learning_of place o) → x.instance ≡ 0
    → IsIn x.updates (opening_sets (only 0 x.replica o))
learnt_now place None x h e = absurd h
learnt_now place (Some b) x (inl same) e =
    subst (λ (y : Learnt). IsIn y.updates (opening_sets (only 0 y.replica (Some b)))) same
    (own_set b (ap (λ (y : Learnt). y.instance) same ∙ e))
learnt_now place (Some b) x (inr h) e = absurd h

-- what it learnt it saw
pub learnt_seen : (t : Trace) (x : Learnt) → IsIn x (learnt t) → x.instance ≡ 0 → IsIn x.updates (seen t x.replica)
unfolding learnt seen
learnt_seen [] x h e = absurd h
learnt_seen (y ∷ t) x h e =
    let r = x.replica in
    let own = opening_sets (only 0 r (opening_learnt y.did)) in
    elim (in_either x (learnt t) (learning_of (length t) (opening_learnt y.did)) h) [
      | inl old ↦ IsIn-left x.updates (seen t r) (seen_at r y) (learnt_seen t x old e)
      | inr new ↦ IsIn-right x.updates (seen t r) (seen_at r y) (IsIn-left x.updates own (told_to r y.delivered) (learnt_now (length t) (opening_learnt y.did) x new e))
    ]

pub shown_later : (g : Group) (events : List Event) (j place : ℕ) (x : Learnt) → IsLearntAt (report_lines g events) j x
    → x.instance ≡ 0 → j < place → IsSubset x.updates (view_at_place g events place x.replica)
shown_later g events j place x h at lt =
    let p = accepted_between g events (j + 1) place (omega arith) in
    let until = accepted_of g (take place events) in
    let t = trace g until in
    let was : Contains (learnt t) x =
    subst (λ es. Contains (learnt (trace g es)) x) (sym p.is)
    (learnt_still g p.more (accepted_of g (take (j + 1) events)) x (learnt_then g events j x h)) in
    (views_largest g until x.replica).contains x.updates
    (IsIn_contains (seen t x.replica) x.updates (learnt_seen t x (contains_IsIn (learnt t) x was) at))
