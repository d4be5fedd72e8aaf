-- What a group promises of what it has learnt, shows and returned.
use Rattle.std.proofs.Common.{◌≡◌, ◌+◌, List, ◌∷◌, ◌++◌, Some, None, IsSome, Bool, true, false, cond, ap, ap₂, sym, ◌∙◌, subst, subst₂, arith}
use Rattle.std.proofs.lemmas.Option.{same_Some, none-some}
use Rattle.std.specs.Prelude.{nat_lt}
use Rattle.la_set.specs.declared.update.Op.TheVariants.{Remove}
use Rattle.la_set.specs.Histories.{get}
use Rattle.la_set.specs.Inclusion.{IsSubset, AreComparable}
use Rattle.la_world.specs.declared.report.Decision.{Decision}
use Rattle.la_world.specs.declared.step.Step.{Step}
use Rattle.la_replica.specs.Messages.{group}
use Rattle.la_world.specs.Groups.{Group, group_of, replicas}
use Rattle.la_world.specs.Events.{Event, Past, submission_of}
use Rattle.la_world.specs.Views.{seen, trace_view}
use Rattle.la_world.specs.Playing.{trace}
use Rattle.la_world.specs.Learnings.{learnt}
use Rattle.la_world.specs.Report.{views}
use Rattle.la_world.specs.StandsFor.{World, group_in, StandsFor}
use Rattle.la_world.specs.Calls.{PlaysEvent, known_view, decisions_in}
use Rattle.la_world.specs.Promises.{IsLargest, next_id, GroupKeepsAll, WorldKeepsAll, AreLargest}
use Rattle.la_world.specs.Headline.{AreOneHistory, NoViewShrinks, IsAdoptCommit}
use Rattle.la_world.proofs.Chains.{learnt_comparable}
use Rattle.la_world.proofs.Validity.{learnt_valid}
use Rattle.la_world.proofs.Order.{learnt_in_order, removed_held}
use Rattle.la_world.proofs.LearntOrder.{learnt_grow}
use Rattle.la_world.proofs.LargestViews.{views_largest, views_comparable}
use Rattle.la_world.proofs.Lists.{contains_IsIn, IsIn_made, made_at}
use Rattle.la_world.proofs.Worlds.{view_is, views_are}
use Rattle.la_world.proofs.GrowingViews.{views_grow}
use Rattle.la_world.proofs.Safe.{returns_safely}

-- of the views at the end
pub largest : (g : Group) (events : Past) → AreLargest g events (views g (trace g events))
largest g events r s at =
    let p = made_at (trace_view (trace g events)) 0 (replicas g) r s at in
    let same : trace_view (trace g events) r ≡ s = ap (trace_view (trace g events)) {x = r} {y = 0 + r} (omega arith) ∙ p in
    subst (IsLargest (seen (trace g events) r)) same (views_largest g events r)

pub one_history : (g : Group) (events : Past) → AreOneHistory (views g (trace g events))
one_history g events a b p q =
    let x = IsIn_made (trace_view (trace g events)) (group (replicas g)) a (contains_IsIn (views g (trace g events)) a p) in
    let y = IsIn_made (trace_view (trace g events)) (group (replicas g)) b (contains_IsIn (views g (trace g events)) b q) in
    subst₂ AreComparable x.1 y.1 (views_comparable g events 0 0 x.0 y.0)

-- of the definitions' own lists, and of what is returned
pub trace_keeps : (g : Group) (events : Past) (outcomes : List Decision) → IsAdoptCommit events outcomes
    → GroupKeepsAll g events (learnt (trace g events)) (views g (trace g events)) outcomes
trace_keeps g events outcomes safe = record {
  comparable = learnt_comparable g events;
  grows = learnt_grow g events;
  valid = learnt_valid g events;
  largest = largest g events;
  one_history = one_history g events;
  order = learnt_in_order g events;
  removed = λ more before r object tags shown same stood listed holds tag named.
      let p =
      IsIn_made (trace_view (trace g events)) (group (replicas g)) shown
      (contains_IsIn (views g (trace g events)) shown listed) in
      let is : trace_view (trace g (more ++ submission_of r object (Remove tags) ∷ before)) p.0 ≡ shown =
      sym (ap (λ es. trace_view (trace g es) p.0) same) ∙ p.1 in
      subst (λ s. IsSome (get s tag)) is
      (removed_held g before more r object tags p.0 stood
      (subst (λ s. IsSome (get s (next_id (trace g before) r))) (sym is) holds) tag named);
  safe = safe;
}

-- of a world
pub world_keeps : (w : World) (events : Past) → StandsFor w events → WorldKeepsAll w events
world_keeps w events stands =
    subst₂ (λ ls vs. GroupKeepsAll (group_in w) events ls vs (decisions_in w)) (sym stands.learnt)
    (sym (views_are w events stands))
    (trace_keeps (group_in w) events (decisions_in w) (returns_safely w events stands))

-- an event shrinks no view
pub no_view_shrinks : (w : World) (events : Past) (e : Event) (step : Step) (after : World) → StandsFor w events
    → PlaysEvent w events e step after → NoViewShrinks w after
no_view_shrinks w events e step after stands p r s u was is =
    let g = group_in w in let t = trace g events in
    let same : group_in after ≡ g = ap₂ group_of p.config p.kinds in
    let before : known_view g t r ≡ Some s = sym (view_is w events stands r) ∙ was in
    let now : known_view g (trace g (e ∷ events)) r ≡ Some u =
    subst (λ (h : Group). known_view h (trace h (e ∷ events)) r ≡ Some u) same
    (sym (view_is after (e ∷ events) p.stands r) ∙ is) in
    go (nat_lt r (replicas g)) before now
  where
    go : (v : Bool) → cond v (Some (trace_view (trace (group_in w) events) r)) None ≡ Some s
        → cond v (Some (trace_view (trace (group_in w) (e ∷ events)) r)) None ≡ Some u → IsSubset s u
    go false a b = absurd (none-some s a)
    go true a b = subst₂ IsSubset (same_Some _ s a) (same_Some _ u b) (views_grow (group_in w) events e r)

pub play_keeps : (w : World) (events : Past) (e : Event) (step : Step) (after : World) → PlaysEvent w events e step after
    → WorldKeepsAll after (e ∷ events)
play_keeps w events e step after p = world_keeps after (e ∷ events) p.stands
