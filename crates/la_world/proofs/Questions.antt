-- Questions to a world: a shelf follows its replica's view, and then answers by it.
use Rattle.std.proofs.Common.{◌≡◌, ℕ, suc, ◌+◌, ◌<◌, ◌≤◌, inl, inr, List, [], ◌∷◌, length, slice_get, slice_set, unwrap_or, append-nil, Option, Some, None, IsSome, IsSomeAnd, option_map, refl, ap, ap₂, sym, ◌∙◌, subst, subst₂, arith, All}
use Rattle.std.specs.Prelude.{nat_le, nat_lt}
use Rattle.std.proofs.Math.Logic.{∥∥₁_map}
use Rattle.std.proofs.Math.Seq.{map-set_same}
use Rattle.std.proofs.lemmas.Bool.{cond-true, cond-false, lt-leb, lt-ltb}
use Rattle.std.proofs.lemmas.List.{length-set}
use Rattle.std.proofs.lemmas.Option.{same_Some, none-some, slice_get-map, slice_get_within, get_or_from_slice_get}
use Rattle.la_set.specs.declared.update.UpdateId.{UpdateId}
use Rattle.la_set.specs.Inclusion.{IsSubset}
use Rattle.la_object.specs.declared.kind.Kind.{Kind}
use Rattle.la_object.specs.declared.query.Query.{Query}
use Rattle.la_object.specs.declared.query.Answer.{Answer}
use Rattle.la_object.specs.declared.query.Answer.TheVariants.{Foreign}
use Rattle.la_object.specs.Shelves.{ShelfState, kind_at, answer_at, tags_at}
use Rattle.la_replica.specs.declared.message.Message as code
use Rattle.la_replica.specs.Whole.{whole_mail}
use Rattle.la_replica.specs.ReplicaState.{ReplicaState}
use Rattle.la_world.specs.declared.error.Refusal.TheVariants.{NoSuchReplica}
use Rattle.la_world.specs.declared.report.Line.TheVariants.{Done}
use Rattle.la_world.specs.declared.step.Did.TheVariants as shown
use Rattle.la_world.specs.declared.step.Learnt.{Learnt}
use Rattle.la_world.specs.declared.step.Step.{Step}
use Rattle.la_node.specs.declared.config.Config.{Config}
use Rattle.la_world.specs.declared.journal.Journal.{Journal}
use Rattle.la_world.specs.Shown.{answer_step}
use Rattle.la_node.proofs.lemmas.Items.{get_set, get_put}
use Rattle.la_node.specs.Nodes.{NodeState, replicas_of, shelves_of, followed, with_shelf}
use Rattle.la_node.specs.Configs.{IsConfig}
use Rattle.la_world.specs.Groups.{Group, group_of, replicas, kinds_on}
use Rattle.la_world.specs.Events.{Event, Ask}
use Rattle.la_world.specs.Trace.{Trace}
use Rattle.la_world.specs.Sent.{sent}
use Rattle.la_replica.specs.Stored.{IsMade}
use Rattle.la_world.specs.Told.{told_messages}
use Rattle.la_world.specs.Views.{trace_view}
use Rattle.la_world.specs.Playing.{answer_of, shelf_of, event_entry, trace}
use Rattle.la_world.specs.Learnings.{learnt}
use Rattle.la_world.specs.Report.{refused, refused_object, line_of}
use Rattle.la_world.specs.ReplicaStates.{replica_state, replica_states}
use Rattle.la_world.specs.StandsFor.{World, world_of, kinds_of, group_in, AreBehind, EventsLeadTo, StandsFor}
use Rattle.la_world.specs.Calls.{HoldsWorldInvariant, PlaysEvent, Keeps, view_in, HasObject, IsFollowing, world_tags}
use Rattle.la_world.proofs.Lists.{map_same}
use Rattle.la_world.proofs.GrowingViews.{view_more}
use Rattle.la_world.proofs.OneReplicaSteps.{replica_state-else}
use Rattle.la_world.proofs.Unaffected.{Concerns}
use Rattle.la_world.proofs.Worlds.{view_is, sent_is}
use Rattle.la_world.proofs.WorldNodes.{world_of_nodes, replica_found, shelf_found, looked}

-- ## What a world keeps

pub kept_group : (w after : World) → Keeps w after → group_in after ≡ group_in w
kept_group w after k = ap₂ group_of k.config k.kinds

pub kept_invariant : (w after : World) → Keeps w after → HoldsWorldInvariant w → HoldsWorldInvariant after
kept_invariant w after k h = record {
  config = subst IsConfig (sym k.config) h.config;
  reached = ∥∥₁_map h.reached (λ p. (p.0, k.stands p.0 p.1));
  made = subst (All IsMade) (sym k.messages) h.made;
}

-- what is played after nothing has happened is played before it
pub kept_plays : (w now : World) → Keeps w now → (events : List Event) (e : Event) (step : Step) (after : World)
    → PlaysEvent now events e step after → PlaysEvent w events e step after
kept_plays w now k events e step after p =
    let same = kept_group w now k in
    record {
      allowed = subst (λ (g : Group). refused g (trace g events) e ≡ None) same p.allowed;
      line = subst (λ (g : Group). Done step ≡ line_of g (trace g events) e) same p.line;
      config = p.config ∙ k.config;
      kinds = p.kinds ∙ k.kinds;
      stands = p.stands;
    }

-- ## The entry of a question concerns no replica

asked_concerns : (g : Group) (t : Trace) (r object : ℕ) (query : Query) (q : ℕ)
    → Concerns 0 q (event_entry g t (Ask r object query))
asked_concerns g t r object query q = record {
  opened = λ b e. absurd (none-some b e);
  learnt = λ b e. absurd (none-some b e);
  submission = λ s e. absurd (none-some s e);
  message = λ m e. absurd (none-some m e);
}

replicas_stay : (g : Group) (t : Trace) (r object : ℕ) (query : Query)
    → replica_states g t ≡ replica_states g (event_entry g t (Ask r object query) ∷ t)
replicas_stay g t r object query =
    let x = event_entry g t (Ask r object query) in
    map_same (replica_state g t) (replica_state g (x ∷ t)) 0 (replicas g)
    (λ q le.
    sym (replica_state-else g x t 0 (suc q) q (asked_concerns g t r object query (suc q)) (λ e. omega (arith, e))))

-- ## What stands for events

module _ (w : World) (events : List Event) (stands : StandsFor w events) where
  abbrev g : Group
  g = group_in w

  abbrev t : Trace
  t = trace g events

  pub no_replica : (r : ℕ) → length w.shelves ≤ r → replicas g ≤ r
  no_replica r le = let a = stands.shelves in let b = stands.config.group.replicas in omega arith

  module _ (r : ℕ) (s : ShelfState) (found : slice_get w.shelves r ≡ Some s) where
    pub is_replica : r < replicas g
    is_replica =
        let lt = slice_get_within w.shelves r s found in
        let a = stands.shelves in let b = stands.config.group.replicas in omega arith

    pub shelf_kinds : s.objects ≡ kinds_on g r
    shelf_kinds =
        sym
        (ap (λ (o : Option (List (ℕ × Kind))). unwrap_or o [])
        (slice_get-map (λ (z : ShelfState). z.objects) w.shelves r
        ∙ ap (option_map (λ (z : ShelfState). z.objects)) found))

    known_replica : (object : ℕ) (query : Query)
        → refused g t (Ask r object query) ≡ refused_object (kind_at s.objects object)
    known_replica object query =
        cond-false (nat_le (replicas g) r) (Some NoSuchReplica) (refused_object (kind_at (kinds_on g r) object))
        (lt-leb (replicas g) r is_replica) ∙ ap (λ o. refused_object (kind_at o object)) (sym shelf_kinds)

    -- where the shelf has absorbed the whole view
    module _ (follows : view_in w r ≡ Some s.view) where
      shelf_is : ◌≡◌ {A = ShelfState} (shelf_of g t r) s
      shelf_is =
          let there : view_in w r ≡ Some (trace_view t r) =
          view_is w events stands r
          ∙ cond-true (nat_lt r (replicas g)) (Some (trace_view t r)) None (lt-ltb r (replicas g) is_replica) in
          λ j. record { view = same_Some (trace_view t r) s.view (sym there ∙ follows) j; objects = sym shelf_kinds j }

      pub answer_is : (object : ℕ) (query : Query) → answer_of g t r object query ≡ answer_at s object query
      unfolding answer_of
      answer_is object query = ap (λ (z : ShelfState). answer_at z object query) shelf_is

      pub tags_are : (object element : ℕ) → world_tags g t r object element ≡ tags_at s object element
      tags_are object element =
          cond-true (nat_lt r (replicas g)) (tags_at (shelf_of g t r) object element) None
          (lt-ltb r (replicas g) is_replica)
          ∙ ap (λ (z : ShelfState). tags_at z object element) shelf_is

  -- ### Refusals

  some_object : (o : Option Kind) → IsSome o → refused_object o ≡ None
  some_object None h = cc
  some_object (Some kind) h = refl

  pub question_allowed : (r object : ℕ) (query : Query) → HasObject w.shelves r object
      → refused g t (Ask r object query) ≡ None
  question_allowed r object query there = go (slice_get w.shelves r) refl there
    where
      go : (o : Option ShelfState) → slice_get w.shelves r ≡ o
          → IsSomeAnd o (λ (s : ShelfState). IsSome (kind_at s.objects object)) → refused g t (Ask r object query) ≡ None
      go None found k = absurd k
      go (Some s) found k = known_replica r s found object query ∙ some_object (kind_at s.objects object) k

  -- ### An answer

  -- the world after a question stands for the events with it
  asked_stands : (r object : ℕ) (query : Query) → refused g t (Ask r object query) ≡ None
      → StandsFor (record w { count = w.count + 1 }) (Ask r object query ∷ events)
  unfolding trace sent told_messages learnt
  asked_stands r object query allowed =
      let x = event_entry g t (Ask r object query) in
      record {
        config = stands.config;
        led = record {
          legal = (allowed, stands.led.legal);
          replica_states = stands.led.replica_states ∙ replicas_stay g t r object query;
          sent = stands.led.sent ∙ sym (append-nil (sent (replicas g) t));
        };
        told = stands.told ∙ sym (append-nil (told_messages (replicas g) t));
        shelves = stands.shelves;
        absorbed = λ q s found u has. view_more x t q u (stands.absorbed q s found u has);
        learnt = stands.learnt ∙ sym (append-nil (learnt t));
        count = let c = stands.count in omega arith;
      }

  pub question_plays : (r object : ℕ) (query : Query) (s : ShelfState) (answer : Answer) → slice_get w.shelves r ≡ Some s → view_in w r ≡ Some s.view → HasObject w.shelves r object → answer_at s object query ≡ Some answer → PlaysEvent w events (Ask r object query) (record { did = shown.Replied answer; first = length w.messages; sent = 0 }) (record w { count = w.count + 1 })
  question_plays r object query s answer found follows there is =
      let allowed = question_allowed r object query there in
      let same : unwrap_or (answer_of g t r object query) Foreign ≡ answer =
      ap (λ o. unwrap_or o Foreign) (answer_is r s found follows object query ∙ is) in
      record {
        allowed = allowed;
        line = λ j. Done (record { did = shown.Replied (sym same j); first = sent_is w events stands j; sent = 0 });
        config = refl;
        kinds = refl;
        stands = asked_stands r object query allowed;
      }

-- ## What a world finds of its shelves

-- the replica r is this one, and this is its shelf
pub record IsShelf (w : World) (r : ℕ) (at : ReplicaState) (s : ShelfState) : Type 0 where
  pub invariant : HoldsWorldInvariant w
  pub state : slice_get w.replica_states r ≡ Some at
  pub found : slice_get w.shelves r ≡ Some s

-- the shelf has absorbed some of its replica's view, or nothing
pub record HasAbsorbed (at : ReplicaState) (s new : ShelfState) : Type 0 where
  pub objects : new.objects ≡ s.objects
  pub within : IsSubset s.view at.view → IsSubset new.view at.view

-- ## A shelf that follows

-- the world with this shelf in the place of r's
abbrev pub then : World → (r : ℕ) → ShelfState → World
then w r new = record w { shelves = slice_set w.shelves r new }

module _ {w : World} {r : ℕ} {at : ReplicaState} {s : ShelfState} (is : IsShelf w r at s) where
  view_at_is : view_in w r ≡ Some at.view
  view_at_is = ap (option_map (λ (z : ReplicaState). z.view)) is.state

  module _ (events : List Event) (stands : StandsFor w events) where
    view_then : at.view ≡ trace_view (trace (group_in w) events) r
    view_then =
        let g = group_in w in let t = trace g events in
        same_Some at.view (trace_view t r)
        (sym view_at_is ∙ view_is w events stands r
        ∙ cond-true (nat_lt r (replicas g)) (Some (trace_view t r)) None
        (lt-ltb r (replicas g) (is_replica w events stands r s is.found)))

    within : IsSubset s.view at.view
    within = subst (IsSubset s.view) (sym view_then) (stands.absorbed r s is.found)

  module _ {new : ShelfState} (absorbed : HasAbsorbed at s new) where
    kinds_stay : kinds_of (slice_set w.shelves r new) ≡ kinds_of w.shelves
    kinds_stay =
        map-set_same (λ (z : ShelfState). z.objects) w.shelves r new s
        (absorbed.objects ∙ ap (λ (z : ShelfState). z.objects) (sym (get_or_from_slice_get w.shelves r s s is.found)))

    behind : (events : List Event) → StandsFor w events
        → AreBehind (slice_set w.shelves r new) (trace (group_in w) events)
    behind events stands q z there u has = elim (get_set w.shelves r q new z there) [
      | inl p ↦
          let t = trace (group_in w) events in
          let new_within : IsSubset new.view (trace_view t r) =
          subst (IsSubset new.view) (view_then events stands) (absorbed.within (within events stands)) in
          subst₂ (λ (y : ShelfState) (k : ℕ). IsSubset y.view (trace_view t k)) p.1 (sym p.0) new_within u has
      | inr old ↦ stands.absorbed q z old u has
    ]

    pub keeps : Keeps w (then w r new)
    keeps = record {
      config = refl;
      kinds = kinds_stay;
      messages = refl;
      count = refl;
      stands = λ events stands.
          let same : group_of w.config (kinds_of w.shelves) ≡ group_of w.config (kinds_of (slice_set w.shelves r new)) =
          ap (group_of w.config) (sym kinds_stay) in
          record {
            config = stands.config;
            led = subst (λ (g : Group). EventsLeadTo g events w.replica_states (whole_mail w.messages)) same stands.led;
            told = subst (λ (g : Group). w.messages ≡ told_messages (replicas g) (trace g events)) same stands.told;
            shelves = length-set w.shelves r new ∙ stands.shelves;
            absorbed =
                subst (λ (g : Group). AreBehind (slice_set w.shelves r new) (trace g events)) same (behind events stands);
            learnt = subst (λ (g : Group). w.learnt ≡ learnt (trace g events)) same stands.learnt;
            count = stands.count;
          };
    }

-- ## An answer, by what the code has put together

some_and : {A : Type 0} (o : Option A) (P : A → Type 0) (x : A) → IsSomeAnd o P → o ≡ Some x → P x
some_and None P x h e = absurd h
some_and (Some y) P x h e = subst P (same_Some y x e) h

kind_there : {A : Type 0} (o : Option Kind) (f : Kind → A) (x : A) → option_map f o ≡ Some x → IsSome o
kind_there None f x e = absurd (none-some x e)
kind_there (Some kind) f x e = refl

-- a shelf that has absorbed the whole view has answered, and the question was noted
module _ (w : World) (r object : ℕ) (query : Query) (s : ShelfState) (answer : Answer)
    (found : slice_get w.shelves r ≡ Some s) (following : IsFollowing w r) (is : answer_at s object query ≡ Some answer)
    (messages : List code.Message) (learnt_then : List Learnt) (count : ℕ) (a : messages ≡ w.messages)
    (b : learnt_then ≡ w.learnt) (d : count ≡ w.count + 1) where
  abbrev pub noted : World
  noted = record { config = w.config; replica_states = w.replica_states; shelves = w.shelves; messages = messages; learnt = learnt_then; count = count }

  noted_is : noted ≡ record w { count = w.count + 1 }
  noted_is = λ j. record { config = w.config; replica_states = w.replica_states; shelves = w.shelves; messages = a j; learnt = b j; count = d j }

  there : HasObject w.shelves r object
  there =
      subst (λ o. IsSomeAnd o (λ (z : ShelfState). IsSome (kind_at z.objects object))) (sym found)
      (kind_there (kind_at s.objects object) _ answer is)

  pub question_played : (events : List Event) → StandsFor w events → PlaysEvent w events (Ask r object query) (record { did = shown.Replied answer; first = length w.messages; sent = 0 }) noted
  question_played events stands =
      subst (λ v. PlaysEvent w events (Ask r object query) (record { did = shown.Replied answer; first = length w.messages; sent = 0 }) v) (sym noted_is)
      (question_plays w events stands r object query s answer found
      (some_and (slice_get w.shelves r) (λ (z : ShelfState). view_in w r ≡ Some z.view) s following found) there is)

  pub question_invariant : HoldsWorldInvariant w → HoldsWorldInvariant noted
  question_invariant h = record { config = h.config; reached = ∥∥₁_map h.reached (λ p. (Ask r object query ∷ p.0, (question_played p.0 p.1).stands)); made = subst (λ (v : World). All IsMade v.messages) (sym noted_is) h.made }

-- ## The tags that are observed

module _ (w now : World) (k : Keeps w now) (events : List Event) (stands : StandsFor w events) (r object element : ℕ)
  where
    abbrev tags_then : Option (List UpdateId)
    tags_then = world_tags (group_in w) (trace (group_in w) events) r object element

    pub tags_kept : (s : ShelfState) → slice_get now.shelves r ≡ Some s → IsFollowing now r
        → tags_then ≡ tags_at s object element
    tags_kept s found following =
        subst (λ (g : Group). world_tags g (trace g events) r object element ≡ tags_at s object element) (kept_group w now k)
        (tags_are now events (k.stands events stands) r s found
        (some_and (slice_get now.shelves r) (λ (z : ShelfState). view_in now r ≡ Some z.view) s following found) object
        element)

    some_mapped : {A : Type 0} (o : Option Kind) (f : Kind → A) → IsSome o → IsSome (option_map f o)
    some_mapped None f h = cc
    some_mapped (Some kind) f h = refl

    pub tags_there : HasObject w.shelves r object → IsSome tags_then
    tags_there has = go (slice_get w.shelves r) refl has
      where
        go : (o : Option ShelfState) → slice_get w.shelves r ≡ o
            → IsSomeAnd o (λ (s : ShelfState). IsSome (kind_at s.objects object)) → IsSome tags_then
        go None found h = absurd h
        go (Some s) found h =
            let g = group_in w in
            subst IsSome
            (sym
            (cond-true (nat_lt r (replicas g)) (tags_at (shelf_of g (trace g events) r) object element) None
            (lt-ltb r (replicas g) (is_replica w events stands r s found))))
            (some_mapped (kind_at (kinds_on g r) object) _
            (subst (λ o. IsSome (kind_at o object)) (shelf_kinds w events stands r s found) h))

-- ## A node that was looked at

module _ (c : Config) (nodes : List NodeState) (journal : Journal)
    (invariant : HoldsWorldInvariant (world_of_nodes c nodes journal)) (r : ℕ) (n : NodeState)
    (found : slice_get nodes r ≡ Some n) where
  abbrev now : World
  now = world_of_nodes c nodes journal

  is_shelf : IsShelf now r n.replica n.shelf
  is_shelf = record { invariant = invariant; state = replica_found nodes r n found; found = shelf_found nodes r n found }

  -- its shelf has absorbed some of its view
  module _ (made : NodeState) (same : made.replica ≡ n.replica) (objects : made.shelf.objects ≡ n.shelf.objects)
      (within_view : IsSubset made.shelf.view made.replica.view) where
    some_absorbed : HasAbsorbed n.replica n.shelf made.shelf
    some_absorbed = record { objects = objects; within = λ was. subst (λ (m : ReplicaState). IsSubset made.shelf.view m.view) same within_view }

    abbrev after_look : World
    after_look = world_of_nodes c (slice_set nodes r made) journal

    still_keeps : Keeps now after_look
    still_keeps = subst (Keeps now) (sym (looked nodes r n found c made journal same)) (keeps is_shelf some_absorbed)

    pub looked_keeps : {old : World} → now ≡ old → Keeps old after_look
    looked_keeps is = subst (λ v. Keeps v after_look) is still_keeps

    pub looked_holds : HoldsWorldInvariant after_look
    looked_holds = kept_invariant now after_look still_keeps invariant

  -- or all of it
  abbrev following : World
  following = then now r (followed n)

  all_absorbed : HasAbsorbed n.replica n.shelf (followed n)
  all_absorbed = record { objects = refl; within = λ was u has. has }

  following_keeps : Keeps now following
  following_keeps = keeps is_shelf all_absorbed

  following_found : slice_get following.shelves r ≡ Some (followed n)
  following_found = get_put (shelves_of nodes) r n.shelf (followed n) (shelf_found nodes r n found)

  follows : IsFollowing following r
  follows =
      subst (λ o. IsSomeAnd o (λ (z : ShelfState). view_in following r ≡ Some z.view)) (sym following_found)
      (ap (option_map (λ (m : ReplicaState). m.view)) (replica_found nodes r n found))

  -- its shelf has absorbed all of its view
  pub look_follows : (made : NodeState) → made ≡ with_shelf n (followed n)
      → IsFollowing (world_of_nodes c (slice_set nodes r made) journal) r
  look_follows made made_is = subst (λ v. IsFollowing v r)
      (sym (looked nodes r n found c made journal (ap (λ (m : NodeState). m.replica) made_is)
      ∙ ap (λ (m : NodeState). world_of c (replicas_of nodes) (slice_set (shelves_of nodes) r m.shelf) journal) made_is))
      follows

  pub tags_told : (events : List Event) → StandsFor now events → (object element : ℕ)
      → world_tags (group_in now) (trace (group_in now) events) r object element ≡ tags_at (followed n) object element
  tags_told events stands object element =
      tags_kept now following following_keeps events stands r object element (followed n) following_found follows

  pub tags_known : (events : List Event) → StandsFor now events → (object element : ℕ)
      → HasObject (shelves_of nodes) r object
      → IsSome (world_tags (group_in now) (trace (group_in now) events) r object element)
  tags_known events stands object element = tags_there now following following_keeps events stands r object element

  -- it has answered, and the question was noted
  module _ (made : NodeState) (made_is : made ≡ with_shelf n (followed n)) (object : ℕ) (query : Query)
      (answer : Answer) (is : answer_at (followed n) object query ≡ Some answer) (after : Journal)
      (a : after.messages.items ≡ journal.messages.items) (b : after.learnt.items ≡ journal.learnt.items)
      (d : after.count ≡ journal.count + 1) where
    asked_as : world_of_nodes c (slice_set nodes r made) after
        ≡ world_of c (replicas_of nodes) (slice_set (shelves_of nodes) r (followed n)) after
    asked_as =
        looked nodes r n found c made after (ap (λ (m : NodeState). m.replica) made_is)
        ∙ ap (λ (m : NodeState). world_of c (replicas_of nodes) (slice_set (shelves_of nodes) r m.shelf) after) made_is

    pub asked_holds : HoldsWorldInvariant (world_of_nodes c (slice_set nodes r made) after)
    asked_holds =
        subst HoldsWorldInvariant (sym asked_as)
        (question_invariant following r object query (followed n) answer following_found follows is after.messages.items
        after.learnt.items after.count a b d (kept_invariant now following following_keeps invariant))

    pub asked_plays : {old : World} → now ≡ old → (events : List Event) → StandsFor old events → {step : Step}
        → step ≡ answer_step journal answer
        → PlaysEvent old events (Ask r object query) step (world_of_nodes c (slice_set nodes r made) after)
    asked_plays same events stands {step = step} step_is =
        let e = Ask r object query in
        let p =
        question_played following r object query (followed n) answer following_found follows is after.messages.items
        after.learnt.items after.count a b d events
        (following_keeps.stands events (subst (λ v. StandsFor v events) (sym same) stands)) in
        subst (λ v. PlaysEvent v events e step (world_of_nodes c (slice_set nodes r made) after)) same
        (subst₂ (λ t v. PlaysEvent now events e t v) (sym step_is) (sym asked_as)
        (kept_plays now following following_keeps events e (answer_step journal answer) _ p))
