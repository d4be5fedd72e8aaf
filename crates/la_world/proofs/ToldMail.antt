-- What a replica tells by a step is what the trace says.
use Rattle.std.proofs.Common.{◌≡◌, ℕ, ◌<◌, ◌≤◌, List, [], ◌∷◌, map, slice_index_or, Option, Some, None, refl, sym, ap, ap₂, ◌∙◌, arith}
use Rattle.std.proofs.lemmas.Option.{get_or_from_slice_get}
use Rattle.std.specs.List.{range_with_len}
use Rattle.la_set.specs.declared.counts.Counts.{Counts}
use Rattle.la_set.specs.Counts.{counts_of, zero_counts}
use Rattle.la_replica.specs.Whole.{Message}
use Rattle.la_replica.specs.Messages.{group, offer_to}
use Rattle.la_world.specs.declared.step.Opening.{Opening}
use Rattle.la_world.specs.Groups.{Group, replicas, instances}
use Rattle.la_world.specs.Trace as did
use Rattle.la_world.specs.Trace.{Did, Entry, Trace}
use Rattle.la_world.specs.Sent.{sender_for, ballot_of, offers_for, offers_for_next, tells_for, sent_by, sent_at}
use Rattle.la_world.specs.Ballots.{opened_by, opening_learnt}
use Rattle.la_world.specs.Hearing as hearing
use Rattle.la_world.specs.ReplicaStates.{reports, proposer_state, instance_of, replica_state}
use Rattle.la_node.specs.Telling.{told_over, base_told, reported_in, message_told}
use Rattle.la_world.specs.Told.{base_of, offered_to, sent_as_told}
use Rattle.la_world.proofs.Lists.{AllIn, AllIn-append, AllIn-made, get_made}
use Rattle.la_world.proofs.InGroup.{IsBetween}
use Rattle.la_world.proofs.OneReplicaSteps.{get_instance}
use Rattle.la_world.proofs.Quorum.{tells_all, group_within}

-- ## What a step tells is what the trace says

-- what has been reported to a replica is what it keeps
reports_at : (t : Trace) (i r a : ℕ) → a < 8
    → slice_index_or (reports t i r) a zero_counts ≡ counts_of (hearing.reported_set t i r a)
unfolding reports
reports_at t i r a lt =
    get_or_from_slice_get (map (λ q. counts_of (hearing.reported_set t i r q)) (range_with_len 0 8)) a
    (counts_of (hearing.reported_set t i r a)) zero_counts
    (get_made (λ q. counts_of (hearing.reported_set t i r q)) 0 8 a a lt (omega arith))

module _ (g : Group) (t : Trace) (r : ℕ) (offered : Counts) where
  told_one : (m : Message) → m.from ≡ r → m.to < 8 → m.instance < instances g
      → message_told (replica_state g t r) offered m ≡ told_over (base_of t offered m) m
  unfolding replica_state instance_of proposer_state
  told_one m from lt there =
      ap (λ o. told_over (base_told (reported_in o m.to) offered m.body) m) (get_instance g t r m.instance there)
      ∙ ap (λ c. told_over (base_told c offered m.body) m)
      (reports_at t m.instance r m.to lt ∙ ap (λ q. counts_of (hearing.reported_set t m.instance q m.to)) (sym from))

  told_so : (ms : List Message) → AllIn (λ (w : Message). (w.from ≡ r) × (w.to < 8)) ms → AllIn (IsBetween g) ms
      → map (message_told (replica_state g t r) offered) ms ≡ map (λ w. told_over (base_of t offered w) w) ms
  told_so [] sides between = refl
  told_so (m ∷ ms) sides between =
      ap₂ (λ x xs. x ∷ xs) (told_one m sides.0.0 sides.0.1 between.0.instance) (told_so ms sides.1 between.1)

-- a replica of a trace tells what that says
pub told_as : (g : Group) (t : Trace) (x : Entry) (r : ℕ)
    → AllIn (λ (w : Message). (w.from ≡ r) × (w.to < 8)) (sent_at (replicas g) x)
    → AllIn (IsBetween g) (sent_at (replicas g) x)
    → map (message_told (replica_state g (x ∷ t) r) (offered_to x.delivered)) (sent_at (replicas g) x)
    ≡ sent_as_told (replicas g) x t
told_as g t x r sides between = told_so g (x ∷ t) r (offered_to x.delivered) (sent_at (replicas g) x) sides between

-- ## Between whom

-- what an event sends is from its replica, and to one of the group
pub sent_sides : (n r : ℕ) (m : Option Message) (d : Did) → n ≤ 8
    → ((b : Opening) → opened_by d ≡ Some b → b.replica ≡ r) → ((b : Opening) → opening_learnt d ≡ Some b → b.replica ≡ r)
    → ((k : Message) → m ≡ Some k → (k.to ≡ r) × (k.from < n))
    → AllIn (λ (w : Message). (w.from ≡ r) × (w.to < 8)) (sent_by n m d)
sent_sides n r m d few opened learnt received = go d m opened learnt received
  where
    offers : (b : Opening) → b.replica ≡ r → AllIn (λ (w : Message). (w.from ≡ r) × (w.to < 8)) (offers_for n b)
    offers b of =
        AllIn-made (λ (w : Message). (w.from ≡ r) × (w.to < 8)) (offer_to (sender_for n b) (ballot_of b)) (λ q. q < n)
        (λ q lt. (of, omega (arith, lt, few))) (group n) (group_within n)

    next : (o : Option Opening) → ((b : Opening) → o ≡ Some b → b.replica ≡ r)
        → AllIn (λ (w : Message). (w.from ≡ r) × (w.to < 8)) (offers_for_next n o)
    next None of = tt
    next (Some b) of = offers b (of b refl)

    go : (d : Did) (m : Option Message) → ((b : Opening) → opened_by d ≡ Some b → b.replica ≡ r)
        → ((b : Opening) → opening_learnt d ≡ Some b → b.replica ≡ r)
        → ((k : Message) → m ≡ Some k → (k.to ≡ r) × (k.from < n))
        → AllIn (λ (w : Message). (w.from ≡ r) × (w.to < 8)) (sent_by n m d)
    go (did.Opened b) m o l k = offers b (o b refl)
    go (did.Refined b) m o l k = offers b (o b refl)
    go (did.Learnt b after) m o l k =
        AllIn-append (λ (w : Message). (w.from ≡ r) × (w.to < 8)) (tells_for n b) (offers_for_next n after)
        (tells_all (λ (w : Message). (w.from ≡ r) × (w.to < 8)) n b (λ z to lt. (l b refl, omega (arith, lt, few))))
        (next after o)
    go (did.Answered reply) None o l k = tt
    go (did.Answered reply) (Some offer) o l k = let h = k offer refl in ((h.0, omega (arith, h.1, few)), tt)
    go (did.Held id) m o l k = tt
    go did.Counted m o l k = tt
    go did.Ignored m o l k = tt
    go (did.Took s) m o l k = tt
    go did.Kept m o l k = tt
    go (did.Replied answer) m o l k = tt
