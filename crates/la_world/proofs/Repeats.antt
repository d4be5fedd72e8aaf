-- What a replica would send once more was sent before: the event that opened a ballot sent its
-- offers to all, and the event that learnt it sent its tells.
use Rattle.std.proofs.Common.{◌≡◌, ℕ, ◌<◌, Bool, true, false, cond, List, [], ◌∷◌, map, filter, length, slice_get, Option, Some, None, option_map, unwrap_or, refl, sym, ap, ap₂, ◌∙◌, subst, arith, inl, inr}
use Rattle.std.specs.List.{range_with_len, cons_option}
use Rattle.std.specs.Prelude.{filter_map}
use Rattle.std.proofs.lemmas.Bool.{true≢false}
use Rattle.std.proofs.lemmas.List.FromFn.{length-map-range_with_len}
use Rattle.std.proofs.lemmas.Option.{same_Some, none-some, slice_get_within}
use Rattle.la_proposer.specs.declared.ballot.Ballot.{Ballot}
use Rattle.la_replica.specs.declared.instance.Instance.{Instance}
use Rattle.la_replica.specs.declared.sender.Sender.{Sender}
use Rattle.la_replica.specs.Whole.{Message}
use Rattle.la_replica.specs.Messages.{offers_of, tells_of}
use Rattle.la_replica.specs.Again.{is_unanswered, offers_again, tells_again, again_in, again_at, again}
use Rattle.la_world.specs.declared.step.Opening.{Opening}
use Rattle.la_world.specs.Groups.{Group, replicas, instances}
use Rattle.la_world.specs.Trace.{Did, Opened, Held, Answered, Counted, Ignored, Refined, Learnt, Took, Kept, Replied, Entry, Trace}
use Rattle.la_world.specs.Sent.{ballot_of, offers_for, offers_for_next, tells_for, sent_by, sent_at, sent}
use Rattle.la_world.specs.Ballots.{opened_by, opening_learnt, only, round, is_open, is_open_after}
use Rattle.la_world.specs.Learnings.{newest_ballot, last_learnt_ballot}
use Rattle.la_world.specs.ReplicaStates.{proposer_state, instance_of, replica_state}
use Rattle.la_world.specs.Playing.{trace}
use Rattle.la_world.specs.Laws.{RepeatsWereSent}
use Rattle.la_world.proofs.Lists.{IsIn, IsIn-left, IsIn-right, IsIn_filter, in_either, in_flat_map, IsIn_contains, contains_IsIn}
use Rattle.la_world.proofs.Openings.{only_is, round_is, round-opened, round-same}
use Rattle.la_world.proofs.OneReplicaSteps.{get_instance}

module _ (n : ℕ) where
  sent_earlier : (x : Entry) (t : Trace) (m : Message) → IsIn m (sent n t) → IsIn m (sent n (x ∷ t))
  unfolding sent
  sent_earlier x t m h = IsIn-left m (sent n t) (sent_at n x) h

  sent_now : (x : Entry) (t : Trace) (m : Message) → IsIn m (sent_at n x) → IsIn m (sent n (x ∷ t))
  unfolding sent
  sent_now x t m h = IsIn-right m (sent n t) (sent_at n x) h

  opening_sends : (d : Option Message) (did : Did) (b : Opening) → opened_by did ≡ Some b → (m : Message)
      → IsIn m (offers_for n b) → IsIn m (sent_by n d did)
  opening_sends d (Opened c) b e m h = subst (λ z. IsIn m (offers_for n z)) (sym (same_Some c b e)) h
  opening_sends d (Refined c) b e m h = subst (λ z. IsIn m (offers_for n z)) (sym (same_Some c b e)) h
  opening_sends d (Learnt c next) b e m h =
      IsIn-right m (tells_for n c) (offers_for_next n next) (subst (λ z. IsIn m (offers_for_next n z)) (sym e) h)
  opening_sends d (Held id) b e m h = absurd (none-some b e)
  opening_sends d (Answered reply) b e m h = absurd (none-some b e)
  opening_sends d Counted b e m h = absurd (none-some b e)
  opening_sends d Ignored b e m h = absurd (none-some b e)
  opening_sends d (Took s) b e m h = absurd (none-some b e)
  opening_sends d Kept b e m h = absurd (none-some b e)
  opening_sends d (Replied answer) b e m h = absurd (none-some b e)

  learning_sends : (d : Option Message) (did : Did) (b : Opening) → opening_learnt did ≡ Some b → (m : Message)
      → IsIn m (tells_for n b) → IsIn m (sent_by n d did)
  learning_sends d (Learnt c next) b e m h =
      IsIn-left m (tells_for n c) (offers_for_next n next) (subst (λ z. IsIn m (tells_for n z)) (sym (same_Some c b e)) h)
  learning_sends d (Opened c) b e m h = absurd (none-some b e)
  learning_sends d (Refined c) b e m h = absurd (none-some b e)
  learning_sends d (Held id) b e m h = absurd (none-some b e)
  learning_sends d (Answered reply) b e m h = absurd (none-some b e)
  learning_sends d Counted b e m h = absurd (none-some b e)
  learning_sends d Ignored b e m h = absurd (none-some b e)
  learning_sends d (Took s) b e m h = absurd (none-some b e)
  learning_sends d Kept b e m h = absurd (none-some b e)
  learning_sends d (Replied answer) b e m h = absurd (none-some b e)

  module _ (i r : ℕ) where
    -- an open ballot was offered to all
    open_offers : (t : Trace) → is_open t i r ≡ true → (m : Message) → IsIn m (offers_for n (round t i r))
        → IsIn m (sent n t)
    unfolding is_open
    open_offers [] e m h = absurd (true≢false (sym e))
    open_offers (x ∷ t) e m h = go (only i r (opened_by x.did)) refl (only i r (opening_learnt x.did)) e (open_offers t)
      where
        go : (o : Option Opening) → only i r (opened_by x.did) ≡ o → (l : Option Opening)
            → is_open_after o l (is_open t i r) ≡ true
            → (is_open t i r ≡ true → (k : Message) → IsIn k (offers_for n (round t i r)) → IsIn k (sent n t))
            → IsIn m (sent n (x ∷ t))
        go (Some b) at l f before =
            sent_now x t m
            (opening_sends x.delivered x.did b (only_is i r (opened_by x.did) b at).0 m
            (subst (λ z. IsIn m (offers_for n z)) (round-opened x t i r b at) h))
        go None at (Some b) f before = absurd (true≢false (sym f))
        go None at None f before =
            sent_earlier x t m (before f m (subst (λ z. IsIn m (offers_for n z)) (round-same x t i r at) h))

    abbrev sender : Sender
    sender = record { replicas = n; from = r; instance = i }

    -- the ballot that was learnt last was told
    learnt_tells : (t : Trace) (b : Ballot) → last_learnt_ballot t i r ≡ Some b → (m : Message)
        → IsIn m (tells_of sender b.number b.updates) → IsIn m (sent n t)
    unfolding last_learnt_ballot
    learnt_tells [] b e m h = absurd (none-some b e)
    learnt_tells (x ∷ t) b e m h = go (only i r (opening_learnt x.did)) refl e (learnt_tells t b)
      where
        go : (o : Option Opening) → only i r (opening_learnt x.did) ≡ o
            → newest_ballot (cons_option o (filter_map (λ (y : Entry). only i r (opening_learnt y.did)) t)) ≡ Some b
            → (last_learnt_ballot t i r ≡ Some b → (k : Message) → IsIn k (tells_of sender b.number b.updates)
            → IsIn k (sent n t)) → IsIn m (sent n (x ∷ t))
        go (Some c) at f before =
            let is = only_is i r (opening_learnt x.did) c at in
            let told : tells_for n c ≡ tells_of sender b.number b.updates =
            ap₂ (λ j q. tells_of (record { replicas = n; from = q; instance = j }) c.ballot c.updates) is.1 is.2
            ∙ ap (λ (z : Ballot). tells_of sender z.number z.updates) (same_Some (ballot_of c) b f) in
            sent_now x t m (learning_sends x.delivered x.did c is.0 m (subst (IsIn m) (sym told) h))
        go None at f before = sent_earlier x t m (before f m h)

module _ (g : Group) (t : Trace) (r i : ℕ) where
  abbrev from_here : Sender
  from_here = record { replicas = replicas g; from = r; instance = i }

  offers_sent : (m : Message) → IsIn m (offers_again from_here (proposer_state g t i r)) → IsIn m (sent (replicas g) t)
  unfolding proposer_state
  offers_sent m h = go (is_open t i r) refl h
    where
      all : List Message
      all = offers_of from_here (ballot_of (round t i r))

      all_is : all ≡ offers_for (replicas g) (round t i r)
      all_is =
          let of = round_is t i r in
          ap₂ (λ j q. offers_of (record { replicas = replicas g; from = q; instance = j }) (ballot_of (round t i r))) (sym of.instance) (sym of.replica)

      go : (v : Bool) → is_open t i r ≡ v → IsIn m (cond v (filter (is_unanswered (proposer_state g t i r)) all) [])
          → IsIn m (sent (replicas g) t)
      go true e k =
          open_offers (replicas g) i r t e m
          (subst (IsIn m) all_is (IsIn_filter (is_unanswered (proposer_state g t i r)) all m k))
      go false e k = absurd k

  tells_sent : (o : Option Ballot) → last_learnt_ballot t i r ≡ o → (m : Message) → IsIn m (tells_again from_here o)
      → IsIn m (sent (replicas g) t)
  tells_sent None e m h = absurd h
  tells_sent (Some b) e m h = learnt_tells (replicas g) i r t b e m h

  in_instance_sent : (m : Message) → IsIn m (again_in from_here (instance_of g t r i)) → IsIn m (sent (replicas g) t)
  unfolding instance_of
  in_instance_sent m h =
      elim
      (in_either m (offers_again from_here (proposer_state g t i r)) (tells_again from_here (last_learnt_ballot t i r))
      h) [
        | inl offer ↦ offers_sent m offer
        | inr tell ↦ tells_sent (last_learnt_ballot t i r) refl m tell
      ]

  -- there is such an instance, or it sends nothing
  at_sent : (m : Message) → IsIn m (again_at (replica_state g t r) i) → IsIn m (sent (replicas g) t)
  unfolding replica_state
  at_sent m h = go (slice_get all i) refl h
    where
      all : List Instance
      all = map (instance_of g t r) (range_with_len 0 (instances g))

      go : (o : Option Instance) → slice_get all i ≡ o → IsIn m (unwrap_or (option_map (again_in from_here) o) [])
          → IsIn m (sent (replicas g) t)
      go None e k = absurd k
      go (Some x) e k =
          let lt : i < instances g =
          omega (arith, slice_get_within all i x e, length-map-range_with_len (instance_of g t r) 0 (instances g))
          in
          let is : instance_of g t r i ≡ x = same_Some (instance_of g t r i) x (sym (get_instance g t r i lt) ∙ e) in
          in_instance_sent m (subst (λ y. IsIn m (again_in from_here y)) (sym is) k)

all_sent : (g : Group) (t : Trace) (r : ℕ) (m : Message) → IsIn m (again (replica_state g t r))
    → IsIn m (sent (replicas g) t)
all_sent g t r m h =
    let q = replica_state g t r in
    let at = in_flat_map (again_at q) (range_with_len 0 (length q.instances)) m h in
    at_sent g t r at.0 m at.1

pub repeats_sent : RepeatsWereSent
repeats_sent g events r m h =
    let t = trace g events in
    IsIn_contains (sent (replicas g) t) m (all_sent g t r m (contains_IsIn (again (replica_state g t r)) m h))
