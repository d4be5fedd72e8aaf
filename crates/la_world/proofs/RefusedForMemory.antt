-- A message of a legal list is refused for want of memory alone, and a submission that the world does
-- not refuse likewise: every set lies within what was submitted, and ballots' numbers stay small.
use Rattle.std.proofs.Common.{◌≡◌, ◌⊎◌, ℕ, ◌*◌, ◌<◌, ◌≤◌, Bool, true, false, not, ◌&&◌, ◌==◌, cond, List, [], ◌∷◌, length, slice_get, Some, None, refl, ap, sym, ◌∙◌, subst, arith, inl, inr}
use Rattle.std.specs.Prelude.{IsSome, IsSomeAnd}
use Rattle.std.proofs.lemmas.Bool.{cond_both, true≢false, not-true}
use Rattle.std.proofs.lemmas.List.{length-drop}
use Rattle.std.proofs.lemmas.List.FromFn.{length-map-range_with_len}
use Rattle.la_set.specs.declared.update.UpdateId.{UpdateId}
use Rattle.la_set.specs.ObjectOps.{ObjectOp}
use Rattle.la_set.specs.Histories.{Histories, count, get}
use Rattle.la_set.specs.Inclusion.{IsSubset}
use Rattle.la_set.specs.Join.{IsCompatible, ClashesAt}
use Rattle.la_set.proofs.lemmas.Inclusions.{subset-count, compatible-within}
use Rattle.la_acceptor.specs.declared.reply.Reply.{Reply}
use Rattle.la_acceptor.specs.declared.reply.Reply.TheVariants as replied
use Rattle.la_proposer.specs.declared.tally.Counted.{Counted}
use Rattle.la_proposer.specs.declared.tally.Verdict.{Verdict}
use Rattle.la_proposer.specs.declared.tally.Verdict.TheVariants.{Waits, Refines, Learns}
use Rattle.la_proposer.specs.Majority.{is_majority}
use Rattle.la_proposer.specs.Tally.{has_counted, said_yes, has_refusal, verdict, joined_with_refusals}
use Rattle.la_proposer.specs.ProposerState as proposer
use Rattle.la_proposer.specs.ProposerState.{with_reply, is_nothing}
use Rattle.la_proposer.specs.Clashes.{ClashesWith, ClashesInTally, Fits}
use Rattle.la_proposer.specs.Refusals.{opens_by, SubmissionSpends, ReplySpends}
use Rattle.la_proposer.proofs.lemmas.LeastIds.{least-clash, get-some, some-get}
use Rattle.la_replica.specs.declared.error.ReplicaError.{ReplicaError}
use Rattle.la_replica.specs.declared.error.ReplicaError.TheVariants.{NoSuchReplica, NoSuchInstance, Full, NoBase, Gap, Clash, BallotsSpent, Memory}
use Rattle.la_replica.specs.Whole.{Message, Body, Offer, Yes, No, Tell}
use Rattle.la_replica.specs.Messages.{body_of}
use Rattle.la_replica.specs.declared.instance.Instance.{Instance}
use Rattle.la_replica.specs.Refusals.{IsSubmissionRefusal, IsSubmitRefusal, IsHearingRefusal, IsBodyRefusal, IsReceiveRefusal, FitsBody, SparesBody}
use Rattle.la_world.specs.declared.step.Opening.{Opening}
use Rattle.la_world.specs.Groups.{Group, replicas, instances, cap_of}
use Rattle.la_world.specs.Trace.{Trace}
use Rattle.la_world.specs.Sent.{sent}
use Rattle.la_world.specs.Acceptors.{accepted_there}
use Rattle.la_world.specs.Ballots.{round, is_open}
use Rattle.la_world.specs.Counting.{counted}
use Rattle.la_world.specs.Submissions.{submitted_ops}
use Rattle.la_world.specs.Events.{Past}
use Rattle.la_world.specs.Views.{trace_view}
use Rattle.la_world.specs.Playing.{counts_reply, trace}
use Rattle.la_world.specs.ReplicaStates.{proposer_state, instance_of, replica_state}
use Rattle.la_replica.specs.Fitting.{FitsReceiver, FitsViewBody}
use Rattle.la_world.specs.StandsFor.{IsLegalTrace}
use Rattle.la_world.specs.Following.{SubmissionsFit}
use Rattle.la_world.proofs.Lists.{IsIn, AllIn, IsIn_get}
use Rattle.la_world.proofs.Sizes.{total, total_subset, total_most, total_below, total_strict}
use Rattle.la_world.proofs.EventCases.{heard, refused_contains}
use Rattle.la_world.proofs.Quorum.{counts_is, heard_justified}
use Rattle.la_world.proofs.Within.{refusal, set_in, IsCountWithin, heard_within}
use Rattle.la_world.proofs.Growth.{all_larger, refused_larger}
use Rattle.la_world.proofs.OwnBound.{own_bound, history-own_bound}
use Rattle.la_world.proofs.Traces.{Holds, holds, size, own_count, round_known, counted_known, stands, message_known}
use Rattle.la_world.proofs.InGroup.{IsBetween}
use Rattle.la_world.proofs.Once.{submitted_most}
use Rattle.la_world.proofs.OneReplicaSteps.{get_instance}
use Rattle.la_world.proofs.Replying.{before, with_new, waits, tally_then, refined_within, something_length}
use Rattle.la_world.proofs.Replying.{counts_is as same_counts}
use Rattle.la_world.proofs.LargestViews.{view_known}
use Rattle.la_world.proofs.Legal.{legal_between}

-- ## No clash

no_clash : (a b f : Histories) → IsSubset a f → IsSubset b f → (id : UpdateId) → ¬ ClashesAt a b id
no_clash a b f p q id = least-clash a b None (compatible-within a b f p q) id

no_clash_in : (f s : Histories) (cs : List Counted) → IsSubset s f
    → AllIn (λ (c : Counted). IsSubset (refusal c.reply) f) cs → (id : UpdateId) → ¬ ClashesInTally cs s id
no_clash_in f s [] sub all id c = c
no_clash_in f s (c ∷ cs) sub all id (inl first) = go c.reply all.0 first
  where
    go : (a : Reply) → IsSubset (refusal a) f → ClashesWith a s id → ⊥
    go replied.Yes k w = w
    go (replied.No u) k w = no_clash u s f k sub id w
no_clash_in f s (c ∷ cs) sub all id (inr rest) = no_clash_in f s cs sub all.1 id rest

-- ## Ballots' numbers

refines_some : (votes : List ℕ) (tally : List Counted) → verdict votes tally ≡ Refines → has_refusal tally ≡ true
refines_some votes tally e =
    go (is_majority votes (said_yes tally)) (has_refusal tally) (is_majority votes (has_counted tally)) e
  where
    go : (u v w : Bool) → cond u Learns (cond (v && w) Refines Waits) ≡ Refines → v ≡ true
    go true v w e = cc
    go false true w e = refl
    go false false w e = cc

-- where each replica has submitted at most so much in an instance
module _ (g : Group) (t : Trace) (h : Holds g t) (i most : ℕ) (caps : (q : ℕ) → length (submitted_ops t i q) ≤ most) where
  count_known : (q : ℕ) → count (own_bound t i) q ≤ most
  count_known q = subst (λ (zs : List ObjectOp). length zs ≤ most) (sym (history-own_bound t i q))
      (let le = own_count g t h i q in let c = caps q in omega arith)

  pub total_known : (s : Histories) → IsSubset s (own_bound t i) → total s ≤ 8 * most
  total_known s sub =
      let a = total_subset s (own_bound t i) sub in let b = total_most (own_bound t i) most count_known in omega arith

  -- where not all that may be submitted is in the last ballot
  pub last_below : (r : ℕ) → r < 8 → count (round t i r).updates r < most → (round t i r).ballot < 8 * most
  last_below r lt less =
      let last = round t i r in
      let each : (q : ℕ) → count last.updates q ≤ most =
      λ q.
      (let a = subset-count last.updates (own_bound t i) (round_known g t h i r) q in
      let b = count_known q in omega arith) in
      let a = total_below last.updates most r each lt less in
      let b = size g t h i r in
      omega arith

-- ## Fitting

-- a message that was sent
module _ (g : Group) (t : Trace) (m : Message) (h : Holds g t) (was_sent : IsIn m (sent (replicas g) t)) where
  abbrev i : ℕ
  i = m.instance

  abbrev r : ℕ
  r = m.to

  abbrev last : Opening
  last = round t i r

  -- no update of the replica's own that its last ballot lacks
  no_unknown : (s : Histories) → IsSubset s (own_bound t i) → (id : UpdateId) → id.replica ≡ r → IsSome (get s id)
      → get last.updates id ≡ None → ⊥
  no_unknown s sub id own some none =
      let p = some-get s id some in
      let fewer : count s r ≤ count last.updates r =
      subst (λ (zs : List ObjectOp). count s r ≤ length zs) (history-own_bound t i r)
      (subset-count s (own_bound t i) sub r) in
      let within : id.number ≤ count last.updates id.replica =
      subst (λ q. id.number ≤ count s q → id.number ≤ count last.updates q) (sym own) (λ le. omega (arith, fewer))
      p.1 in
      true≢false (sym (subst IsSome none (get-some last.updates id p.0 within)))

  -- its set, where it has this body
  body_known : (b : Body) → m.body ≡ b → IsSubset (set_in b) (own_bound t i)
  body_known b is = subst (λ c. IsSubset (set_in c) (own_bound t i)) is (message_known g t h m was_sent)

  asked_known : (v : Bool) → AllIn (IsCountWithin own_bound t i) (cond v (counted t i r) [])
  asked_known true = counted_known g t h i r
  asked_known false = tt

  reply_fits : (reply : Reply) → m.body ≡ body_of reply → Fits (proposer_state g t i r) reply
  unfolding proposer_state
  reply_fits replied.Yes is id c = c
  reply_fits (replied.No s) is id (inl (inl c)) =
      no_clash last.updates s (own_bound t i) (round_known g t h i r) (body_known (No s) is) id c
  reply_fits (replied.No s) is id (inl (inr c)) = no_unknown s (body_known (No s) is) id c.0 c.1 c.2
  reply_fits (replied.No s) is id (inr c) =
      no_clash_in (own_bound t i) s (cond (is_open t i r) (counted t i r) []) (body_known (No s) is)
      (asked_known (is_open t i r)) id c

  pub offer_fits : (s : Histories) → m.body ≡ Offer s → IsCompatible (accepted_there t i r) s
  offer_fits s is =
      compatible-within (accepted_there t i r) s (own_bound t i) (h.within.acceptor i r) (body_known (Offer s) is)

  -- ## Ballots' numbers

  module _ (most : ℕ) (caps : (q : ℕ) → length (submitted_ops t i q) ≤ most) where
    -- a refusal that counts in the last ballot has more than that ballot
    refined_more : (reply : Reply) → m.body ≡ body_of reply → counts_reply t m ≡ true
        → verdict g.votes (heard t m reply) ≡ Refines
        → total last.updates < total (joined_with_refusals last.updates (heard t m reply))
    refined_more reply is heeded refines =
        let cs = heard t m reply in
        let larger =
        all_larger t i r (h.quorum.numbered i r) (counts_is t m heeded).0 cs
        (heard_justified t m reply is heeded (stands g t h m was_sent) (h.quorum.backed i r last.ballot)) in
        total_strict last.updates (joined_with_refusals last.updates cs) (refused_contains last.updates cs)
        (refused_larger last.updates last.updates (own_bound t i) cs (round_known g t h i r)
        (heard_within own_bound g t h.within m reply is (message_known g t h m was_sent)) larger
        (refines_some g.votes cs refines))

    number_left : r < 8 → (reply : Reply) → m.body ≡ body_of reply
        → proposer.counts (proposer_state g t i r) m.from m.ballot ≡ true
        → opens_by (with_reply (proposer_state g t i r) m.from reply)
        (verdict g.votes (with_reply (proposer_state g t i r) m.from reply).tally) ≡ true → last.ballot < 8 * most
    number_left lt reply is asked opens =
        let heeded : counts_reply t m ≡ true = sym (same_counts g t 0 m reply is h was_sent) ∙ asked in
        go heeded (verdict g.votes (tally_then g t 0 m reply is h was_sent)) refl
        (sym
        (ap (λ p. opens_by (with_reply p m.from reply) (verdict g.votes (with_reply p m.from reply).tally))
        (before g t 0 m reply is h was_sent heeded)) ∙ opens)
      where
        go : (heeded : counts_reply t m ≡ true) (w : Verdict) → verdict g.votes (tally_then g t 0 m reply is h was_sent) ≡ w
            → opens_by (with_new g t 0 m reply is h was_sent heeded)
            (verdict g.votes (tally_then g t 0 m reply is h was_sent)) ≡ true → last.ballot < 8 * most
        go heeded Waits e o =
            absurd (true≢false (sym o ∙ ap (opens_by (with_new g t 0 m reply is h was_sent heeded)) e))
        go heeded Refines e o =
            let a = refined_more reply is heeded e in
            let b =
            total_known g t h i most caps (joined_with_refusals last.updates (heard t m reply))
            (refined_within g t 0 m reply is h was_sent heeded) in
            let c = size g t h i r in
            omega arith
        go heeded Learns e o =
            let some : not (is_nothing (waits g t 0 m reply is h was_sent heeded)) ≡ true =
            sym (ap (opens_by (with_new g t 0 m reply is h was_sent heeded)) e) ∙ o in
            let z =
            something_length (waits g t 0 m reply is h was_sent heeded)
            (not-true (is_nothing (waits g t 0 m reply is h was_sent heeded)) some) in
            let c = caps r in
            last_below g t h i most caps r lt (omega (arith, length-drop (count last.updates r) (submitted_ops t i r)))

    -- ## Refusals

    module _ (between : IsBetween g m) (few : replicas g ≤ 8) (small : most ≤ 1000000) where
      -- a reply that counts leaves a number for the ballot that it opens
      reply_spares : (reply : Reply) → m.body ≡ body_of reply
          → proposer.counts (proposer_state g t i r) m.from m.ballot ≡ true
          → ¬ ReplySpends (with_reply (proposer_state g t i r) m.from reply)
      unfolding proposer_state
      reply_spares reply is asked w =
          let lt = between.to in
          let l = number_left (omega arith) reply is asked w.0 in let k = w.1 in absurd (omega arith)

      hearing_refusal : (reply : Reply) → m.body ≡ body_of reply → (e : ReplicaError)
          → IsHearingRefusal (proposer_state g t i r) m reply e → e ≡ Memory
      unfolding proposer_state
      hearing_refusal reply is (Clash id) w = absurd (reply_fits reply is id w.1.0)
      hearing_refusal reply is BallotsSpent w = absurd (reply_spares reply is w.0 w.2)
      hearing_refusal reply is Memory w = refl
      hearing_refusal reply is NoSuchReplica w = absurd w
      hearing_refusal reply is NoSuchInstance w = absurd w
      hearing_refusal reply is Full w = absurd w
      hearing_refusal reply is NoBase w = absurd w
      hearing_refusal reply is Gap w = absurd w

      body_refusal : (b : Body) → m.body ≡ b → (e : ReplicaError) → IsBodyRefusal (instance_of g t r i) (trace_view t r) m b e
          → e ≡ Memory
      unfolding instance_of
      body_refusal (Offer s) is (Clash id) w =
          absurd
          (no_clash (accepted_there t i r) s (own_bound t i) (h.within.acceptor i r) (body_known (Offer s) is) id w.clashes)
      body_refusal (Offer s) is BallotsSpent w = absurd w
      body_refusal (Offer s) is Memory w = refl
      body_refusal (Offer s) is NoSuchReplica w = absurd w
      body_refusal (Offer s) is NoSuchInstance w = absurd w
      body_refusal (Offer s) is Full w = absurd w
      body_refusal (Offer s) is NoBase w = absurd w
      body_refusal (Offer s) is Gap w = absurd w
      body_refusal Yes is e w = hearing_refusal replied.Yes is e w
      body_refusal (No s) is e w = hearing_refusal (replied.No s) is e w
      body_refusal (Tell s) is (Clash id) w = absurd w
      body_refusal (Tell s) is BallotsSpent w = absurd w
      body_refusal (Tell s) is Memory w = refl
      body_refusal (Tell s) is NoSuchReplica w = absurd w
      body_refusal (Tell s) is NoSuchInstance w = absurd w
      body_refusal (Tell s) is Full w = absurd w
      body_refusal (Tell s) is NoBase w = absurd w
      body_refusal (Tell s) is Gap w = absurd w

      there : (e : ReplicaError)
          → IsSomeAnd (slice_get (replica_state g t r).instances i)
          (λ x. IsBodyRefusal x (replica_state g t r).view m m.body e)
          → IsBodyRefusal (instance_of g t r i) (trace_view t r) m m.body e
      unfolding replica_state
      there e w =
          subst (λ o. IsSomeAnd o (λ x. IsBodyRefusal x (trace_view t r) m m.body e)) (get_instance g t r i between.instance) w

      pub message_refusal : (e : ReplicaError) → IsReceiveRefusal (replica_state g t r) m e → e ≡ Memory
      unfolding replica_state
      message_refusal NoSuchReplica (inl le) = let l = between.from in absurd (omega arith)
      message_refusal NoSuchReplica (inr ne) = absurd (ne refl)
      message_refusal NoSuchInstance w =
          let lt = between.instance in
          let le = w.1 in absurd (omega (arith, length-map-range_with_len (instance_of g t r) 0 (instances g)))
      message_refusal Full w = body_refusal m.body refl Full (there Full w.1)
      message_refusal NoBase w = body_refusal m.body refl NoBase (there NoBase w.1)
      message_refusal Gap w = body_refusal m.body refl Gap (there Gap w.1)
      message_refusal (Clash id) w = body_refusal m.body refl (Clash id) (there (Clash id) w.1)
      message_refusal BallotsSpent w = body_refusal m.body refl BallotsSpent (there BallotsSpent w.1)
      message_refusal Memory w = refl

      -- ## What the receiver's step takes for granted

      body_fits : (b : Body) → m.body ≡ b → FitsBody (instance_of g t r i) m b
      unfolding instance_of
      body_fits (Offer s) is = offer_fits s is
      body_fits Yes is = tt
      body_fits (No s) is = λ c. reply_fits (replied.No s) is
      body_fits (Tell s) is = tt

      body_spares : (b : Body) → m.body ≡ b → SparesBody (instance_of g t r i) m b
      unfolding instance_of
      body_spares (Offer s) is = tt
      body_spares Yes is = λ c. reply_spares replied.Yes is c
      body_spares (No s) is = λ c. reply_spares (replied.No s) is c
      body_spares (Tell s) is = tt

      here : (P : Instance → Type 0) → P (instance_of g t r i)
          → IsSomeAnd (slice_get (replica_state g t r).instances i) P
      here P p = subst (λ o. IsSomeAnd o P) (sym (get_instance g t r i between.instance)) p

      -- the view lies in what is known, and so does each set that may become it
      view_fits : IsSubset (trace_view t r) (own_bound t 0) → (body : Body) → m.body ≡ body
          → FitsViewBody (instance_of g t r i) (trace_view t r) m body
      unfolding proposer_state instance_of
      view_fits seen (Offer s) is = tt
      view_fits seen Yes is =
          λ e.
          compatible-within (trace_view t r) last.updates (own_bound t 0) seen
          (subst (λ j. IsSubset last.updates (own_bound t j)) e (round_known g t h i r))
      view_fits seen (No s) is =
          λ e.
          compatible-within (trace_view t r) last.updates (own_bound t 0) seen
          (subst (λ j. IsSubset last.updates (own_bound t j)) e (round_known g t h i r))
      view_fits seen (Tell s) is =
          λ e.
          compatible-within (trace_view t r) s (own_bound t 0) seen
          (subst (λ j. IsSubset s (own_bound t j)) e (body_known (Tell s) is))

      pub message_fits : IsSubset (trace_view t r) (own_bound t 0) → FitsReceiver (replica_state g t r) m
      unfolding replica_state proposer_state instance_of
      message_fits seen = record {
        receivable = ((between.from, refl), here (λ x. FitsBody x m m.body) (body_fits m.body refl));
        spares = here (λ x. SparesBody x m m.body) (body_spares m.body refl);
        view = here (λ x. FitsViewBody x (trace_view t r) m m.body) (view_fits seen m.body refl);
      }

-- ## Every legal list

-- a group's caps are small
pub cap_small : (g : Group) (i : ℕ) → g.cap ≤ 1000000 → cap_of g i ≤ 1000000
cap_small g i small = cond_both (i == 0) g.cap 1 (λ n. n ≤ 1000000) (λ e. small) (λ e. omega arith)

pub delivery_fits : (g : Group) (events : Past) (k : ℕ) (m : Message) → replicas g ≤ 8 → g.cap ≤ 1000000 → IsLegalTrace g events → let t = trace g events in slice_get (sent (replicas g) t) k ≡ Some m
    → FitsReceiver (replica_state g t m.to) m
    × ((e : ReplicaError) → IsReceiveRefusal (replica_state g t m.to) m e → e ≡ Memory)
delivery_fits g events k m few small legal is =
    let t = trace g events in
    let h = holds g events in
    let was_sent = IsIn_get (sent (replicas g) t) k m is in
    let between = legal_between g events legal k m is in
    let caps = submitted_most g events legal m.instance in
    let low = cap_small g m.instance small in (
      message_fits g t m h was_sent (cap_of g m.instance) caps between few low (view_known g events m.to),
      message_refusal g t m h was_sent (cap_of g m.instance) caps between few low,
    )

-- what the proposer counts as submitted
pub submitted_is : (g : Group) (t : Trace) (i r : ℕ) → Holds g t
    → proposer.submitted (proposer_state g t i r) ≡ length (submitted_ops t i r)
unfolding proposer_state
submitted_is g t i r h =
    let le = own_count g t h i r in omega (arith, length-drop (count (round t i r).updates r) (submitted_ops t i r))

-- a submission is refused where the cap is reached, and else for want of memory alone
abbrev pub IsSubmittersRefusal : (cap : ℕ) → (all : List ObjectOp) → ReplicaError → Type 0
IsSubmittersRefusal cap all e = ((e ≡ Full) × (cap ≤ length all)) ⊎ ((e ≡ Memory) × (length all < cap))

module _ (g : Group) (t : Trace) (r i : ℕ) (h : Holds g t) (caps : (q : ℕ) → length (submitted_ops t i q) ≤ cap_of g i)
    (known_replica : r < 8) (there : i < instances g) (small : cap_of g i ≤ 1000000) where
  -- within the cap no ballot is spent
  pub spares : length (submitted_ops t i r) < cap_of g i → ¬ SubmissionSpends (proposer_state g t i r)
  unfolding proposer_state
  spares room spends =
      let le = own_count g t h i r in
      let l = last_below g t h i (cap_of g i) caps r known_replica (omega arith) in
      let spent = spends.1 in
      absurd (omega arith)

  proposers_refusal : (e : ReplicaError) → IsSubmissionRefusal (proposer_state g t i r) e
      → IsSubmittersRefusal (cap_of g i) (submitted_ops t i r) e
  unfolding proposer_state
  proposers_refusal Full w = inl (refl, subst (λ z. cap_of g i ≤ z) (submitted_is g t i r h) w)
  proposers_refusal Memory w = inr (refl, subst (λ z. z < cap_of g i) (submitted_is g t i r h) w.0)
  proposers_refusal BallotsSpent w = absurd (spares (subst (λ z. z < cap_of g i) (submitted_is g t i r h) w.0) w.1)
  proposers_refusal NoSuchReplica w = absurd w
  proposers_refusal NoSuchInstance w = absurd w
  proposers_refusal NoBase w = absurd w
  proposers_refusal Gap w = absurd w
  proposers_refusal (Clash id) w = absurd w

  proposer_there : (e : ReplicaError)
      → IsSomeAnd (slice_get (replica_state g t r).instances i) (λ x. IsSubmissionRefusal x.proposer e)
      → IsSubmittersRefusal (cap_of g i) (submitted_ops t i r) e
  unfolding instance_of
  proposer_there e w =
      proposers_refusal e
      (subst (λ o. IsSomeAnd o (λ x. IsSubmissionRefusal x.proposer e)) (get_instance g t r i there) w)

  submitters_refusal : (e : ReplicaError) → IsSubmitRefusal (replica_state g t r) i e
      → IsSubmittersRefusal (cap_of g i) (submitted_ops t i r) e
  unfolding replica_state
  submitters_refusal NoSuchInstance w =
      absurd (omega (arith, there, w, length-map-range_with_len (instance_of g t r) 0 (instances g)))
  submitters_refusal Full w = proposer_there Full w
  submitters_refusal Memory w = proposer_there Memory w
  submitters_refusal BallotsSpent w = proposer_there BallotsSpent w
  submitters_refusal NoSuchReplica w = proposer_there NoSuchReplica w
  submitters_refusal NoBase w = proposer_there NoBase w
  submitters_refusal Gap w = proposer_there Gap w
  submitters_refusal (Clash id) w = proposer_there (Clash id) w

pub submission_refusal : SubmissionsFit
submission_refusal g events r i few small legal in_group there =
    submitters_refusal g (trace g events) r i (holds g events) (submitted_most g events legal i) (omega arith) there
    (cap_small g i small)
