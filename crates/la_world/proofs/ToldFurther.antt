-- A message that is told over a base of its set is over one of that set's bases also when it is told further,
-- whatever is known of its receiver. All that was sent is told so, and all that is sent again.
use Rattle.std.proofs.Common.{◌≡◌, ℕ, ◌≤◌, max, min, List, slice_get, Contains, Option, Some, None, IsSomeAnd, refl}
use Rattle.std.proofs.Common.{sym, ap, subst, ◌∙◌, inr, arith}
use Rattle.std.proofs.lemmas.List.Elements.{All-contains}
use Rattle.la_set.specs.declared.counts.Counts.{Counts}
use Rattle.la_set.specs.Histories.{Histories, count, IsWithinLimit}
use Rattle.la_set.specs.Counts.{count_in, counts_of, zero_counts, HasCounts}
use Rattle.la_set.specs.Deltas.{further_base}
use Rattle.la_set.proofs.lemmas.Counting.{HasCounts-known, count_in-from_counts}
use Rattle.la_proposer.specs.ProposerState.{reported}
use Rattle.la_replica.specs.declared.instance.Instance.{Instance}
use Rattle.la_replica.specs.declared.message.Message as code
use Rattle.la_replica.specs.declared.message.Body as code_body
use Rattle.la_replica.specs.declared.message.Body.TheVariants as body
use Rattle.la_replica.specs.Again.{again}
use Rattle.la_replica.specs.Alike.{AreAlike}
use Rattle.la_replica.specs.Bases.{smaller, IsToldBody, IsToldIn, AreToldIn}
use Rattle.la_replica.specs.Rebased.{rebased_body, rebased_message, MayBeOver}
use Rattle.la_replica.specs.Rebased.{further_body, further_counts, told_further}
use Rattle.la_replica.specs.ReplicaState.{ReplicaState}
use Rattle.la_replica.specs.Stored.{IsMadeBody, IsMade}
use Rattle.la_replica.specs.Whole.{Message, Body, Offer, Yes, No, Tell, set_of, whole_body, whole_of, whole_mail}
use Rattle.la_replica.proofs.lemmas.Alike.{alike_refl}
use Rattle.la_node.specs.declared.config.Config.{Config}
use Rattle.la_node.specs.declared.link.Links.{Links}
use Rattle.la_node.specs.Calls.{NodeCall}
use Rattle.la_node.specs.Links.{believed_of, told_on}
use Rattle.la_node.specs.Telling.{told_body}
use Rattle.la_world.specs.Events.{Past}
use Rattle.la_world.specs.Groups.{Group, replicas}
use Rattle.la_world.specs.LiveGroups.{LiveGroup, Reaches, StandsForEvents, AreEventsOf, live_group_of}
use Rattle.la_world.specs.LiveParcels.{mail_on}
use Rattle.la_world.specs.Playing.{trace}
use Rattle.la_world.specs.Rebased.{TellsAs, AreRetold}
use Rattle.la_world.specs.ReplicaStates.{replica_state}
use Rattle.la_world.specs.Sent.{sent}
use Rattle.la_world.specs.StandsFor.{IsLegalTrace}
use Rattle.la_world.specs.Told.{told_messages, StandsBody}
use Rattle.la_world.specs.Trace.{Trace}
use Rattle.la_world.proofs.Delivered.{known, within_limit}
use Rattle.la_world.proofs.lemmas.Letters.{mapped_from, mapped_has}
use Rattle.la_world.proofs.Lists.{AllIn_at, IsIn_get, IsIn_place, contains_IsIn}
use Rattle.la_world.proofs.LiveGroups.{groups_stand, is_state}
use Rattle.la_world.proofs.Repeats.{repeats_sent}
use Rattle.la_world.proofs.Tellings.{smaller_right, told_carries, told_are_made, told_messages_stand}
use Rattle.la_world.proofs.Within.{set_in}

-- ## Over a base of its set

pub record IsToldOver (c : code_body.Body) : Type 0 where
  pub base : Counts
  pub has : HasCounts (set_in (whole_body c)) base
  pub is : c ≡ told_body base (whole_body c)

no_counts : (s : Histories) → HasCounts s zero_counts
no_counts s = HasCounts-known s zero_counts (λ r lt. omega (arith, count_in-from_counts (λ q. 0) r lt))

further_has : (s : Histories) (base c : Counts) → HasCounts s base → HasCounts s (further_base s base c)
further_has s base c has =
    HasCounts-known s (further_base s base c)
    (λ r lt.
    omega (
      arith,
      has r,
      count_in-from_counts (λ q. max (count_in base q) (min (count_in c q) (count s q))) r lt,
    ))

-- told further it is told over another base
record IsFurther (c base : Counts) (b : Body) : Type 0 where
  further : Counts
  has : HasCounts (set_in b) further
  is : further_body c (told_body base b) ≡ told_body further b

body_further : (c base : Counts) (b : Body) → HasCounts (set_in b) base → IsFurther c base b
body_further c base (Offer s) has =
    record { further = further_base s base c; has = further_has s base c has; is = refl }
body_further c base Yes has = record { further = base; has = has; is = refl }
body_further c base (No s) has = record { further = base; has = has; is = refl }
body_further c base (Tell s) has = record { further = base; has = has; is = refl }

may_over : (b : Counts) (c : code_body.Body) → HasCounts (set_in (whole_body c)) b
    → IsWithinLimit (set_in (whole_body c)) → MayBeOver b c
may_over b (body.Offer d) has few = record { has = has; few = few }
may_over b body.Yes has few = tt
may_over b (body.No d) has few = record { has = has; few = few }
may_over b (body.Tell told) has few = tt

rebased_told : (b : Counts) (c : code_body.Body) → rebased_body b c ≡ told_body b (whole_body c)
rebased_told b (body.Offer d) = refl
rebased_told b body.Yes = refl
rebased_told b (body.No d) = refl
rebased_told b (body.Tell told) = refl

-- a message that says the same as another one, told further, tells as that one
tells_further : (c : Counts) (m n : code.Message) → IsToldOver m.body → whole_of m ≡ whole_of n
    → IsWithinLimit (set_in (whole_body n.body)) → TellsAs (told_further c m) n
tells_further c m n told same few =
    let f = body_further (further_counts c m.instance) told.base (whole_body m.body) told.has in
    let body_same : whole_body m.body ≡ whole_body n.body = ap (λ (w : Message). w.body) same in
    let bodies : (told_further c m).body ≡ rebased_body f.further n.body =
    ap (further_body (further_counts c m.instance)) told.is ∙ f.is ∙ ap (told_body f.further) body_same
    ∙ sym (rebased_told f.further n.body) in
    let is : told_further c m ≡ rebased_message f.further n =
    λ j.
    record {
      instance = (same j).instance;
      from = (same j).from;
      to = (same j).to;
      ballot = (same j).ballot;
      body = bodies j;
    } in
    inr (
      f.further,
      may_over f.further n.body (subst (λ w. HasCounts (set_in w) f.further) body_same f.has) few,
      subst (λ k. AreAlike k (rebased_message f.further n)) (sym is) (alike_refl (rebased_message f.further n)),
    )

-- ## What is told so

-- what was sent
module _ (g : Group) (events : Past) (legal : IsLegalTrace g events) (small : g.cap ≤ 1000000) (k : ℕ)
    (m : code.Message) (stored : slice_get (told_messages (replicas g) (trace g events)) k ≡ Some m) where
  sent_body : (c : code_body.Body) → StandsBody (trace g events) m c → IsMadeBody c → IsToldOver c
  sent_body (body.Offer d) stands made = record { base = d.base; has = stands.0; is = ap body.Offer made }
  sent_body body.Yes stands made =
      record { base = zero_counts; has = no_counts (set_in (whole_body body.Yes)); is = refl }
  sent_body (body.No d) stands made = record { base = d.base; has = stands.0; is = ap body.No made }
  sent_body (body.Tell told) stands made = record { base = zero_counts; has = no_counts told; is = refl }

  sent_told : IsToldOver m.body
  sent_told =
      sent_body m.body (told_messages_stand g events k m stored)
      (AllIn_at IsMade (told_messages (replicas g) (trace g events)) m (told_are_made g events)
      (IsIn_get (told_messages (replicas g) (trace g events)) k m stored))

  sent_few : IsWithinLimit (set_in (whole_body m.body))
  sent_few =
      within_limit g events legal small k m stored (set_in (whole_body m.body))
      (known g events legal small k m stored m.body refl)

-- what is sent again
again_body : (reported : Counts) (c : code_body.Body) → IsToldBody reported zero_counts c → IsToldOver c
again_body reported (body.Offer d) told = record {
  base = smaller reported (counts_of (set_of d));
  has = smaller_right reported (set_of d);
  is = ap body.Offer told;
}
again_body reported body.Yes told =
    record { base = zero_counts; has = no_counts (set_in (whole_body body.Yes)); is = refl }
again_body reported (body.No d) told =
    record { base = zero_counts; has = no_counts (set_of d); is = ap body.No told }
again_body reported (body.Tell set) told = record { base = zero_counts; has = no_counts set; is = refl }

again_told : (q : ReplicaState) (m : code.Message) → IsToldIn q zero_counts m → IsToldOver m.body
again_told q m told = go (slice_get q.instances m.instance) told
  where
    go : (o : Option Instance) → IsSomeAnd o (λ x. IsToldBody (reported x.proposer m.to) zero_counts m.body)
        → IsToldOver m.body
    go None h = absurd h
    go (Some x) h = again_body (reported x.proposer m.to) m.body h

-- ## Letters of a live group

mail_retold : (links : Links) (mail sent : List code.Message)
    → ((m : code.Message) → Contains mail m → (n : code.Message) × Contains sent n × TellsAs (told_on links m) n)
    → AreRetold (mail_on links mail) sent
mail_retold links mail sent each k has =
    let m = mapped_from (told_on links) mail k has in
    let n = each m.0 m.1 in
    (n.0, n.1, subst (λ z. TellsAs z n.0) m.2 n.2)

module _ (c : Config) (calls : List (ℕ × NodeCall)) (group : LiveGroup) (reached : Reaches c calls group)
    (links : Links) where
  abbrev g : Group
  g = live_group_of c

  abbrev stood : (events : Past) × StandsForEvents c group events × AreEventsOf calls events
  stood = groups_stand c calls group reached

  abbrev events : Past
  events = stood.0

  abbrev t : Trace
  t = trace g events

  abbrev stands : StandsForEvents c group events
  stands = stood.1

  abbrev told : List code.Message
  told = told_messages (replicas g) t

  abbrev place : (n : code.Message) → Contains group.sent n → (k : ℕ) × (slice_get told k ≡ Some n)
  place n has = IsIn_place told n (contains_IsIn told n (subst (λ ms. Contains ms n) stands.told has))

  -- a message that says the same as one that was sent
  tells_sent : (m n : code.Message) → Contains group.sent n → IsToldOver m.body → whole_of m ≡ whole_of n
      → TellsAs (told_on links m) n
  tells_sent m n has over same =
      let at = place n has in
      tells_further (believed_of links m.to).accepted m n over same
      (sent_few g events stands.led.legal stands.config.group.cap_most at.0 n at.1)

  pub sent_retold : (mail : List code.Message) → ((m : code.Message) → Contains mail m → Contains group.sent m)
      → AreRetold (mail_on links mail) group.sent
  sent_retold mail were = mail_retold links mail group.sent (λ m has.
      let at = place m (were m has) in (
        m,
        were m has,
        tells_sent m m (were m has)
            (sent_told g events stands.led.legal stands.config.group.cap_most at.0 m at.1) refl,
      ))

  module _ (r : ℕ) (q : ReplicaState) (at : slice_get group.replicas r ≡ Some q) (mail : List code.Message)
      (whole : whole_mail mail ≡ again q) (are : AreToldIn q zero_counts mail) where
    -- what is sent again says what one that was sent says
    was_sent : (m : code.Message) → Contains mail m
        → (n : code.Message) × Contains group.sent n × (whole_of m ≡ whole_of n)
    was_sent m has =
        let repeated : Contains (again (replica_state g t r)) (whole_of m) =
        subst (λ ms. Contains ms (whole_of m)) (whole ∙ ap again (is_state c group events stands r q at))
        (mapped_has whole_of mail m has) in
        let before : Contains (whole_mail told) (whole_of m) =
        subst (λ ms. Contains ms (whole_of m)) (sym (told_carries (replicas g) t))
        (repeats_sent g events r (whole_of m) repeated) in
        let n = mapped_from whole_of told (whole_of m) before in
        (n.0, subst (λ ms. Contains ms n.0) (sym stands.told) n.1, sym n.2)

    -- so it is of all of it, and of some
    pub again_retold : (some : List code.Message) → ((m : code.Message) → Contains some m → Contains mail m)
        → AreRetold (mail_on links some) group.sent
    again_retold some among = mail_retold links some group.sent (λ m has.
        let n = was_sent m (among m has) in (
          n.0,
          n.1,
          tells_sent m n.0 n.1 (again_told q m (All-contains (IsToldIn q zero_counts) mail m are (among m has))) n.2,
        ))
