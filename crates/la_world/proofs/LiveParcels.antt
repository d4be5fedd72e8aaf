-- A parcel of a message on the network of live nodes is received as the message that was sent.
use Rattle.std.proofs.Common.{◌≡◌, ℕ, List, [], slice_get, Contains, Some, sym, ap, subst, ◌∙◌, inl, inr}
use Rattle.std.proofs.Math.Logic.{∥∥₁_map}
use Rattle.la_set.specs.declared.counts.Counts.{Counts}
use Rattle.la_set.specs.Join.{IsCompatible}
use Rattle.la_set.specs.Histories.{Histories, IsWithinLimit}
use Rattle.la_replica.specs.declared.message.Message as code
use Rattle.la_replica.specs.declared.message.Body as code_body
use Rattle.la_replica.specs.declared.message.Body.TheVariants as body
use Rattle.la_replica.specs.declared.parcel.Parcel.{Parcel}
use Rattle.la_replica.specs.Alike.{AreAlikeBodies, AreAlike}
use Rattle.la_replica.specs.Parcels.{AreAlikeParcels, wrapped, unwrapped, Unwraps, unwrapped_in, UnwrapsIn, view_of, IsOneTold, IsTellWithinLimit}
use Rattle.la_replica.specs.Rebased.{rebased_body}
use Rattle.la_replica.proofs.lemmas.Parcelling.{parcel_unwrapped, parcel_alike, parcel_alike_stands}
use Rattle.la_node.specs.Calls.{Received}
use Rattle.la_world.specs.Events.{Past}
use Rattle.la_world.specs.Groups.{Group, replicas}
use Rattle.la_world.specs.LiveGroups.{IsReached, StandsForEvents, AreEventsOf, live_group_of}
use Rattle.la_world.specs.LiveParcels.{ParcelReceiptsKeepLive}
use Rattle.la_node.specs.Nodes.{NodeState}
use Rattle.la_world.specs.Playing.{trace}
use Rattle.la_world.specs.Rebased.{TellsAs}
use Rattle.la_world.specs.ReplicaStates.{replica_state}
use Rattle.la_world.specs.Told.{told_messages}
use Rattle.la_world.proofs.Lists.{contains_IsIn, IsIn_place, get_mapped}
use Rattle.la_world.proofs.LiveGroups.{groups_stand, is_state, tells_to, tells_in, retold_of, one_more}
use Rattle.la_world.proofs.RebasedReceipts.{sent_one_told, sent_within_limit}
use Rattle.la_world.proofs.WorldSteps.{few_of}

-- ## What a message tells, however it is told anew

one_alike : (over : Histories) (c e : code_body.Body) → AreAlikeBodies c e → IsOneTold over e → IsOneTold over c
one_alike over (body.Offer d) (body.Offer e) h one = tt
one_alike over body.Yes body.Yes h one = tt
one_alike over (body.No d) (body.No e) h one = tt
one_alike over (body.Tell s) (body.Tell t) h one = subst (IsCompatible over) (sym h) one
one_alike over _ _ h one = absurd h

few_alike : (c e : code_body.Body) → AreAlikeBodies c e → IsTellWithinLimit e → IsTellWithinLimit c
few_alike (body.Offer d) (body.Offer e) h few = tt
few_alike body.Yes body.Yes h few = tt
few_alike (body.No d) (body.No e) h few = tt
few_alike (body.Tell s) (body.Tell t) h few = subst IsWithinLimit (sym h) few
few_alike _ _ h few = absurd h

one_over : (over : Histories) (b : Counts) (c : code_body.Body) → IsOneTold over c → IsOneTold over (rebased_body b c)
one_over over b (body.Offer d) one = one
one_over over b body.Yes one = one
one_over over b (body.No d) one = one
one_over over b (body.Tell t) one = one

few_over : (b : Counts) (c : code_body.Body) → IsTellWithinLimit c → IsTellWithinLimit (rebased_body b c)
few_over b (body.Offer d) few = few
few_over b body.Yes few = few
few_over b (body.No d) few = few
few_over b (body.Tell t) few = few

one_told : (over : Histories) (m n : code.Message) → TellsAs m n → IsOneTold over n.body → IsOneTold over m.body
one_told over m n (inl alike) one = one_alike over m.body n.body alike.body one
one_told over m n (inr (b, may, alike)) one =
    one_alike over m.body (rebased_body b n.body) alike.body (one_over over b n.body one)

few_told : (m n : code.Message) → TellsAs m n → IsTellWithinLimit n.body → IsTellWithinLimit m.body
few_told m n (inl alike) few = few_alike m.body n.body alike.body few
few_told m n (inr (b, may, alike)) few = few_alike m.body (rebased_body b n.body) alike.body (few_over b n.body few)

-- ## In a live group

module _ (nodes : List NodeState) (network : List code.Message) (is : IsReached nodes network) (r : ℕ)
    (node : NodeState) (at : slice_get nodes r ≡ Some node) (m : code.Message) (has : Contains network m) (to : m.to ≡ r)
  where
    abbrev n : code.Message
    n = (is.sent m has).0

    abbrev tells : TellsAs m n
    tells = (is.sent m has).2

    abbrev g : Group
    g = live_group_of is.config

    abbrev stood : (events : Past) × StandsForEvents is.config is.group events × AreEventsOf is.calls events
    stood = groups_stand is.config is.calls is.group is.reached

    abbrev events : Past
    events = stood.0

    abbrev stands : StandsForEvents is.config is.group events
    stands = stood.1

    abbrev stored : (place : ℕ) × (slice_get (told_messages (replicas g) (trace g events)) place ≡ Some n)
    stored =
        let told = told_messages (replicas g) (trace g events) in
        IsIn_place told n (contains_IsIn told n (subst (λ ms. Contains ms n) stands.told (is.sent m has).1))

    here_one : IsOneTold (view_of node.replica m.instance) m.body
    here_one =
        let found =
        ap (λ rs. slice_get rs r) is.replicas ∙ get_mapped (λ (z : NodeState). z.replica) nodes r node at in
        let same : replica_state g (trace g events) n.to ≡ node.replica =
        ap (replica_state g (trace g events)) (sym (tells_to m n tells) ∙ to)
        ∙ sym (is_state is.config is.group events stands r node.replica found) in
        let one =
        sent_one_told g events (few_of is.config [] stands.config) stands.config.group.cap_most stands.led.legal
        stored.0 n stored.1 in
        one_told (view_of node.replica m.instance) m n tells
        (subst (λ i. IsOneTold (view_of node.replica i) n.body) (sym (tells_in m n tells))
        (subst (λ q. IsOneTold (view_of q n.instance) n.body) same one))

    here_few : IsTellWithinLimit m.body
    here_few =
        few_told m n tells
        (sent_within_limit g events (few_of is.config [] stands.config) stands.config.group.cap_most stands.led.legal
        stored.0 n stored.1)

    pub parcel_is : (p : Parcel) (believed : Counts) → (alike : AreAlikeParcels p (wrapped believed m))
        → UnwrapsIn node.replica p → AreAlike (unwrapped_in node.replica p) m
    parcel_is p believed alike unwraps =
        let over = view_of node.replica m.instance in
        let k = unwrapped over p in
        let stands =
        parcel_alike_stands over p (wrapped believed m) alike
        (subst (λ i. Unwraps (view_of node.replica i) p.content) alike.instance unwraps) in
        subst (λ i. AreAlike (unwrapped (view_of node.replica i) p) m) (sym alike.instance)
        (subst (AreAlike k) (parcel_unwrapped over believed m stands here_one here_few)
        (parcel_alike over p (wrapped believed m) alike))

pub parcels_live : ParcelReceiptsKeepLive
parcels_live nodes network mail r node made p given live at (m, has, (believed, alike)) to unwraps does retold = ∥∥₁_map live (λ is.
    let k = unwrapped_in node.replica p in
    let same = parcel_is nodes network is r node at m has (sym alike.to ∙ to) p believed alike unwraps in
    one_more nodes network mail r node made (Received k) given is at (retold_of is.group.sent network is.sent k (m, has, same), to) does retold)
