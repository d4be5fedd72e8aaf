-- Messages that say the same are received alike, whatever their deltas were made of.
use Rattle.std.proofs.Common.{◌≡◌, ℕ, Bool, true, false, slice_get, Option, Some, None, option_map, unwrap_or, refl, ap, ◌∙◌}
use Rattle.la_set.specs.Histories.{Histories}
use Rattle.la_set.specs.Counts.{within}
use Rattle.la_set.specs.Deltas.{DeltaState, pushed, rebuilt}
use Rattle.la_proposer.specs.ProposerState.{counts}
use Rattle.la_replica.specs.declared.instance.Instance.{Instance}
use Rattle.la_replica.specs.declared.message.Message as code
use Rattle.la_replica.specs.declared.message.Body as code_body
use Rattle.la_replica.specs.declared.message.Body.TheVariants as body
use Rattle.la_replica.specs.Alike.{AreAlikeDeltas, AreAlikeBodies, AreAlike}
use Rattle.la_replica.specs.Whole.{Body, Offer, No, Tell}
use Rattle.la_replica.specs.ReplicaState.{ReplicaState}
use Rattle.la_replica.specs.Received.{told_in_body, refusal_over, rebuilt_of, with_set, with_refused, received_in}

bodies_refl : (b : code_body.Body) → AreAlikeBodies b b
bodies_refl (body.Offer d) = (refl, refl)
bodies_refl body.Yes = tt
bodies_refl (body.No d) = (refl, refl)
bodies_refl (body.Tell told) = refl

pub alike_refl : (m : code.Message) → AreAlike m m
alike_refl m = record { instance = refl; from = refl; to = refl; ballot = refl; body = bodies_refl m.body }

bodies_trans : (a b c : code_body.Body) → AreAlikeBodies a b → AreAlikeBodies b c → AreAlikeBodies a c
bodies_trans (body.Offer d) (body.Offer e) (body.Offer f) p q = (p.0 ∙ q.0, p.1 ∙ q.1)
bodies_trans body.Yes body.Yes body.Yes p q = tt
bodies_trans (body.No d) (body.No e) (body.No f) p q = (p.0 ∙ q.0, p.1 ∙ q.1)
bodies_trans (body.Tell s) (body.Tell t) (body.Tell u) p q = p ∙ q
bodies_trans (body.Offer d) (body.Offer e) body.Yes p q = absurd q
bodies_trans (body.Offer d) (body.Offer e) (body.No f) p q = absurd q
bodies_trans (body.Offer d) (body.Offer e) (body.Tell u) p q = absurd q
bodies_trans (body.Offer d) body.Yes c p q = absurd p
bodies_trans (body.Offer d) (body.No e) c p q = absurd p
bodies_trans (body.Offer d) (body.Tell t) c p q = absurd p
bodies_trans body.Yes (body.Offer e) c p q = absurd p
bodies_trans body.Yes body.Yes (body.Offer f) p q = absurd q
bodies_trans body.Yes body.Yes (body.No f) p q = absurd q
bodies_trans body.Yes body.Yes (body.Tell u) p q = absurd q
bodies_trans body.Yes (body.No e) c p q = absurd p
bodies_trans body.Yes (body.Tell t) c p q = absurd p
bodies_trans (body.No d) (body.Offer e) c p q = absurd p
bodies_trans (body.No d) body.Yes c p q = absurd p
bodies_trans (body.No d) (body.No e) (body.Offer f) p q = absurd q
bodies_trans (body.No d) (body.No e) body.Yes p q = absurd q
bodies_trans (body.No d) (body.No e) (body.Tell u) p q = absurd q
bodies_trans (body.No d) (body.Tell t) c p q = absurd p
bodies_trans (body.Tell s) (body.Offer e) c p q = absurd p
bodies_trans (body.Tell s) body.Yes c p q = absurd p
bodies_trans (body.Tell s) (body.No e) c p q = absurd p
bodies_trans (body.Tell s) (body.Tell t) (body.Offer f) p q = absurd q
bodies_trans (body.Tell s) (body.Tell t) body.Yes p q = absurd q
bodies_trans (body.Tell s) (body.Tell t) (body.No f) p q = absurd q

pub alike_trans : (a b c : code.Message) → AreAlike a b → AreAlike b c → AreAlike a c
alike_trans a b c p q = record {
  instance = p.instance ∙ q.instance;
  from = p.from ∙ q.from;
  to = p.to ∙ q.to;
  ballot = p.ballot ∙ q.ballot;
  body = bodies_trans a.body b.body c.body p.body q.body;
}

rebuilt_alike : (s : Histories) (d e : DeltaState) → AreAlikeDeltas d e → rebuilt s d ≡ rebuilt s e
rebuilt_alike s d e h = λ i. pushed (within s (h.0 i)) (h.1 i)

module _ (x : Instance) (from ballot : ℕ) where
  abbrev received_body : code_body.Body → Body
  received_body b = with_set (option_map rebuilt_of (told_in_body x from ballot b)) b

  body_alike : (b c : code_body.Body) → AreAlikeBodies b c → received_body b ≡ received_body c
  body_alike (body.Offer d) (body.Offer e) h = ap Offer (rebuilt_alike x.acceptor d e h)
  body_alike body.Yes body.Yes h = refl
  body_alike (body.No d) (body.No e) h = go (counts x.proposer from ballot)
    where
      go : (v : Bool)
          → with_refused (option_map rebuilt_of (refusal_over v x.proposer.updates d))
          ≡ with_refused (option_map rebuilt_of (refusal_over v x.proposer.updates e))
      go true = ap No (rebuilt_alike x.proposer.updates d e h)
      go false = refl
  body_alike (body.Tell s) (body.Tell t) h = ap Tell h
  body_alike (body.Offer d) body.Yes h = absurd h
  body_alike (body.Offer d) (body.No e) h = absurd h
  body_alike (body.Offer d) (body.Tell t) h = absurd h
  body_alike body.Yes (body.Offer e) h = absurd h
  body_alike body.Yes (body.No e) h = absurd h
  body_alike body.Yes (body.Tell t) h = absurd h
  body_alike (body.No d) (body.Offer e) h = absurd h
  body_alike (body.No d) body.Yes h = absurd h
  body_alike (body.No d) (body.Tell t) h = absurd h
  body_alike (body.Tell s) (body.Offer e) h = absurd h
  body_alike (body.Tell s) body.Yes h = absurd h
  body_alike (body.Tell s) (body.No e) h = absurd h

nothing_alike : (b c : code_body.Body) → AreAlikeBodies b c → with_set None b ≡ with_set None c
nothing_alike (body.Offer d) (body.Offer e) h = refl
nothing_alike body.Yes body.Yes h = refl
nothing_alike (body.No d) (body.No e) h = refl
nothing_alike (body.Tell s) (body.Tell t) h = ap Tell h
nothing_alike (body.Offer d) body.Yes h = absurd h
nothing_alike (body.Offer d) (body.No e) h = absurd h
nothing_alike (body.Offer d) (body.Tell t) h = absurd h
nothing_alike body.Yes (body.Offer e) h = absurd h
nothing_alike body.Yes (body.No e) h = absurd h
nothing_alike body.Yes (body.Tell t) h = absurd h
nothing_alike (body.No d) (body.Offer e) h = absurd h
nothing_alike (body.No d) body.Yes h = absurd h
nothing_alike (body.No d) (body.Tell t) h = absurd h
nothing_alike (body.Tell s) (body.Offer e) h = absurd h
nothing_alike (body.Tell s) body.Yes h = absurd h
nothing_alike (body.Tell s) (body.No e) h = absurd h

pub alike_received : (r : ReplicaState) (m n : code.Message) → AreAlike m n → received_in r m ≡ received_in r n
alike_received r m n h =
    λ i. record { instance = h.instance i; from = h.from i; to = h.to i; ballot = h.ballot i; body = bodies i }
  where
    here : (o : Option Instance)
        → with_set (unwrap_or (option_map (λ x. option_map rebuilt_of (told_in_body x m.from m.ballot m.body)) o) None)
        m.body
        ≡ with_set
        (unwrap_or (option_map (λ x. option_map rebuilt_of (told_in_body x m.from m.ballot n.body)) o) None)
        n.body
    here None = nothing_alike m.body n.body h.body
    here (Some x) = body_alike x m.from m.ballot m.body n.body h.body

    bodies : (received_in r m).body ≡ (received_in r n).body
    bodies = here (slice_get r.instances m.instance)
        ∙ (λ i.
        with_set
        (unwrap_or
        (option_map (λ x. option_map rebuilt_of (told_in_body x (h.from i) (h.ballot i) n.body))
        (slice_get r.instances (h.instance i))) None) n.body)
