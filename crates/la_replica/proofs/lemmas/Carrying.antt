-- A message whose delta stands at its receiver for the set that it was made of: it is received as what
-- was sent.
use Rattle.std.proofs.Common.{◌≡◌, ℕ, Bool, true, false, cond, slice_get, Option, Some, None, IsSomeAnd, IfSome, option_map, unwrap_or, refl, ap, sym, subst, ◌∙◌}
use Rattle.std.proofs.lemmas.Bool.{true≢false}
use Rattle.la_set.specs.Histories.{Histories}
use Rattle.la_acceptor.specs.declared.reply.Reply.{Reply}
use Rattle.la_acceptor.specs.declared.reply.Reply.TheVariants as replied
use Rattle.la_proposer.specs.ProposerState.{counts, heard_counting, after_counting, with_reply}
use Rattle.la_proposer.specs.declared.heard.Heard.TheVariants as heard
use Rattle.la_replica.specs.declared.instance.Instance.{Instance}
use Rattle.la_replica.specs.declared.message.Message as code
use Rattle.la_replica.specs.declared.message.Body as code_body
use Rattle.la_replica.specs.declared.message.Body.TheVariants as body
use Rattle.la_replica.specs.declared.sender.Sender.{Sender}
use Rattle.la_replica.specs.Whole.{Message, Body, Offer, No, whole_body, whole_of, set_of}
use Rattle.la_replica.specs.Received.{told_in_body, refusal_over, rebuilt_of, rebuilt_at, with_set, with_refused, received_in, IsCarried, IsCarriedIn}
use Rattle.la_replica.specs.Steps.{receives_body, hears, hears_as}
use Rattle.la_replica.specs.ReplicaState.{ReplicaState, sender_of, receives, after_step}
use Rattle.la_replica.specs.declared.error.ReplicaError.{ReplicaError}
use Rattle.la_replica.specs.declared.error.ReplicaError.TheVariants.{NoSuchReplica, NoSuchInstance, Full, NoBase, Gap, Clash, BallotsSpent, Memory}
use Rattle.la_replica.specs.Refusals.{FitsBody, SparesBody, IsHearingRefusal, IsBodyRefusal, IsReceiveRefusal}
use Rattle.la_replica.specs.Fitting.{FitsViewBody, FitsReceiver}
use Rattle.la_set.specs.Counts.{counts_of, zero_counts}
use Rattle.la_replica.specs.Bases.{offered_in, offered_by}

-- its body, where it is received
abbrev received_body : Instance → (from ballot : ℕ) → code_body.Body → Body
received_body x from ballot b = with_set (option_map rebuilt_of (told_in_body x from ballot b)) b

abbrev IsCarriedBody : Instance → (from ballot : ℕ) → code_body.Body → Type 0
IsCarriedBody x from ballot b = IfSome (told_in_body x from ballot b) (λ t. rebuilt_of t ≡ set_of t.delta)

module _ (x : Instance) (view : Histories) (m : Message) where
  -- a refusal that does not count is heard as whatever reply
  unheard : (s : Sender) (refused : Histories) → counts x.proposer m.from m.ballot ≡ false
      → hears s x view m replied.Yes ≡ hears s x view m (replied.No refused)
  unheard s refused e = ignored replied.Yes ∙ sym (ignored (replied.No refused))
    where
      ignored : (a : Reply) → hears s x view m a ≡ hears_as s x view m.ballot heard.Ignored x.proposer
      ignored a =
          ap
          (λ b.
          hears_as s x view m.ballot (cond b (heard_counting (with_reply x.proposer m.from a)) heard.Ignored)
          (cond b (after_counting (with_reply x.proposer m.from a)) x.proposer)) e

  body_received : (s : Sender) (b : code_body.Body) → IsCarriedBody x m.from m.ballot b
      → receives_body s x view m (received_body x m.from m.ballot b) ≡ receives_body s x view m (whole_body b)
  body_received s (body.Offer d) same = ap (λ u. receives_body s x view m (Offer u)) same
  body_received s body.Yes same = refl
  body_received s (body.No d) same = go (counts x.proposer m.from m.ballot) refl same
    where
      go : (v : Bool) → counts x.proposer m.from m.ballot ≡ v
          → IfSome (refusal_over v x.proposer.updates d) (λ t. rebuilt_of t ≡ set_of t.delta)
          → receives_body s x view m (with_refused (option_map rebuilt_of (refusal_over v x.proposer.updates d)))
          ≡ receives_body s x view m (No (set_of d))
      go true e is = ap (λ u. receives_body s x view m (No u)) is
      go false e is = unheard s (set_of d) e
  body_received s (body.Tell told) same = refl

  -- what fits as it was sent fits as it is received
  body_fits : (b : code_body.Body) → IsCarriedBody x m.from m.ballot b → FitsBody x m (whole_body b)
      → FitsBody x m (received_body x m.from m.ballot b)
  body_fits (body.Offer d) same h = subst (λ u. FitsBody x m (Offer u)) (sym same) h
  body_fits body.Yes same h = h
  body_fits (body.No d) same h = go (counts x.proposer m.from m.ballot) same
    where
      go : (v : Bool) → IfSome (refusal_over v x.proposer.updates d) (λ t. rebuilt_of t ≡ set_of t.delta)
          → FitsBody x m (with_refused (option_map rebuilt_of (refusal_over v x.proposer.updates d)))
      go true is = subst (λ u. FitsBody x m (No u)) (sym is) h
      go false is = tt
  body_fits (body.Tell told) same h = h

  body_spares : (b : code_body.Body) → IsCarriedBody x m.from m.ballot b → SparesBody x m (whole_body b)
      → SparesBody x m (received_body x m.from m.ballot b)
  body_spares (body.Offer d) same h = h
  body_spares body.Yes same h = h
  body_spares (body.No d) same h = go (counts x.proposer m.from m.ballot) refl same
    where
      go : (v : Bool) → counts x.proposer m.from m.ballot ≡ v
          → IfSome (refusal_over v x.proposer.updates d) (λ t. rebuilt_of t ≡ set_of t.delta)
          → SparesBody x m (with_refused (option_map rebuilt_of (refusal_over v x.proposer.updates d)))
      go true e is = subst (λ u. SparesBody x m (No u)) (sym is) h
      go false e is = λ heeded. absurd (true≢false (sym heeded ∙ e))
  body_spares (body.Tell told) same h = h

  -- and what refuses it as it is received refuses it as it was sent
  unheard_refuses : (refused : Histories) → counts x.proposer m.from m.ballot ≡ false → (e : ReplicaError)
      → IsHearingRefusal x.proposer m replied.Yes e → IsHearingRefusal x.proposer m (replied.No refused) e
  unheard_refuses refused uncounted (Clash id) h = absurd (true≢false (sym h.0 ∙ uncounted))
  unheard_refuses refused uncounted BallotsSpent h = absurd (true≢false (sym h.0 ∙ uncounted))
  unheard_refuses refused uncounted Memory h = absurd (true≢false (sym h.0 ∙ uncounted))
  unheard_refuses refused uncounted NoSuchReplica h = absurd h
  unheard_refuses refused uncounted NoSuchInstance h = absurd h
  unheard_refuses refused uncounted Full h = absurd h
  unheard_refuses refused uncounted NoBase h = absurd h
  unheard_refuses refused uncounted Gap h = absurd h

  body_refuses : (e : ReplicaError) (b : code_body.Body) → IsCarriedBody x m.from m.ballot b
      → IsBodyRefusal x view m (received_body x m.from m.ballot b) e → IsBodyRefusal x view m (whole_body b) e
  body_refuses e (body.Offer d) same h = subst (λ u. IsBodyRefusal x view m (Offer u) e) same h
  body_refuses e body.Yes same h = h
  body_refuses e (body.No d) same h = go (counts x.proposer m.from m.ballot) refl same h
    where
      go : (v : Bool) → counts x.proposer m.from m.ballot ≡ v
          → IfSome (refusal_over v x.proposer.updates d) (λ t. rebuilt_of t ≡ set_of t.delta)
          → IsBodyRefusal x view m (with_refused (option_map rebuilt_of (refusal_over v x.proposer.updates d))) e
          → IsBodyRefusal x view m (No (set_of d)) e
      go true _ is refuses = subst (λ u. IsBodyRefusal x view m (No u) e) is refuses
      go false uncounted is refuses = unheard_refuses (set_of d) uncounted e refuses
  body_refuses e (body.Tell told) same h = h

  view_fits : (b : code_body.Body) → FitsViewBody x view m (whole_body b)
      → FitsViewBody x view m (received_body x m.from m.ballot b)
  view_fits (body.Offer d) h = h
  view_fits body.Yes h = h
  view_fits (body.No d) h = go (counts x.proposer m.from m.ballot)
    where
      go : (v : Bool)
          → FitsViewBody x view m (with_refused (option_map rebuilt_of (refusal_over v x.proposer.updates d)))
      go true = h
      go false = h
  view_fits (body.Tell told) h = h

-- ## In a replica

module _ (r : ReplicaState) (c : code.Message) where
  abbrev received_by : Option Instance → Body
  received_by o = with_set (unwrap_or (option_map (λ x. rebuilt_at x c) o) None) c.body

  pub carried_received : IsCarriedIn r c → receives r (received_in r c) ≡ receives r (whole_of c)
  carried_received carried = go (slice_get r.instances c.instance) carried
    where
      go : (o : Option Instance) → IsSomeAnd o (λ x. IsCarried x c)
          → option_map
          (λ x.
          after_step r c.instance
          (receives_body (sender_of r c.instance) x r.view (received_in r c) (received_by o))) o
          ≡ option_map
          (λ x.
          after_step r c.instance
          (receives_body (sender_of r c.instance) x r.view (whole_of c) (whole_body c.body))) o
      go None h = refl
      go (Some x) h =
          ap (λ s. Some (after_step r c.instance s))
          (body_received x r.view (whole_of c) (sender_of r c.instance) c.body h)

  pub carried_fits : IsCarriedIn r c → FitsReceiver r (whole_of c) → FitsReceiver r (received_in r c)
  carried_fits carried h = record {
    receivable = (h.receivable.0, fits (slice_get r.instances c.instance) carried h.receivable.1);
    spares = spares (slice_get r.instances c.instance) carried h.spares;
    view = views (slice_get r.instances c.instance) h.view;
  }
    where
      fits : (o : Option Instance) → IsSomeAnd o (λ x. IsCarried x c)
          → IsSomeAnd o (λ x. FitsBody x (whole_of c) (whole_body c.body))
          → IsSomeAnd o (λ x. FitsBody x (received_in r c) (received_by o))
      fits None a b = b
      fits (Some x) a b = body_fits x r.view (whole_of c) c.body a b

      spares : (o : Option Instance) → IsSomeAnd o (λ x. IsCarried x c)
          → IsSomeAnd o (λ x. SparesBody x (whole_of c) (whole_body c.body))
          → IsSomeAnd o (λ x. SparesBody x (received_in r c) (received_by o))
      spares None a b = b
      spares (Some x) a b = body_spares x r.view (whole_of c) c.body a b

      views : (o : Option Instance) → IsSomeAnd o (λ x. FitsViewBody x r.view (whole_of c) (whole_body c.body))
          → IsSomeAnd o (λ x. FitsViewBody x r.view (received_in r c) (received_by o))
      views None b = b
      views (Some x) b = view_fits x r.view (whole_of c) c.body b

  pub carried_refusal : IsCarriedIn r c → (e : ReplicaError) → IsReceiveRefusal r (received_in r c) e
      → IsReceiveRefusal r (whole_of c) e
  carried_refusal carried = refusal
    where
      there : (e : ReplicaError) (o : Option Instance) → IsSomeAnd o (λ x. IsCarried x c)
          → IsSomeAnd o (λ x. IsBodyRefusal x r.view (received_in r c) (received_by o) e)
          → IsSomeAnd o (λ x. IsBodyRefusal x r.view (whole_of c) (whole_body c.body) e)
      there e None a h = h
      there e (Some x) a h = body_refuses x r.view (whole_of c) e c.body a h

      refusal : (e : ReplicaError) → IsReceiveRefusal r (received_in r c) e → IsReceiveRefusal r (whole_of c) e
      refusal NoSuchReplica h = h
      refusal NoSuchInstance h = h
      refusal Full h = (h.0, there Full (slice_get r.instances c.instance) carried h.1)
      refusal NoBase h = (h.0, there NoBase (slice_get r.instances c.instance) carried h.1)
      refusal Gap h = (h.0, there Gap (slice_get r.instances c.instance) carried h.1)
      refusal (Clash id) h = (h.0, there (Clash id) (slice_get r.instances c.instance) carried h.1)
      refusal BallotsSpent h = (h.0, there BallotsSpent (slice_get r.instances c.instance) carried h.1)
      refusal Memory h = (h.0, there Memory (slice_get r.instances c.instance) carried h.1)

  pub carried_offers : IsCarriedIn r c → offered_by (received_in r c) ≡ offered_by (whole_of c)
  carried_offers carried = go (slice_get r.instances c.instance) carried
    where
      body_offers : (x : Instance) (b : code_body.Body) → IsCarriedBody x c.from c.ballot b
          → offered_in (received_body x c.from c.ballot b) ≡ offered_in (whole_body b)
      body_offers x (body.Offer d) same = ap counts_of same
      body_offers x body.Yes same = refl
      body_offers x (body.No d) same = refused (counts x.proposer c.from c.ballot)
        where
          refused : (v : Bool)
              → offered_in (with_refused (option_map rebuilt_of (refusal_over v x.proposer.updates d))) ≡ zero_counts
          refused true = refl
          refused false = refl
      body_offers x (body.Tell told) same = refl

      go : (o : Option Instance) → IsSomeAnd o (λ x. IsCarried x c)
          → offered_in (received_by o) ≡ offered_in (whole_body c.body)
      go None h = absurd h
      go (Some x) h = body_offers x c.body h
