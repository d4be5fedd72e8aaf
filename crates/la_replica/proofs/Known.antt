-- What a message's set is known to have in common with what is here, and a candidate with the view.
use Rattle.std.proofs.Common.{◌≡◌, ℕ, zero, suc, ◌<◌, Bool, true, false, List, [], ◌∷◌, length, slice_get, Option, Some, None, IfSome, IsSomeAnd, option_map, unwrap_or, sym, subst, arith}
use Rattle.la_set.specs.declared.counts.Counts.{Counts}
use Rattle.la_set.specs.Histories.{Histories}
use Rattle.la_set.specs.Counts.{zero_counts, within}
use Rattle.la_set.specs.Deltas.{IsOver}
use Rattle.la_set.proofs.lemmas.Theorems.{rebuilt-within, within-zero}
use Rattle.la_proposer.specs.declared.tally.Verdict.{Verdict}
use Rattle.la_proposer.specs.ProposerState.{counts}
use Rattle.la_proposer.specs.Tally.{reply_with}
use Rattle.la_replica.specs.declared.instance.Instance.{Instance}
use Rattle.la_replica.specs.declared.message.Message as code
use Rattle.la_replica.specs.declared.message.Body as code_body
use Rattle.la_replica.specs.declared.message.Body.TheVariants as body
use Rattle.la_replica.specs.Whole.{Message, Body, Offer, Yes, No, Tell}
use Rattle.la_replica.specs.Messages.{reply_in}
use Rattle.la_replica.specs.ReplicaState.{ReplicaState, InInstance}
use Rattle.la_replica.specs.Received.{told_in_body, refusal_over, rebuilt_of, rebuilt_at, with_set, with_refused, received_in, StandsAt, StandsIn, base_in, IsKnownWithin}
use Rattle.la_replica.specs.Changes.{candidate}

-- ## A message

known_body : (x : Instance) (from ballot : ℕ) (b : code_body.Body)
    → IfSome (told_in_body x from ballot b) (λ t. IsOver t.over t.delta)
    → IsKnownWithin x (base_in b) (with_set (option_map rebuilt_of (told_in_body x from ballot b)) b)
known_body x from ballot (body.Offer d) over = sym (rebuilt-within x.acceptor d over)
known_body x from ballot body.Yes over = tt
known_body x from ballot (body.No d) over = go (counts x.proposer from ballot) over
  where
    go : (v : Bool) → IfSome (refusal_over v x.proposer.updates d) (λ t. IsOver t.over t.delta)
        → IsKnownWithin x d.base (with_refused (option_map rebuilt_of (refusal_over v x.proposer.updates d)))
    go true is = sym (rebuilt-within x.proposer.updates d is)
    go false is = tt
known_body x from ballot (body.Tell told) over = tt

pub known_in : (r : ReplicaState) (m : code.Message) → StandsIn r m
    → InInstance r m.instance (λ x. IsKnownWithin x (base_in m.body) (received_in r m).body)
known_in r m stands = go (slice_get r.instances m.instance) stands
  where
    go : (o : Option Instance) → IsSomeAnd o (λ x. StandsAt x m)
        → IsSomeAnd o
        (λ x. IsKnownWithin x (base_in m.body) (with_set (unwrap_or (option_map (λ z. rebuilt_at z m) o) None) m.body))
    go None h = h
    go (Some x) h = known_body x m.from m.ballot m.body h

-- the set of a reply, where it carries one
pub refused_known : (x : Instance) (b : Counts) (said : Body) (o : Option Histories) → reply_with o ≡ reply_in said
    → IsKnownWithin x b said → IfSome o (λ s. within x.proposer.updates b ≡ within s b)
refused_known x b said None e known = tt
refused_known x b (No s) (Some t) e known =
    let same : t ≡ s = cc in subst (λ u. within x.proposer.updates b ≡ within u b) (sym same) known
refused_known x b (Offer s) (Some t) e known = absurd (cc)
refused_known x b Yes (Some t) e known = absurd (cc)
refused_known x b (Tell s) (Some t) e known = absurd (cc)

-- ## A candidate

abbrev IsKnownCandidate : Histories → Counts → Option Histories → Type 0
IsKnownCandidate view b o = IfSome o (λ s. within view b ≡ within s b)

nothing_known : (view : Histories) (o : Option Histories) → IsKnownCandidate view zero_counts o
nothing_known view None = tt
nothing_known view (Some s) = within-zero view s

at_each : (xs : List Instance) (i : ℕ) (P : Instance → Type 0) → i < length xs → ((x : Instance) → P x)
    → IsSomeAnd (slice_get xs i) P
at_each [] i P lt each = absurd (omega arith)
at_each (x ∷ xs) zero P lt each = each x
at_each (x ∷ xs) (suc i) P lt each = at_each xs i P (omega arith) each

pub nothing_known_in : (r : ReplicaState) (i : ℕ) (v : Option Verdict) (m : Message) (b : Counts)
    → i < length r.instances → b ≡ zero_counts → InInstance r i (λ z. IsKnownCandidate r.view b (candidate z v m))
nothing_known_in r i v m b lt is =
    at_each r.instances i (λ z. IsKnownCandidate r.view b (candidate z v m)) lt
    (λ z. subst (λ n. IsKnownCandidate r.view n (candidate z v m)) (sym is) (nothing_known r.view (candidate z v m)))
