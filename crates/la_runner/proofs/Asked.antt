-- What one offer to one acceptor leaves of a member.
use Rattle.std.proofs.Common.{◌≡◌, inl, inr, ℕ, ◌<◌, Bool, true, false, List, [], ◌∷◌, ◌++◌, length, Some, refl, ap, sym, ◌∙◌, subst, arith, ◌&&◌, ◌==◌, not}
use Rattle.std.specs.Prelude.{Result, Ok, Err, OnOk, OnErr, IfOk}
use Rattle.std.specs.List.{slice_get, slice_set, slice_index_or}
use Rattle.std.proofs.lemmas.Option.{slice_get-get_or, get_or_from_slice_get}
use Rattle.std.proofs.lemmas.Bool.{and_parts}
use Rattle.la_proposer.specs.declared.heard.Heard.{Heard}
use Rattle.la_proposer.specs.Tally.{has_counted}
use Rattle.la_proposer.specs.ProposerState.{ProposerState, counts}
use Rattle.la_proposer.specs.Invariant.{IsProposerState}
use Rattle.la_set.specs.Histories.{Histories}
use Rattle.la_acceptor.specs.declared.reply.Reply.{Reply}
use Rattle.la_shared.specs.History.{entry}
use Rattle.la_shared.specs.Passes.{Known, IsPass, AcceptorName, Extends}
use Rattle.la_runner.specs.Asking.{Asks, AsksInVain}
use Rattle.la_runner.specs.Sound.{IsSound}
use Rattle.la_runner.specs.Following.{acceptors_of, Goes, IsLearnt, IfLearnt, StaysOpen}
use Rattle.la_runner.specs.Heard.{Hears, HearsMost}
use Rattle.la_runner.proofs.Remembering.{one_recorded, none_recorded}
use Rattle.la_runner.proofs.Passing.{Grown, grown_same, grown_more, has_new, beyond_new}
use Rattle.la_runner.proofs.Going.{sound_grown, follows_refl, follows_trans}
use Rattle.la_runner.proofs.Hearing.{hears}
use Rattle.la_runner.proofs.Keeping.{get_map}

not_true : (b : Bool) → not b ≡ true → b ≡ false
not_true true e = sym e
not_true false e = refl

offered_mine : (s : Histories) (r : Reply) (k w : Known) (e : Extends s r k w) → w.mine ≡ k.mine ++ entry e.0 s r ∷ []
offered_mine s r k w e = e.1.4

pub goes_grown : (p : ProposerState) (ps qs : List Known) → IsSound p ps → Grown p.updates ps qs → Goes p ps p qs
goes_grown p ps qs is g = record { sound = sound_grown p ps qs is g; follows = follows_refl p ps qs g.on; nothing = refl }

pub goes_trans : (p : ProposerState) (ps : List Known) (q : ProposerState) (qs : List Known) (r : ProposerState)
    (rs : List Known) → Goes p ps q qs → Goes q qs r rs → Goes p ps r rs
goes_trans p ps q qs r rs f g = record { sound = g.sound; follows = follows_trans p q r ps qs rs f.follows g.follows; nothing = g.nothing ∙ f.nothing }

module _ (p : ProposerState) (ps : List Known) (a : ℕ) (k w : Known) (is : IsSound p ps) (at : slice_get ps a ≡ Some k)
    (pass : IsPass w) (same_one : w.acceptor ≡ k.acceptor) where
  pub asked_in_vain : (q : ProposerState) → AsksInVain p k q w → Goes p ps q (slice_set ps a w)
  asked_in_vain q v = subst (λ z. Goes p ps z (slice_set ps a w)) (sym v.0) (goes_grown p ps (slice_set ps a w) is (elim v.1 [
    | inl same ↦ grown_same p.updates ps a k w at pass same_one is.are same
    | inr more ↦ grown_more p.updates ps a k w at pass same_one more.0 is.are more.1
  ]))

  module _ (heard : Heard) (q : ProposerState) (state : IsProposerState q) (known : a < length p.votes)
      (open_is : counts p a p.number ≡ true) (asks : Asks p a k heard q w) where
    on_more : Grown p.updates ps (slice_set ps a w)
    on_more = grown_more p.updates ps a k w at pass same_one asks.0 is.are asks.1

    is_now : IsSound p (slice_set ps a w)
    is_now = sound_grown p ps (slice_set ps a w) is on_more

    open_parts : (p.is_asking ≡ true) × (((p.number == p.number) && not (has_counted p.tally a)) ≡ true)
    open_parts = and_parts p.is_asking ((p.number == p.number) && not (has_counted p.tally a)) open_is

    new_is : has_counted p.tally a ≡ false
    new_is =
        not_true (has_counted p.tally a) (and_parts (p.number == p.number) (not (has_counted p.tally a)) open_parts.1).1

    pub asked : Goes p ps q (slice_set ps a w) × IfLearnt heard (IsLearnt p ps (slice_set ps a w) p.number)
        × StaysOpen heard p q
    asked =
        hears p ps (slice_set ps a w) a asks.0 is_now on_more.on
        (has_new p.updates ps a k w at pass same_one asks.0 asks.1)
        (beyond_new p.updates ps a k w at pass same_one asks.0 asks.1) (asks.2 open_is) open_parts.0 new_is known heard
        q state open_is asks.3 asks.4

  pub goes_of : {E : Type 0} (q : ProposerState) → a < length p.votes → counts p a p.number ≡ true
      → (result : Result Heard E) → OnOk result (IsProposerState q) → IfOk result (λ heard. Asks p a k heard q w)
      → OnErr result (AsksInVain p k q w) → Goes p ps q (slice_set ps a w)
  goes_of q known open_is (Ok heard) state asks vain = (asked heard q state known open_is asks).0
  goes_of q known open_is (Err e) state asks vain = asked_in_vain q vain

  pub learnt_of : {E : Type 0} (q : ProposerState) → a < length p.votes → counts p a p.number ≡ true
      → (result : Result Heard E) → OnOk result (IsProposerState q) → IfOk result (λ heard. Asks p a k heard q w)
      → IfOk result (λ heard. IfLearnt heard (IsLearnt p ps (slice_set ps a w) p.number))
  learnt_of q known open_is (Ok heard) state asks = (asked heard q state known open_is asks).1
  learnt_of q known open_is (Err e) state asks = tt

  pub stays_of : {E : Type 0} (q : ProposerState) → a < length p.votes → counts p a p.number ≡ true
      → (result : Result Heard E) → OnOk result (IsProposerState q) → IfOk result (λ heard. Asks p a k heard q w)
      → IfOk result (λ heard. StaysOpen heard p q)
  stays_of q known open_is (Ok heard) state asks = (asked heard q state known open_is asks).2
  stays_of q known open_is (Err e) state asks = tt

-- what was heard, and what was missed
module _ (p : ProposerState) (ps : List Known) (a : ℕ) (k w : Known) (at : slice_get ps a ≡ Some k) where
  pub heard_of_one : {E : Type 0} (q : ProposerState) → a < length p.votes → (result : Result Heard E)
      → IfOk result (λ heard. Asks p a k heard q w) → OnOk result (Hears p q ps (slice_set ps a w) [])
  heard_of_one q known (Err e) asks = tt
  heard_of_one q known (Ok heard) asks = record {
    heard = record { acceptor = a; entry = entry asks.1.0 p.updates asks.0 } ∷ [];
    recorded = one_recorded ps a k w at (entry asks.1.0 p.updates asks.0) (offered_mine p.updates asks.0 k w asks.1);
    leads = asks.4;
  }

  pub missed_of_one : {E : Type 0} (q : ProposerState) (result : Result Heard E) → OnErr result (AsksInVain p k q w)
      → OnErr result (HearsMost p q ps (slice_set ps a w))
  missed_of_one q (Ok heard) vain = tt
  missed_of_one q (Err e) vain = elim vain.1 [
    | inl same ↦ ([], omega arith, record { heard = []; recorded = none_recorded ps a k w at same.1; leads = vain.0 })
    | inr more ↦ (
      record { acceptor = a; entry = entry more.1.0 p.updates more.0 } ∷ [],
      omega arith,
      record { heard = []; recorded = one_recorded ps a k w at (entry more.1.0 p.updates more.0) (offered_mine p.updates more.0 k w more.1); leads = vain.0 },
    )
  ]

pub vain_of : {E : Type 0} (p q : ProposerState) (k w : Known) (result : Result Heard E)
    → OnErr result (AsksInVain p k q w) → OnErr result (q ≡ p)
vain_of p q k w (Ok heard) vain = tt
vain_of p q k w (Err e) vain = vain.0

-- the pass at a place
pub at_place : (ps : List Known) (a : ℕ) (k : Known) → a < length ps → k ≡ slice_index_or ps a k
    → slice_get ps a ≡ Some k
at_place ps a k lt e = slice_get-get_or ps a k lt ∙ ap Some (sym e)

-- and the acceptor there is its own
pub acceptor_there : (ps : List Known) (row : List AcceptorName) (a : ℕ) (k : Known) (n : AcceptorName)
    → acceptors_of ps ≡ row → slice_get ps a ≡ Some k → n ≡ slice_index_or row a n → k.acceptor ≡ n
acceptor_there ps row a k n names at is =
    sym
    (is
    ∙ get_or_from_slice_get row a k.acceptor n
    (ap (λ l. slice_get l a) (sym names) ∙ get_map (λ (z : Known). z.acceptor) ps a k at))
