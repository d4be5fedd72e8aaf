-- How a member goes on in one instance: reflexive, one after another, and what a passing of passes keeps.
use Rattle.std.proofs.Common.{◌≡◌, ◌⊎◌, inl, inr, ℕ, ◌≤◌, List, ◌++◌, refl, ap, sym, ◌∙◌, subst, arith, append_assoc}
use mathlib.Core.List.{IsPrefix}
use Rattle.la_set.specs.declared.update.Update.{Update}
use Rattle.la_set.specs.Histories.{Histories, history, count}
use Rattle.la_set.specs.Inclusion.{IsSubset}
use Rattle.la_set.proofs.lemmas.Theorems.{subset-refl, subset-trans}
use Rattle.la_acceptor.specs.declared.reply.Reply.TheVariants.{Yes, No}
use Rattle.la_proposer.specs.ProposerState.{ProposerState}
use Rattle.la_proposer.specs.Inputs.{all_submitted}
use Rattle.la_shared.specs.History.{HasYes}
use Rattle.la_shared.specs.Passes.{Known}
use Rattle.la_shared.proofs.lemmas.Theorems.{has-prefix, has-left, has-right}
use Rattle.la_runner.specs.Certificates.{passes_seen_at, mine_at, OfMajority}
use Rattle.la_runner.specs.Sound.{IsSound, HasReply, WasTold, IsView}
use Rattle.la_runner.specs.Following.{GoOn, Beyond, FollowsProposer, IsLearnt}
use Rattle.la_runner.proofs.Certified.{of_majority, certificate_stays}
use Rattle.la_runner.proofs.Passing.{prefix_trans, on_trans, Grown}

-- what comes after what was seen, in passes that go on at either end
pub beyond_later : (ps qs rs : List Known) (a : ℕ) (s : Histories) → IsPrefix (passes_seen_at qs a) (passes_seen_at rs a)
    → Beyond ps qs a s → Beyond ps rs a s
beyond_later ps qs rs a s p b = (
  b.0 ++ p.0,
  sym p.1 ∙ ap (λ l. l ++ p.0) b.1 ∙ append_assoc (passes_seen_at ps a) b.0 p.0,
  has-left b.0 p.0 s Yes b.2,
)

pub beyond_earlier : (ps qs rs : List Known) (a : ℕ) (s : Histories) → IsPrefix (passes_seen_at ps a) (passes_seen_at qs a)
    → Beyond qs rs a s → Beyond ps rs a s
beyond_earlier ps qs rs a s p b = (
  p.0 ++ b.0,
  b.1 ∙ ap (λ l. l ++ b.0) (sym p.1) ∙ append_assoc (passes_seen_at ps a) p.0 b.0,
  has-right p.0 b.0 s Yes b.2,
)

pub told_stays : (ps qs : List Known) (u : Update) → ((a : ℕ) → IsPrefix (mine_at ps a) (mine_at qs a)) → WasTold ps u
    → WasTold qs u
told_stays ps qs u go t =
    (t.0, t.1, t.2, has-prefix (mine_at ps t.0) (mine_at qs t.0) t.1 (No t.2) (go t.0) t.3, t.4, t.5)

pub view_stays : (votes : List ℕ) (ps qs : List Known) (v : Histories) → GoOn ps qs → IsView votes ps v
    → IsView votes qs v
view_stays votes ps qs v go (inl e) = inl e
view_stays votes ps qs v go (inr c) = inr (certificate_stays votes ps qs v go.seen c)

pub follows_refl : (p : ProposerState) (ps qs : List Known) → GoOn ps qs → FollowsProposer p p ps qs
follows_refl p ps qs go = record {
  votes = refl;
  own = refl;
  cap = refl;
  passes = go;
  number = omega arith;
  grows = subset-refl p.updates;
  same = λ _. refl;
  fresh = λ a r. inl (refl, r);
}

pub follows_trans : (p q r : ProposerState) (ps qs rs : List Known) → FollowsProposer p q ps qs → FollowsProposer q r qs rs
    → FollowsProposer p r ps rs
follows_trans p q r ps qs rs f g = record {
  votes = g.votes ∙ f.votes;
  own = g.own ∙ f.own;
  cap = g.cap ∙ f.cap;
  passes = on_trans ps qs rs f.passes g.passes;
  number = omega (arith, f.number, g.number);
  grows = subset-trans p.updates q.updates r.updates f.grows g.grows;
  same =
      λ e.
      let first : r.number ≡ q.number = omega (arith, f.number, g.number, e) in
      let second : q.number ≡ p.number = omega (arith, f.number, g.number, e) in g.same first ∙ f.same second;
  fresh = λ a y. elim (g.fresh a y) [
    | inl was ↦ elim (f.fresh a was.1) [
      | inl before ↦ inl (was.0 ∙ before.0, before.1)
      | inr since ↦ inr (subst (Beyond ps rs a) (sym (g.same was.0)) (beyond_later ps qs rs a q.updates (g.passes.seen a) since))
    ]
    | inr since ↦ inr (beyond_earlier ps qs rs a r.updates (f.passes.seen a) since)
  ];
}

-- a set learnt after some steps was learnt after the first of them
pub learnt_later : (p q : ProposerState) (ps qs rs : List Known) (n : ℕ) (s : Histories) → FollowsProposer p q ps qs
    → IsPrefix (all_submitted q) (all_submitted p) → GoOn qs rs → IsLearnt q qs rs n s → IsLearnt p ps rs n s
learnt_later p q ps qs rs n s f sub go l = record {
  own = subst (λ vs. OfMajority vs (λ a. HasYes (mine_at rs a) s)) f.votes l.own;
  number = omega (arith, f.number, l.number);
  grown = subset-trans p.updates q.updates s f.grows l.grown;
  same =
      λ e.
      let first : n ≡ q.number = omega (arith, f.number, l.number, e) in
      let second : q.number ≡ p.number = omega (arith, f.number, l.number, e) in l.same first ∙ f.same second;
  since = subst (λ vs. OfMajority vs (λ a. ((n ≡ p.number) × HasReply p.tally a Yes) ⊎ Beyond ps rs a s)) f.votes
      (of_majority q.votes (λ a. ((n ≡ q.number) × HasReply q.tally a Yes) ⊎ Beyond qs rs a s) (λ a. ((n ≡ p.number) × HasReply p.tally a Yes) ⊎ Beyond ps rs a s) (λ a here. elim here [
        | inl was ↦ elim (f.fresh a was.1) [
          | inl before ↦ inl (was.0 ∙ before.0, before.1)
          | inr since ↦ inr (beyond_later ps qs rs a s (go.seen a) (subst (Beyond ps qs a) (sym (l.same was.0)) since))
        ]
        | inr since ↦ inr (beyond_earlier ps qs rs a s (f.passes.seen a) since)
      ]) l.since);
  taken =
      subst (λ o. IsPrefix (history s o) (all_submitted p)) f.own
      (prefix_trans (history s q.own) (all_submitted q) (all_submitted p) l.taken sub);
  some = subst (λ o. 1 ≤ count s o) f.own l.some;
}

-- an offer changes no proposer
pub sound_grown : (p : ProposerState) (ps qs : List Known) → IsSound p ps → Grown p.updates ps qs → IsSound p qs
sound_grown p ps qs is g = record {
  proposer = is.proposer;
  rests = is.rests;
  asks_own = is.asks_own;
  sizes = g.sizes ∙ is.sizes;
  are = g.are;
  within =
      λ a s r e.
      elim (g.offered a s r e)
      [ inl old ↦ is.within a s r old | inr new ↦ subst (λ z. IsSubset z p.updates) new (subset-refl p.updates) ];
  counted = λ a r y. has-prefix (mine_at ps a) (mine_at qs a) p.updates r (g.on.mine a) (is.counted a r y);
  told = λ u here other. told_stays ps qs u g.on.mine (is.told u here other);
}
