-- What a reply leaves submitted, and what it takes to learn.
use Rattle.std.proofs.Common.{◌≡◌, ℕ, ◌<◌, Bool, true, false, cond, IsTrue, [], ◌∷◌, ◌++◌, Option, refl, ap, sym, ◌∙◌, arith, append_assoc, append-nil, ◌&&◌}
use Rattle.std.proofs.lemmas.Bool.{cond_both}
use Rattle.std.proofs.lemmas.List.Elements.{All-push}
use Rattle.la_set.specs.ObjectOps.{ObjectOp}
use Rattle.la_set.specs.Histories.{Histories, history}
use Rattle.la_set.proofs.lemmas.SetHistories.{history-with_same}
use Rattle.la_acceptor.specs.declared.reply.Reply.{Reply}
use Rattle.la_proposer.specs.declared.ballot.Ballot.{Ballot}
use Rattle.la_proposer.specs.declared.heard.Heard.{Heard}
use Rattle.la_proposer.specs.declared.heard.Heard.TheVariants as said
use Rattle.la_proposer.specs.declared.tally.Counted.{Counted}
use Rattle.la_proposer.specs.declared.tally.Verdict.{Verdict}
use Rattle.la_proposer.specs.declared.tally.Verdict.TheVariants.{Waits, Refines, Learns}
use Rattle.la_proposer.specs.Majority.{is_majority}
use Rattle.la_proposer.specs.Tally.{tally_with, said_yes, has_refusal, has_counted}
use Rattle.la_proposer.specs.ProposerState.{ProposerState, with_more, with_waiting, with_reply, counts, is_nothing, closed, after_opening, after_verdict, after_counting, after_reply, after_submission, verdict_of, heard_by, heard_counting, heard_of}
use Rattle.la_proposer.specs.Inputs.{all_submitted}
use Rattle.la_proposer.specs.Clashes.{Fits, ReplyFits}
use Rattle.la_proposer.specs.Invariant.{KnowsNoMore, IsProposerState}
use Rattle.la_proposer.proofs.Proposals.{history-joined, knows_no_more}

-- ## What is submitted

-- a ballot that takes what waits leaves nothing waiting
opening_submits : (p : ProposerState) → p.own < 8 → all_submitted (after_opening p) ≡ all_submitted p
opening_submits p known =
    append-nil (history (with_more p.updates p.own p.waiting) p.own)
    ∙ history-with_same p.updates p.own (history p.updates p.own ++ p.waiting) p.own known refl

pub submission_adds : (p : ProposerState) (d : ObjectOp) → p.own < 8
    → all_submitted (after_submission p d) ≡ all_submitted p ++ d ∷ []
submission_adds p d known =
    let waits = sym (append_assoc (history p.updates p.own) p.waiting (d ∷ [])) in
    cond_both p.is_asking (with_waiting p d) (after_opening (with_waiting p d))
    (λ q. all_submitted q ≡ all_submitted p ++ d ∷ [])
    (λ e. waits)
    (λ e. opening_submits (with_waiting p d) known ∙ waits)

module _ (p : ProposerState) (a : ℕ) (r : Reply) where
  verdict_submits : (v : Verdict) → IsProposerState p → Fits p r
      → all_submitted (after_verdict (with_reply p a r) v) ≡ all_submitted p
  verdict_submits Waits is fits = refl
  verdict_submits Refines is fits =
      let known = All-push (λ (c : Counted). KnowsNoMore p.updates p.own c.reply) p.tally (record { from = a; reply = r }) is.own_known (knows_no_more p r fits) in
      ap (λ h. h ++ p.waiting) (history-joined p.updates p.own (tally_with p.tally a r) known)
  verdict_submits Learns is fits =
      cond_both (is_nothing p.waiting) (closed (with_reply p a r)) (after_opening (with_reply p a r))
      (λ q. all_submitted q ≡ all_submitted p) (λ e. refl)
      (λ e. opening_submits (with_reply p a r) (omega (arith, is.known, is.few)))

  pub reply_submits : (b : ℕ) → IsProposerState p → ReplyFits p a b r
      → all_submitted (after_reply p a b r) ≡ all_submitted p
  reply_submits b is fits =
      cond_both (counts p a b) (after_counting (with_reply p a r)) p (λ q. all_submitted q ≡ all_submitted p)
      (λ counted. verdict_submits (verdict_of (with_reply p a r)) is (fits counted)) (λ e. refl)

-- ## What is learnt

verdict-majority : (x y : Bool) → cond x Learns (cond y Refines Waits) ≡ Learns → x ≡ true
verdict-majority true y e = refl
verdict-majority false true e = absurd (cc)
verdict-majority false false e = absurd (cc)

-- the set that was learnt, where one was
abbrev set_of : Heard → Histories → Histories
set_of (said.Learnt s o) t = s
set_of said.Counted t = t
set_of said.Ignored t = t
set_of (said.Refined b) t = t

module _ (p : ProposerState) (a b : ℕ) (r : Reply) (s : Histories) (o : Option Ballot) where
  counted_learnt : (c : Bool) → cond c (heard_counting (with_reply p a r)) said.Ignored ≡ said.Learnt s o
      → (c ≡ true) × (heard_counting (with_reply p a r) ≡ said.Learnt s o)
  counted_learnt true e = (refl, e)
  counted_learnt false e = absurd (cc)

  verdict_learnt : (v : Verdict) → heard_by (with_reply p a r) v ≡ said.Learnt s o → (v ≡ Learns) × (s ≡ p.updates)
  verdict_learnt Waits e = absurd (cc)
  verdict_learnt Refines e = absurd (cc)
  verdict_learnt Learns e = (refl, sym (ap (λ h. set_of h p.updates) e))

  module _ (heard : heard_of p a b r ≡ said.Learnt s o) where
    learnt_by : (verdict_of (with_reply p a r) ≡ Learns) × (s ≡ p.updates)
    learnt_by = verdict_learnt (verdict_of (with_reply p a r)) (counted_learnt (counts p a b) heard).1

    pub learnt_counts : counts p a b ≡ true
    learnt_counts = (counted_learnt (counts p a b) heard).0

    pub learnt_is : s ≡ p.updates
    learnt_is = learnt_by.1

    pub learnt_majority : IsTrue (is_majority p.votes (said_yes (tally_with p.tally a r)))
    learnt_majority =
        let tally = tally_with p.tally a r in
        verdict-majority (is_majority p.votes (said_yes tally))
        (has_refusal tally && is_majority p.votes (has_counted tally)) learnt_by.0
