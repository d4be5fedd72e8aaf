-- Each step of a proposer leads to a state in which it may be taken up again.
use Rattle.std.proofs.Common.{◌≡◌, ℕ, ◌<◌, ◌≤◌, ◌==◌, ◌&&◌, Bool, true, false, not, List, length, refl, arith, inl, inr}
use Rattle.std.proofs.lemmas.Bool.{cond_both, cases_lt, not_from_false, and_parts, not-true}
use Rattle.std.proofs.lemmas.List.Elements.{All-nil}
use Rattle.la_set.specs.ObjectOps.{ObjectOp}
use Rattle.la_set.specs.Histories.{empty}
use Rattle.la_acceptor.specs.declared.reply.Reply.{Reply}
use Rattle.la_proposer.specs.declared.tally.Counted.{Counted}
use Rattle.la_proposer.specs.declared.tally.Verdict.{Verdict}
use Rattle.la_proposer.specs.declared.tally.Verdict.TheVariants.{Waits, Refines, Learns}
use Rattle.la_proposer.specs.Tally.{has_counted}
use Rattle.la_proposer.specs.ProposerState.{ProposerState, start, submitted, with_waiting, after_opening, closed, is_nothing, counts, with_reply, after_verdict, after_counting, after_reply, after_submission, verdict_of}
use Rattle.la_proposer.specs.Inputs.{Submitted, Replied}
use Rattle.la_proposer.specs.Refusals.{SubmissionSpends, StepSpends, IsHearable, IsCountable, opens_by}
use Rattle.la_proposer.specs.Invariant.{KnowsNoMore, IsProposerState}
use Rattle.la_proposer.specs.Resuming.{IsResumable}
use Rattle.la_proposer.proofs.OneEach.{one_each-none}
use Rattle.la_proposer.proofs.Proposals.{start_is, waiting_keeps, opening_keeps, refinement_keeps, counting_keeps}
use Rattle.la_proposer.proofs.lemmas.Growing.{input_rests}

pub start_resumable : (votes : List ℕ) (own cap : ℕ) → own < length votes → length votes ≤ 8 → cap ≤ 1000000
    → IsResumable (start votes own cap empty)
start_resumable votes own cap known few most = record {
  is_proposer = start_is votes own cap known few most;
  waits = λ _. refl;
}

left : (p : ProposerState) (b : Bool) → b ≡ true → ¬ StepSpends b p → p.number < 8000000
left p b opens spares = elim (cases_lt p.number 8000000) [ inl lt ↦ lt | inr le ↦ absurd (spares (opens, le)) ]

left_idle : (p : ProposerState) → p.is_asking ≡ false → ¬ SubmissionSpends p → p.number < 8000000
left_idle p idle spares = elim (cases_lt p.number 8000000) [ inl lt ↦ lt | inr le ↦ absurd (spares (idle, le)) ]

pub submission_resumable : (p : ProposerState) (d : ObjectOp) → IsResumable p → submitted p < p.cap
    → ¬ SubmissionSpends p → IsResumable (after_submission p d)
submission_resumable p d is room spares = record {
  is_proposer =
      let held = waiting_keeps p d is.is_proposer room in
      cond_both p.is_asking (with_waiting p d) (after_opening (with_waiting p d)) IsProposerState (λ _. held)
      (λ idle. opening_keeps (with_waiting p d) held (left_idle p idle spares));
  waits = input_rests p (Submitted d) is.waits;
}

closing_keeps : (p : ProposerState) → IsProposerState p → IsProposerState (closed p)
closing_keeps p is = record {
  known = is.known;
  few = is.few;
  cap = is.cap;
  number = is.number;
  within = is.within;
  at_rest = λ _. refl;
  in_group = All-nil (λ (c : Counted). c.from < length p.votes);
  own_known = All-nil (λ (c : Counted). KnowsNoMore p.updates p.own c.reply);
  one_each = one_each-none p.updates;
  eight = is.eight;
  once = omega arith;
}

verdict_keeps : (p : ProposerState) (v : Verdict) → IsProposerState p → ¬ StepSpends (opens_by p v) p
    → IsProposerState (after_verdict p v)
verdict_keeps p Waits is spares = is
verdict_keeps p Refines is spares = refinement_keeps p is (left p true refl spares)
verdict_keeps p Learns is spares =
    cond_both (is_nothing p.waiting) (closed p) (after_opening p) IsProposerState (λ _. closing_keeps p is)
    (λ some. opening_keeps p is (left p (not (is_nothing p.waiting)) (not_from_false (is_nothing p.waiting) some) spares))

-- a reply that counts, by the parts of the test
countable : (p : ProposerState) (from ballot : ℕ) (reply : Reply) → IsHearable p from ballot reply
    → counts p from ballot ≡ true → IsCountable p from reply
countable p from ballot reply is heard =
    let outer = and_parts p.is_asking ((p.number == ballot) && not (has_counted p.tally from)) heard in
    let inner = and_parts (p.number == ballot) (not (has_counted p.tally from)) outer.1 in
    record {
      asking = outer.0;
      in_group = is.in_group;
      new = not-true (has_counted p.tally from) inner.1;
      fits = is.fits heard;
    }

pub reply_resumable : (p : ProposerState) (from ballot : ℕ) (reply : Reply) → IsResumable p
    → IsHearable p from ballot reply → IsResumable (after_reply p from ballot reply)
reply_resumable p from ballot reply is may = record {
  is_proposer =
      cond_both (counts p from ballot) (after_counting (with_reply p from reply)) p IsProposerState
      (λ heard.
      let k = countable p from ballot reply may heard in
      let q = with_reply p from reply in
      verdict_keeps q (verdict_of q) (counting_keeps p from reply is.is_proposer k.asking k.in_group k.new k.fits)
      (may.spares heard))
      (λ _. is.is_proposer);
  waits = input_rests p (Replied from ballot reply) is.waits;
}
