-- What an acceptor last reported, step by step; and that a verdict looks at no refused set.
use Rattle.std.proofs.Common.{◌≡◌, ◌≢◌, ℕ, ◌<◌, ◌≤◌, ◌==◌, Bool, true, false, not, ◌&&◌, cond, if◌then◌else◌, List, [], ◌∷◌, ◌++◌, length, All, slice_index_or, Option, Some, None, refl, ap, sym, ◌∙◌, subst, arith}
use Rattle.std.proofs.lemmas.List.Elements.{All-pop}
use Rattle.std.proofs.lemmas.List.{get_or-set_same, get_or-set_other, length-set}
use Rattle.la_set.specs.ObjectOps.{ObjectOp}
use Rattle.la_set.specs.declared.counts.Counts as numbers
use Rattle.la_set.specs.Counts.{zero_counts}
use Rattle.la_set.specs.Histories.{Histories}
use Rattle.la_acceptor.specs.declared.reply.Reply.{Reply}
use Rattle.la_acceptor.specs.declared.reply.Reply.TheVariants.{No}
use Rattle.std.proofs.lemmas.List.Folds.{list_any-append}
use Rattle.la_proposer.specs.declared.tally.Counted.{Counted}
use Rattle.la_proposer.specs.Majority.{is_majority}
use Rattle.la_proposer.specs.Tally.{tally_with, is_yes, said_yes, has_counted, has_refusal, verdict}
use Rattle.la_proposer.specs.declared.tally.Verdict.{Verdict}
use Rattle.la_proposer.specs.declared.tally.Verdict.TheVariants.{Waits, Refines, Learns}
use Rattle.la_proposer.specs.declared.change.Change.{Change}
use Rattle.la_proposer.specs.declared.change.Change.TheVariants.{Nothing, Holds, Submits, Counts, Opens, Closes}
use Rattle.la_proposer.specs.declared.change.Told.{Told}
use Rattle.la_proposer.specs.Changes.{told_in, with_told, tally_after, after_commit, EndsByOneOf, IsPreparedFrom}
use Rattle.la_proposer.specs.ProposerState.{ProposerState, is_nothing, closed, after_opening, after_verdict, after_reply, after_submission, with_reply, with_waiting, verdict_of, counts, told_by, reported}

abbrev from_of : Option Told → ℕ
from_of None = 0
from_of (Some told) = told.from

opened_reported : (p : ProposerState) (b : Bool) → (cond b (closed p) (after_opening p)).reported ≡ p.reported
opened_reported p true = refl
opened_reported p false = refl

verdict_reported : (p : ProposerState) (v : Verdict) → (after_verdict p v).reported ≡ p.reported
verdict_reported p Waits = refl
verdict_reported p Refines = refl
verdict_reported p Learns = opened_reported p (is_nothing p.waiting)

pub counted_reports : (p : ProposerState) (a ballot : ℕ) (reply : Reply) → a < length p.reported
    → counts p a ballot ≡ true → reported (after_reply p a ballot reply) a ≡ told_by p.updates reply
counted_reports p a ballot reply there heard =
    ap (λ b. reported (cond b (after_verdict (with_reply p a reply) (verdict_of (with_reply p a reply))) p) a) heard
    ∙ ap (λ (cs : List numbers.Counts). reported (record p { reported = cs }) a)
    (verdict_reported (with_reply p a reply) (verdict_of (with_reply p a reply)))
    ∙ get_or-set_same p.reported a (told_by p.updates reply) zero_counts there

pub others_reported : (p : ProposerState) (a from ballot : ℕ) (reply : Reply) → a ≢ from
    → reported (after_reply p from ballot reply) a ≡ reported p a
others_reported p a from ballot reply other = go (counts p from ballot)
  where
    go : (b : Bool)
        → reported (cond b (after_verdict (with_reply p from reply) (verdict_of (with_reply p from reply))) p) a
        ≡ reported p a
    go true =
        ap (λ (cs : List numbers.Counts). reported (record p { reported = cs }) a)
        (verdict_reported (with_reply p from reply) (verdict_of (with_reply p from reply)))
        ∙ get_or-set_other p.reported from a (told_by p.updates reply) zero_counts other
    go false = refl

pub submitting_reported : (p : ProposerState) (d : ObjectOp) → (after_submission p d).reported ≡ p.reported
submitting_reported p d = go p.is_asking
  where
    go : (b : Bool) → (cond b (with_waiting p d) (after_opening (with_waiting p d))).reported ≡ p.reported
    go true = refl
    go false = refl

-- ## What a prepared change leads to

module _ (p : ProposerState) (c : Change) (from : IsPreparedFrom p c) where
  after : ProposerState
  after = after_commit p c

  same_length : (told : Option Told) → length (with_told p.reported told) ≡ length p.reported
  same_length None = refl
  same_length (Some told) = length-set p.reported told.from told.counts

  eight : length p.reported ≡ 8
  unfolding IsPreparedFrom after_commit
  eight = sym (same_length (told_in p.updates c)) ∙ from.0.proposer_state.eight

  few : length p.votes ≤ 8
  unfolding IsPreparedFrom after_commit
  few = from.0.proposer_state.few

  counted_of_group : (d : Counted) → c ≡ Counts d → d.from < length p.votes
  unfolding IsPreparedFrom after_commit
  counted_of_group d e =
      (All-pop (λ k. k.from < length p.votes) (p.tally ++ d ∷ []) p.tally (Some d) refl
      (subst (λ x. All (λ k. k.from < length p.votes) (tally_after p x)) e from.0.proposer_state.in_group)).1

  ends_by : (d : Change) → c ≡ d → EndsByOneOf p d
  unfolding IsPreparedFrom
  ends_by d e = subst (EndsByOneOf p) e from.1

  of_group : (d : Change) → c ≡ d → (told : Told) → told_in p.updates d ≡ Some told → told.from < length p.votes
  of_group Nothing e told is = absurd (cc)
  of_group (Holds s) e told is = absurd (cc)
  of_group (Submits b s) e told is = absurd (cc)
  of_group (Counts d) e told is = omega (arith, counted_of_group d e, ap from_of is)
  of_group (Opens b t) e told is = omega (arith, ends_by (Opens b t) e, ap from_of is)
  of_group (Closes t) e told is = omega (arith, ends_by (Closes t) e, ap from_of is)

  pub told_is_reported : (told : Told) → told_in p.updates c ≡ Some told
      → reported (after_commit p c) told.from ≡ told.counts
  unfolding after_commit
  told_is_reported told is =
      ap (λ t. slice_index_or (with_told p.reported t) told.from zero_counts) is
      ∙ get_or-set_same p.reported told.from told.counts zero_counts
      (omega (arith, of_group c refl told is, few, eight))

  pub others_stay : (told : Told) (a : ℕ) → told_in p.updates c ≡ Some told → a ≢ told.from
      → reported (after_commit p c) a ≡ reported p a
  unfolding after_commit
  others_stay told a is other =
      ap (λ t. slice_index_or (with_told p.reported t) a zero_counts) is
      ∙ get_or-set_other p.reported told.from a told.counts zero_counts other

  pub nothing_told : (a : ℕ) → told_in p.updates c ≡ None → reported (after_commit p c) a ≡ reported p a
  unfolding after_commit
  nothing_told a is = ap (λ t. slice_index_or (with_told p.reported t) a zero_counts) is

-- ## A verdict looks at no refused set

module _ (tally : List Counted) (from : ℕ) (s t : Histories) where
  one : Counted
  one = record { from = from; reply = No s }

  other : Counted
  other = record { from = from; reply = No t }

  said : (a : ℕ) → said_yes (tally_with tally from (No s)) a ≡ said_yes (tally_with tally from (No t)) a
  unfolding one other
  said a =
      list_any-append (λ c. (c.from == a) && is_yes c.reply) tally (one ∷ [])
      ∙ sym (list_any-append (λ c. (c.from == a) && is_yes c.reply) tally (other ∷ []))

  heard : (a : ℕ) → has_counted (tally_with tally from (No s)) a ≡ has_counted (tally_with tally from (No t)) a
  unfolding one other
  heard a =
      list_any-append (λ c. c.from == a) tally (one ∷ []) ∙ sym (list_any-append (λ c. c.from == a) tally (other ∷ []))

  refused : has_refusal (tally_with tally from (No s)) ≡ has_refusal (tally_with tally from (No t))
  unfolding one other
  refused =
      list_any-append (λ c. not (is_yes c.reply)) tally (one ∷ [])
      ∙ sym (list_any-append (λ c. not (is_yes c.reply)) tally (other ∷ []))

  pub verdicts_alike : (votes : List ℕ)
      → verdict votes (tally_with tally from (No s)) ≡ verdict votes (tally_with tally from (No t))
  verdicts_alike votes = λ i.
      if is_majority votes (λ a. said a i) then Learns else
      if refused i && is_majority votes (λ a. heard a i) then Refines else Waits
