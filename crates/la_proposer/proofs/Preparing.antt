-- What a prepared change leads to.
use Rattle.std.proofs.Common.{◌≡◌, ℕ, Bool, Some, None, not, cond, inl, inr, ◌+◌, ◌<◌, true, false, true≢false, List, [], ◌∷◌, ◌++◌, length, refl, ap, sym, ◌∙◌, subst, arith}
use Rattle.std.proofs.lemmas.List.{length-append, get_or_push}
use Rattle.std.proofs.Math.Seq.{take-append_seam}
use Rattle.std.proofs.lemmas.Bool.{cases_lt}
use Rattle.std.proofs.lemmas.List.Elements.{All-nil, All-pop}
use Rattle.la_set.specs.ObjectOps.{ObjectOp}
use Rattle.la_set.specs.Histories.{Histories}
use Rattle.la_set.specs.Join.{join, IsCompatible}
use Rattle.la_acceptor.specs.declared.reply.Reply.{Reply}
use Rattle.la_proposer.specs.declared.ballot.Ballot.{Ballot}
use Rattle.la_set.specs.declared.counts.Counts as numbers
use Rattle.la_proposer.specs.declared.change.Change.{Change}
use Rattle.la_proposer.specs.declared.change.Told.{Told}
use Rattle.la_proposer.specs.declared.change.Change.TheVariants.{Nothing, Holds, Submits, Counts, Opens, Closes}
use Rattle.la_proposer.specs.declared.tally.Counted.{Counted}
use Rattle.la_proposer.specs.Tally.{has_counted, tally_with, with_refusal, joined_with_refusals}
use Rattle.la_proposer.specs.ProposerState.{ProposerState, WaitsOnlyAsking, submitted, with_more, with_waiting, told_by, noted, with_reply, next_ballot, after_opening, refined_ballot, after_refinement, closed, is_nothing, submission_opens, after_submission, learning_opens, after_learning}
use Rattle.la_proposer.specs.Inputs.{all_submitted}
use Rattle.la_proposer.specs.Refusals.{SubmissionSpends, StepSpends}
use Rattle.la_proposer.specs.Clashes.{Fits, Agrees}
use Rattle.la_proposer.specs.Invariant.{KnowsNoMore}
use Rattle.la_proposer.specs.declared.proposer.Proposer.TheInside.{Inside}
use Rattle.la_proposer.specs.Majority.{votes_of}
use Rattle.la_proposer.specs.Fields.{alone, proposer_state_of, IsRepresented, stands_for}
use Rattle.la_proposer.specs.Changes.{last_of, last_after, asking_after, tally_after, submissions_after, reported_after, after_commit, IsPreparedFrom, Leads}
use Rattle.la_proposer.proofs.Keeping.{taking_is, submissions_fit, stands, stands-represented, holding_represented, opening_represented, refinement_represented, counting_represented, noting_represented}
use Rattle.la_proposer.proofs.Once.{few_counted}
use Rattle.la_proposer.proofs.OneEach.{one_each-none, one_each-push, agrees-joined}
use Rattle.la_proposer.proofs.Refusing.{joined-append}

-- while it asks, submissions may wait
asks_waits : (q : ProposerState) → q.is_asking ≡ true → WaitsOnlyAsking q
asks_waits q asks idle = absurd (true≢false (sym asks ∙ idle))

module _ (p : ProposerState) (t : Histories) (is : IsRepresented p t) where
  -- the same, with the submissions as they are written down
  is_written : IsRepresented p (alone p.own (all_submitted p))
  is_written = subst (IsRepresented p) is.held is

  pub nothing_leads : WaitsOnlyAsking p → Leads p Nothing p
  unfolding after_commit IsPreparedFrom
  nothing_leads rests =
      let to = stands p _ is_written (last_of p) p.tally _ refl refl refl in
      record {
        to = to;
        from = (
          stands-represented p _ is_written (last_of p) p.tally _ refl refl refl,
          tt,
          subst WaitsOnlyAsking (sym to) rests,
        );
      }

  module _ (d : ObjectOp) (s : Histories) (s_is : s ≡ with_more t p.own (d ∷ [])) (room : submitted p < p.cap) where
    held : IsRepresented (with_waiting p d) s
    held = subst (IsRepresented (with_waiting p d)) (sym s_is) (holding_represented p t is d room)

    pub holds_leads : p.is_asking ≡ true → Leads p (Holds s) (with_waiting p d)
    unfolding after_commit IsPreparedFrom
    holds_leads asking =
        let to = stands (with_waiting p d) s held (last_of p) p.tally s refl refl refl in
        record {
          to = to;
          from = (
            stands-represented (with_waiting p d) s held (last_of p) p.tally s refl refl refl,
            tt,
            subst WaitsOnlyAsking (sym to) (asks_waits (with_waiting p d) asking),
          );
        }

    pub held_fit : IsCompatible p.updates s
    held_fit = submissions_fit (with_waiting p d) s held

    pub held_taking : (b : Ballot) → b ≡ record { number = p.number + 1; updates = join p.updates s } → b ≡ next_ballot (with_waiting p d)
    held_taking b b_is = b_is ∙ (λ i. record { number = p.number + 1; updates = taking_is (with_waiting p d) s held i })

    pub submits_leads : (b : Ballot) → b ≡ record { number = p.number + 1; updates = join p.updates s } → p.number < 8000000 → Leads p (Submits b s) (after_opening (with_waiting p d))
    unfolding after_commit IsPreparedFrom
    submits_leads b b_is left =
        let q = with_waiting p d in
        let last_is = held_taking b b_is in
        let opened = opening_represented q s held left in
        let to = stands (after_opening q) s opened b [] s last_is refl refl in
        record {
          to = to;
          from = (
            stands-represented (after_opening q) s opened b [] s last_is refl refl,
            tt,
            subst WaitsOnlyAsking (sym to) (asks_waits (after_opening q) refl),
          );
        }

  module _ (from : ℕ) (reply : Reply) (asking : p.is_asking ≡ true) (in_group : from < length p.votes)
      (new : has_counted p.tally from ≡ false) (fits : Fits p reply) where
    counted : IsRepresented (with_reply p from reply) (alone p.own (all_submitted p))
    counted = counting_represented p _ is_written from reply asking in_group new fits

    pub counts_leads : Leads p (Counts (record { from = from; reply = reply })) (with_reply p from reply)
    unfolding after_commit IsPreparedFrom
    counts_leads =
        let to = stands (with_reply p from reply) _ counted (last_of p) (tally_with p.tally from reply) _ refl refl refl in
        record {
          to = to;
          from = (
            stands-represented (with_reply p from reply) _ counted (last_of p) (tally_with p.tally from reply) _ refl
                refl refl,
            tt,
            subst WaitsOnlyAsking (sym to) (asks_waits (with_reply p from reply) asking),
          );
        }

    -- what was joined before agrees with the reply
    pub agrees_last : (set : Histories) → set ≡ joined_with_refusals p.updates p.tally → Agrees set reply
    agrees_last set set_is =
        let c : Counted = record { from = from; reply = reply } in
        let cs = p.tally ++ c ∷ [] in
        subst (λ u. Agrees u reply) (sym set_is)
        (subst (λ xs. Agrees (joined_with_refusals p.updates xs) reply) (take-append_seam p.tally (c ∷ []))
        (agrees-joined p.updates cs (length p.tally) c (one_each-push p from reply is.proposer_state.one_each fits) (omega (arith, length-append p.tally (c ∷ []))) (sym (get_or_push p.tally c c (length p.tally) refl))))

    pub refines_leads : (b : Ballot) (joined set : Histories) → joined ≡ joined_with_refusals p.updates p.tally → set ≡ with_refusal joined reply → b ≡ record { number = p.number + 1; updates = set } → p.number < 8000000 → Leads p (Opens b (record { from = from; counts = told_by p.updates reply })) (after_refinement (with_reply p from reply)) × (b ≡ refined_ballot (with_reply p from reply))
    unfolding after_commit IsPreparedFrom
    refines_leads b joined set joined_is set_is b_is left =
        let q = with_reply p from reply in
        let c : Counted = record { from = from; reply = reply } in
        let updates_is : set ≡ joined_with_refusals p.updates q.tally =
        set_is ∙ ap (λ u. with_refusal u reply) joined_is ∙ sym (joined-append p.updates p.tally c) in
        let last_is : b ≡ refined_ballot q = b_is ∙ ap (λ u. record { number = p.number + 1; updates = u }) updates_is in
        let refined = refinement_represented q _ counted left in
        let asks : (after_refinement q).is_asking ≡ true = asking in
        let to =
        (λ i. proposer_state_of p.votes p.own p.cap b (sym asking i) [] (alone p.own (all_submitted p)) q.reported)
        ∙ stands (after_refinement q) _ refined b [] _ last_is refl refl in (
          record {
            to = to;
            from = (
              subst
                  (λ a.
                  IsRepresented
                  (proposer_state_of p.votes p.own p.cap b a [] (alone p.own (all_submitted p)) q.reported)
                  (alone p.own (all_submitted p))) asking
                  (stands-represented (after_refinement q) _ refined b [] _ last_is refl refl),
              in_group,
              subst WaitsOnlyAsking (sym to) (asks_waits (after_refinement q) asks),
            );
          },
          last_is,
        )

  module _ (from : ℕ) (reply : Reply) (in_group : from < length p.votes) where
    heard : IsRepresented (noted p from reply) (alone p.own (all_submitted p))
    heard = noting_represented p _ is_written from reply

    pub opens_leads : (b : Ballot) → b ≡ record { number = p.number + 1; updates = join p.updates t } → p.number < 8000000 → Leads p (Opens b (record { from = from; counts = told_by p.updates reply })) (after_opening (noted p from reply)) × (b ≡ next_ballot p)
    unfolding after_commit IsPreparedFrom
    opens_leads b b_is left =
        let q = noted p from reply in
        let last_is : b ≡ next_ballot p = b_is ∙ (λ i. record { number = p.number + 1; updates = taking_is p t is i }) in
        let opened = opening_represented q _ heard left in
        let to = stands (after_opening q) _ opened b [] _ last_is refl refl in (
          record {
            to = to;
            from = (
              stands-represented (after_opening q) _ opened b [] _ last_is refl refl,
              in_group,
              subst WaitsOnlyAsking (sym to) (asks_waits (after_opening q) refl),
            );
          },
          last_is,
        )

    closed_represented : IsRepresented (closed (noted p from reply)) (alone p.own (all_submitted p))
    closed_represented = record {
      proposer_state = record {
        known = is.proposer_state.known;
        few = is.proposer_state.few;
        cap = is.proposer_state.cap;
        number = is.proposer_state.number;
        within = is.proposer_state.within;
        at_rest = λ e. refl;
        in_group = All-nil (λ (c : Counted). c.from < length p.votes);
        own_known = All-nil (λ (c : Counted). KnowsNoMore p.updates p.own c.reply);
        one_each = one_each-none p.updates;
        eight = heard.proposer_state.eight;
        once = omega arith;
      };
      held = refl;
    }

    pub closes_leads : p.waiting ≡ [] → Leads p (Closes (record { from = from; counts = told_by p.updates reply })) (closed (noted p from reply))
    unfolding after_commit IsPreparedFrom
    closes_leads none =
        let to = stands (closed (noted p from reply)) _ closed_represented (last_of p) [] _ refl refl refl in
        let rests : WaitsOnlyAsking (closed (noted p from reply)) = λ _. none in
        record {
          to = to;
          from = (
            stands-represented (closed (noted p from reply)) _ closed_represented (last_of p) [] _ refl refl refl,
            in_group,
            subst WaitsOnlyAsking (sym to) rests,
          );
        }

-- ## What is committed

module _ (x : Inside) (q : ProposerState) (view_is : stands_for x ≡ q) (change c : Change) (same : change ≡ c)
    (last : Ballot) (asking : Bool) (tally : List Counted) (u : Histories) (reported : List numbers.Counts)
    (last_is : last ≡ last_after (stands_for x) c) (asking_is : asking ≡ asking_after (stands_for x) c)
    (tally_is : tally ≡ tally_after (stands_for x) c) (u_is : u ≡ submissions_after (stands_for x) c)
    (reported_is : reported ≡ reported_after (stands_for x) c) where
  pub committed : proposer_state_of (votes_of x.votes) x.own x.cap last asking tally u reported ≡ after_commit q change
  unfolding after_commit
  committed =
      (λ i.
      proposer_state_of (votes_of x.votes) x.own x.cap (last_is i) (asking_is i) (tally_is i) (u_is i)
      (reported_is i))
      ∙ ap (λ r. after_commit r c) view_is
      ∙ ap (after_commit q) (sym same)

  committed-represented : IsPreparedFrom q change
      → IsRepresented (proposer_state_of (votes_of x.votes) x.own x.cap last asking tally u reported) u
  unfolding after_commit IsPreparedFrom
  committed-represented from =
      let made = (subst (λ r. IsPreparedFrom r c) (sym view_is) (subst (IsPreparedFrom q) same from)).0 in
      let s = submissions_after (stands_for x) c in
      let told = reported_after (stands_for x) c in
      subst (λ v. IsRepresented (proposer_state_of (votes_of x.votes) x.own x.cap last asking tally u v) u)
      (sym reported_is)
      (subst (λ v. IsRepresented (proposer_state_of (votes_of x.votes) x.own x.cap last asking tally v told) v) (sym u_is)
      (subst (λ ts. IsRepresented (proposer_state_of (votes_of x.votes) x.own x.cap last asking ts s told) s) (sym tally_is)
      (subst (λ a. IsRepresented (proposer_state_of (votes_of x.votes) x.own x.cap last a (tally_after (stands_for x) c) s told) s) (sym asking_is)
      (subst (λ b. IsRepresented (proposer_state_of (votes_of x.votes) x.own x.cap b (asking_after (stands_for x) c) (tally_after (stands_for x) c) s told) s) (sym last_is) made))))

  pub committed_holds : IsPreparedFrom q change
      → IsRepresented (proposer_state_of (votes_of x.votes) x.own x.cap last asking tally u reported) u
      × WaitsOnlyAsking (proposer_state_of (votes_of x.votes) x.own x.cap last asking tally u reported)
  unfolding IsPreparedFrom
  committed_holds from = (committed-represented from, subst WaitsOnlyAsking (sym committed) from.2)

-- where one reply more is a proposer's, there is room for it
pub has_room : (p : ProposerState) (change : Change) (c : Counted) → change ≡ Counts c → IsPreparedFrom p change
    → length p.tally < 8
unfolding after_commit IsPreparedFrom
has_room p change c same from =
    let made = (subst (IsPreparedFrom p) same from).0 in
    omega (
      arith,
      few_counted
          (proposer_state_of p.votes p.own p.cap (last_of p) p.is_asking (p.tally ++ c ∷ [])
          (alone p.own (all_submitted p)) (reported_after p (Counts c))) made.proposer_state,
      length-append p.tally
          (c ∷ []),
    )

-- whom the reply is from that a change notes, there is an entry for
pub counts_known : (p : ProposerState) (change : Change) (c : Counted) → change ≡ Counts c → IsPreparedFrom p change
    → c.from < 8
unfolding after_commit IsPreparedFrom
counts_known p change c same from =
    let made = (subst (IsPreparedFrom p) same from).0.proposer_state in
    omega (
      arith,
      made.few,
      (All-pop (λ (d : Counted). d.from < length p.votes) (p.tally ++ c ∷ []) p.tally (Some c) refl made.in_group).1,
    )

pub opens_known : (p : ProposerState) (change : Change) (b : Ballot) (told : Told) → change ≡ Opens b told
    → IsPreparedFrom p change → told.from < 8
unfolding after_commit IsPreparedFrom
opens_known p change b told same from =
    let made = subst (IsPreparedFrom p) same from in
    omega (arith, made.1, made.0.proposer_state.few)

pub closes_known : (p : ProposerState) (change : Change) (told : Told) → change ≡ Closes told → IsPreparedFrom p change
    → told.from < 8
unfolding after_commit IsPreparedFrom
closes_known p change told same from =
    let made = subst (IsPreparedFrom p) same from in
    omega (arith, made.1, made.0.proposer_state.few)

-- ## Which case it is

pub has_left : (p : ProposerState) → p.is_asking ≡ false → ¬ SubmissionSpends p → p.number < 8000000
has_left p idle spares = elim (cases_lt p.number 8000000) [ inl lt ↦ lt | inr le ↦ absurd (spares (idle, le)) ]

pub submission_holds : (p : ProposerState) (d : ObjectOp) → p.is_asking ≡ true → with_waiting p d ≡ after_submission p d
submission_holds p d asking = ap (λ a. cond a (with_waiting p d) (after_opening (with_waiting p d))) (sym asking)

pub submission_opening : (p : ProposerState) (d : ObjectOp) → p.is_asking ≡ false
    → after_opening (with_waiting p d) ≡ after_submission p d
submission_opening p d idle = ap (λ a. cond a (with_waiting p d) (after_opening (with_waiting p d))) (sym idle)

pub submission_opens_then : (p : ProposerState) (d : ObjectOp) → p.is_asking ≡ false
    → Some (next_ballot (with_waiting p d)) ≡ submission_opens p d
submission_opens_then p d idle = ap (λ a. cond a None (Some (next_ballot (with_waiting p d)))) (sym idle)

is_nothing-empty : (ds : List ObjectOp) → length ds ≡ 0 → is_nothing ds ≡ true
is_nothing-empty [] e = refl
is_nothing-empty (d ∷ ds) e = absurd (omega (arith, e))

is_nothing-some : (ds : List ObjectOp) → ¬ (length ds ≡ 0) → is_nothing ds ≡ false
is_nothing-some [] some = absurd (some refl)
is_nothing-some (d ∷ ds) some = refl

pub learning_closes : (p : ProposerState) → length p.waiting ≡ 0 → closed p ≡ after_learning p
learning_closes p e = ap (λ a. cond a (closed p) (after_opening p)) (sym (is_nothing-empty p.waiting e))

pub learning_reopens : (p : ProposerState) → ¬ (length p.waiting ≡ 0) → after_opening p ≡ after_learning p
learning_reopens p some = ap (λ a. cond a (closed p) (after_opening p)) (sym (is_nothing-some p.waiting some))

pub learning_opens_then : (p : ProposerState) → ¬ (length p.waiting ≡ 0) → Some (next_ballot p) ≡ learning_opens p
learning_opens_then p some = ap (λ a. cond a None (Some (next_ballot p))) (sym (is_nothing-some p.waiting some))

pub waiting_left : (p : ProposerState) → ¬ (length p.waiting ≡ 0) → ¬ StepSpends (not (is_nothing p.waiting)) p
    → p.number < 8000000
waiting_left p some spares =
    elim (cases_lt p.number 8000000)
    [ inl lt ↦ lt | inr le ↦ absurd (spares (ap not (is_nothing-some p.waiting some), le)) ]
