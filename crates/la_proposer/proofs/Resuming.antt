-- What the tests decide by which a proposer is taken up again.
use Rattle.std.proofs.Common.{◌≡◌, ◌≢◌, ℕ, zero, suc, ◌<◌, ◌≤◌, ◌==◌, ◌&&◌, ◌||◌, Bool, true, false, true≢false, List, [], ◌∷◌, ◌++◌, length, drop, All, refl, ap, sym, ◌∙◌, subst, arith, inl, inr, leb, Some, None, if◌then◌else◌}
use Rattle.std.specs.Bool.{Decides}
use Rattle.std.specs.List.{list_all, AllPairs}
use Rattle.std.proofs.lemmas.Bool.{cases_eq, leb-true, le-leb, and_parts, and_from, false_from_ne_true}
use Rattle.std.proofs.lemmas.Bool.Decides.{Decides-and, Decides-like, Decides-by_and, Decides-ltb, Decides-eqb}
use Rattle.std.proofs.lemmas.List.{length-append, take-append-drop}
use Rattle.std.proofs.lemmas.List.Kept.{AllPairs-cons}
use Rattle.std.proofs.lemmas.List.Elements.{All-weaker}
use Rattle.la_set.specs.ObjectOps.{ObjectOp}
use Rattle.la_set.specs.Histories.{Histories, history, count, empty}
use Rattle.la_set.specs.Inclusion.{IsSubset}
use Rattle.la_set.specs.Join.{join, IsCompatible}
use Rattle.la_set.proofs.lemmas.Decisions.{is_subset-Decides}
use Rattle.la_set.proofs.lemmas.Inclusions.{compatible-within, compatible-prefix, subset-refl, subset-antisym}
use Rattle.la_set.proofs.lemmas.Joins.{subset-join_left, subset-join_right}
use Rattle.la_set.proofs.lemmas.SetHistories.{same_histories, history-empty, history-with_other}
use Rattle.la_acceptor.specs.declared.reply.Reply.{Reply}
use Rattle.la_acceptor.specs.declared.reply.Reply.TheVariants.{Yes, No}
use Rattle.la_proposer.specs.declared.parts.ProposerParts.{ProposerParts}
use Rattle.la_proposer.specs.declared.tally.Counted.{Counted}
use Rattle.la_proposer.specs.Majority.{how_many}
use Rattle.la_proposer.specs.Tally.{has_counted}
use Rattle.la_proposer.specs.ProposerState.{ProposerState, WaitsOnlyAsking, CountsOnlyAsking, submitted}
use Rattle.la_proposer.specs.Clashes.{Agrees, AgreeBoth}
use Rattle.la_proposer.specs.Fields.{alone, IsRepresented}
use Rattle.la_proposer.specs.Invariant.{KnowsNoMore}
use Rattle.la_proposer.specs.Resuming.{are_compatible, reply_agrees, replies_agree, agree_in_pairs, has_no_more_own, may_have_counted, have_counted_rightly, is_within_limits, keeps_only_asking, may_resume, IsResumable, submissions_of, is_all_submitted, state_from, parts_may_resume, resumed_from}
use Rattle.la_proposer.proofs.Submissions.{history-alone, alone-compatible}

-- ## Sets that agree

pub are_compatible-Decides : (a b : Histories) → Decides (are_compatible a b) (IsCompatible a b)
are_compatible-Decides a b =
    Decides-like (are_compatible a b) (compatible-within a b (join a b) (subset-join_left a b)) (subset-join_right a b)
    (is_subset-Decides b (join a b))

reply_agrees-Decides : (s : Histories) (r : Reply) → Decides (reply_agrees s r) (Agrees s r)
reply_agrees-Decides s Yes = ((λ _. tt), λ _. refl)
reply_agrees-Decides s (No t) = are_compatible-Decides s t

replies_agree-Decides : (q r : Reply) → Decides (replies_agree q r) (AgreeBoth q r)
replies_agree-Decides Yes r = ((λ _. tt), λ _. refl)
replies_agree-Decides (No s) r = reply_agrees-Decides s r

abbrev Pairs : Counted → Counted → Type 0
Pairs c d = AgreeBoth c.reply d.reply

with_each : (c : Counted) (cs : List Counted)
    → Decides (list_all (λ d. replies_agree c.reply d.reply) cs) (All (Pairs c) cs)
with_each c cs =
    Decides-by_and (λ d. replies_agree c.reply d.reply) (Pairs c) (list_all (λ d. replies_agree c.reply d.reply))
    (λ d. replies_agree-Decides c.reply d.reply) refl (λ _ _. refl) cs

agree_in_pairs-Decides : (cs : List Counted) → Decides (agree_in_pairs cs) (AllPairs Pairs cs)
agree_in_pairs-Decides [] = ((λ _ i j d below lt. absurd (omega arith)), λ _. refl)
agree_in_pairs-Decides (c ∷ cs) =
    Decides-like (agree_in_pairs (c ∷ cs)) (λ both. AllPairs-cons Pairs c cs both.0 both.1)
    (λ pairs. (
      (λ k d lt. pairs zero (suc k) d (omega arith) (omega arith)),
      λ i j d below lt. pairs (suc i) (suc j) d (omega arith) (omega arith),
    ))
    (Decides-and (list_all (λ d. replies_agree c.reply d.reply) cs) (agree_in_pairs cs) (with_each c cs)
    (agree_in_pairs-Decides cs))

-- ## The test of a state

Decides-leb : (a b : ℕ) → Decides (leb a b) (a ≤ b)
Decides-leb a b = (leb-true a b, le-leb a b)

has_no_more_own-Decides : (s : Histories) (own : ℕ) (r : Reply) → Decides (has_no_more_own s own r) (KnowsNoMore s own r)
has_no_more_own-Decides s own Yes = ((λ _. tt), λ _. refl)
has_no_more_own-Decides s own (No t) = Decides-leb (count t own) (count s own)

pub none_of : {X : Type 0} (xs : List X) → length xs ≡ 0 → xs ≡ []
none_of [] e = refl
none_of (x ∷ xs) e = absurd (omega (arith, e))

none-Decides : {X : Type 0} (xs : List X) → Decides (length xs == 0) (xs ≡ [])
none-Decides xs =
    Decides-like (length xs == 0) (none_of xs) (λ e. ap length e) (Decides-eqb (length xs) 0)

rests_by : (b : Bool) (ws : List ObjectOp) (cs : List Counted)
    → Decides (b || ((length ws == 0) && (length cs == 0))) ((b ≡ false → ws ≡ []) × (b ≡ false → cs ≡ []))
rests_by true ws cs = ((λ _. ((λ e. absurd (true≢false e)), λ e. absurd (true≢false e))), λ _. refl)
rests_by false ws cs =
    Decides-like ((length ws == 0) && (length cs == 0)) (λ both. ((λ _. both.0), λ _. both.1))
    (λ rests. (rests.0 refl, rests.1 refl))
    (Decides-and (length ws == 0) (length cs == 0) (none-Decides ws) (none-Decides cs))

module _ (p : ProposerState) where
  record MayHaveCounted (c : Counted) : Type 0 where
    in_group : c.from < length p.votes
    agrees : Agrees p.updates c.reply
    own_known : KnowsNoMore p.updates p.own c.reply

  one-Decides : (c : Counted) → Decides (may_have_counted p c) (MayHaveCounted c)
  one-Decides c =
      Decides-like (may_have_counted p c)
      (λ all. record { in_group = all.0; agrees = all.1.0; own_known = all.1.1 })
      (λ is. (is.in_group, (is.agrees, is.own_known)))
      (Decides-and _ _ (Decides-ltb c.from (length p.votes))
      (Decides-and _ _ (reply_agrees-Decides p.updates c.reply) (has_no_more_own-Decides p.updates p.own c.reply)))

  abbrev HaveCounted : Type 0
  HaveCounted =
      All MayHaveCounted p.tally
      × ((length p.tally ≤ how_many (length p.votes) (has_counted p.tally)) × AllPairs Pairs p.tally)

  counted-Decides : Decides (have_counted_rightly p) HaveCounted
  counted-Decides =
      Decides-and _ _ (Decides-by_and (may_have_counted p) MayHaveCounted (list_all (may_have_counted p)) one-Decides refl (λ _ _. refl) p.tally)
      (Decides-and _ _ (Decides-leb (length p.tally) (how_many (length p.votes) (has_counted p.tally))) (agree_in_pairs-Decides p.tally))

  abbrev IsWithinLimits : Type 0
  IsWithinLimits =
      (p.own < length p.votes)
      × ((length p.votes ≤ 8)
      × ((p.cap ≤ 1000000)
      × ((p.number ≤ 8000000) × ((submitted p ≤ p.cap) × (length p.reported ≡ 8)))))

  pub limits-Decides : Decides (is_within_limits p) IsWithinLimits
  limits-Decides =
      Decides-and _ _ (Decides-ltb p.own (length p.votes))
      (Decides-and _ _ (Decides-leb (length p.votes) 8)
      (Decides-and _ _ (Decides-leb p.cap 1000000)
      (Decides-and _ _ (Decides-leb p.number 8000000)
      (Decides-and _ _ (Decides-leb (submitted p) p.cap) (Decides-eqb (length p.reported) 8)))))

  to_state : IsWithinLimits × ((WaitsOnlyAsking p × CountsOnlyAsking p) × HaveCounted) → IsResumable p
  to_state q = record {
    is_proposer = record {
      known = q.0.0;
      few = q.0.1.0;
      cap = q.0.1.1.0;
      number = q.0.1.1.1.0;
      within = q.0.1.1.1.1.0;
      at_rest = q.1.0.1;
      in_group = All-weaker MayHaveCounted (λ c. c.from < length p.votes) (λ c is. is.in_group) p.tally q.1.1.0;
      own_known = All-weaker MayHaveCounted (λ c. KnowsNoMore p.updates p.own c.reply) (λ c is. is.own_known) p.tally q.1.1.0;
      one_each = record {
        first = All-weaker MayHaveCounted (λ c. Agrees p.updates c.reply) (λ c is. is.agrees) p.tally q.1.1.0;
        pairs = q.1.1.1.1;
      };
      eight = q.0.1.1.1.1.1;
      once = q.1.1.1.0;
    };
    waits = q.1.0.0;
  }

  from_state : IsResumable p → IsWithinLimits × ((WaitsOnlyAsking p × CountsOnlyAsking p) × HaveCounted)
  from_state is =
      let s = is.is_proposer in (
        (s.known, (s.few, (s.cap, (s.number, (s.within, s.eight))))),
        (
          (is.waits, s.at_rest),
          (
            (λ k d lt. record { in_group = s.in_group k d lt; agrees = s.one_each.first k d lt; own_known = s.own_known k d lt }),
            (s.once, s.one_each.pairs),
          ),
        ),
      )

  pub may_resume-Decides : Decides (may_resume p) (IsResumable p)
  unfolding may_resume
  may_resume-Decides =
      Decides-like (may_resume p) to_state from_state
      (Decides-and (is_within_limits p) (keeps_only_asking p && have_counted_rightly p) limits-Decides
      (Decides-and (keeps_only_asking p) (have_counted_rightly p) (rests_by p.is_asking p.waiting p.tally) counted-Decides))

  pub all_submitted-Decides : (s : Histories) → Decides (is_all_submitted p s) (s ≡ submissions_of p)
  unfolding is_all_submitted
  all_submitted-Decides s =
      let t = submissions_of p in
      Decides-like (is_all_submitted p s) (λ both. subset-antisym s t both.0 both.1)
      (λ e. (subst (λ u. IsSubset u t) (sym e) (subset-refl t), subst (IsSubset t) (sym e) (subset-refl t)))
      (Decides-and _ _ (is_subset-Decides s t) (is_subset-Decides t s))

-- ## All that was submitted

module _ (own : ℕ) (known : own < 8) (u t : Histories) where
  -- all that is its own, where it begins with what the ballot's set has
  abbrev pub AllOwn : Histories
  AllOwn = alone own (history u own ++ drop (count u own) (history t own))

  pub record BeginsAs : Type 0 where
    pub more : count u own ≤ count t own
    pub alone : (r : ℕ) → r < 8 → r ≢ own → count t r ≡ 0
    pub one : IsCompatible u t

  pub begins : BeginsAs → t ≡ AllOwn
  begins is =
      let ds = history u own ++ drop (count u own) (history t own) in
      same_histories t AllOwn (λ r lt. elim (cases_eq r own) [
        | inl e ↦
            ap (history t) e
            ∙ sym (take-append-drop (count u own) (history t own))
            ∙ ap (λ xs. xs ++ drop (count u own) (history t own)) (sym (compatible-prefix u t is.one own is.more).front)
            ∙ sym (history-alone own known ds)
            ∙ sym (ap (history AllOwn) e)
        | inr ne ↦ none_of (history t r) (is.alone r lt ne) ∙ sym (history-with_other empty own ds r ne ∙ history-empty r)
      ])

  pub begun : t ≡ AllOwn → BeginsAs
  begun e =
      let ws = drop (count u own) (history t own) in
      record {
        more = omega (
          arith,
          ap (λ s. count s own) e,
          ap length (history-alone own known (history u own ++ ws)),
          length-append (history u own) ws,
        );
        alone = λ r lt ne.
            ap (λ s. count s r) e
            ∙ ap length (history-with_other empty own (history u own ++ ws) r ne ∙ history-empty r);
        one = subst (IsCompatible u) (sym e) (alone-compatible own known u ws);
      }

-- ## What is taken up again

pub resumable_known : (p : ProposerState) → may_resume p ≡ true → p.own < 8
resumable_known p e =
    let is = ((may_resume-Decides p).0 e).is_proposer in omega (arith, is.known, is.few)

-- where the test of the submissions fails
pub not_all : (p : ProposerState) (s : Histories) → ¬ (s ≡ submissions_of p) → false ≡ is_all_submitted p s
not_all p s fails = sym (false_from_ne_true (is_all_submitted p s) (λ e. fails ((all_submitted-Decides p s).0 e)))

pub resumes : (x : ProposerParts) → parts_may_resume x ≡ true
    → IsRepresented (state_from x) x.submissions × WaitsOnlyAsking (state_from x)
resumes x e =
    let both = and_parts (may_resume (state_from x)) (is_all_submitted (state_from x) x.submissions) e in
    let may = (may_resume-Decides (state_from x)).0 both.0 in (
      record {
        proposer_state = may.is_proposer;
        held = (all_submitted-Decides (state_from x) x.submissions).0 both.1;
      },
      may.waits,
    )

-- every proposer may be
pub proposers_resume : (p : ProposerState) (t : Histories) → IsRepresented p t × WaitsOnlyAsking p → may_resume p ≡ true
proposers_resume p t is =
    (may_resume-Decides p).1 (record { is_proposer = is.0.proposer_state; waits = is.1 })

-- and is the same
pub parts_resume : (x : ProposerParts) (p : ProposerState) → state_from x ≡ p
    → IsRepresented p x.submissions × WaitsOnlyAsking p → resumed_from x ≡ Some p
parts_resume x p same is =
    let state : may_resume (state_from x) ≡ true =
    subst (λ q. may_resume q ≡ true) (sym same) (proposers_resume p x.submissions is) in
    let all : is_all_submitted (state_from x) x.submissions ≡ true =
    subst (λ q. is_all_submitted q x.submissions ≡ true) (sym same)
    ((all_submitted-Decides p x.submissions).1 is.0.held) in
    ap (λ b. if b then Some (state_from x) else None)
    (and_from (may_resume (state_from x)) (is_all_submitted (state_from x) x.submissions) state all)
    ∙ ap Some same
