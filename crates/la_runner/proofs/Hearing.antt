-- A reply that counts, and a submission: what they leave.
use Rattle.std.proofs.Common.{◌≡◌, ◌≢◌, ◌⊎◌, inl, inr, ℕ, ◌+◌, ◌<◌, ◌≤◌, Bool, true, false, true≢false, cond, IsTrue, List, [], ◌∷◌, ◌++◌, length, Some, refl, ap, ap₂, sym, ◌∙◌, subst, arith, append_assoc, append-nil, length-append, ◌&&◌, ◌==◌, not, eq-eqb}
use Rattle.std.proofs.lemmas.Bool.{cond_both, or_cases, and_parts, eqb-true, cases_Bool}
use Rattle.la_set.specs.declared.update.Update.{Update}
use Rattle.la_set.specs.ObjectOps.{ObjectOp, object_op_of}
use Rattle.la_set.specs.Histories.{Histories, history, count, object_op_number, ContainsUpdate, has_update}
use Rattle.la_set.proofs.lemmas.Theorems.{history-with_same, history-with_other}
use Rattle.la_set.proofs.lemmas.Theorems.{object_op-contains, contains-object_op, subset-refl, subset-trans}
use Rattle.la_set.proofs.lemmas.Theorems.{contains-join_cases}
use Rattle.la_set.proofs.lemmas.Theorems.{has_update-Decides}
use Rattle.la_acceptor.specs.declared.reply.Reply.{Reply}
use Rattle.la_acceptor.specs.declared.reply.Reply.TheVariants.{Yes, No}
use Rattle.la_proposer.specs.declared.heard.Heard.{Heard}
use Rattle.la_proposer.specs.declared.heard.Heard.TheVariants as said
use Rattle.la_proposer.specs.declared.tally.Counted.{Counted}
use Rattle.la_proposer.specs.declared.tally.Verdict.{Verdict}
use Rattle.la_proposer.specs.declared.tally.Verdict.TheVariants.{Waits, Refines, Learns}
use Rattle.la_proposer.specs.Majority.{is_majority}
use Rattle.la_proposer.specs.Tally.{tally_with, said_yes, is_yes, has_refusal, has_counted, verdict, with_refusal, joined_with_refusals}
use Rattle.la_proposer.specs.ProposerState.{ProposerState, with_more, with_waiting, with_reply, counts, is_nothing, closed, after_opening, after_verdict, after_counting, after_reply, after_submission, verdict_of, heard_by, heard_counting, heard_of}
use Rattle.la_proposer.specs.Inputs.{all_submitted}
use Rattle.la_proposer.specs.Clashes.{Fits}
use Rattle.la_proposer.specs.Invariant.{IsProposerState}
use Rattle.la_proposer.proofs.lemmas.Theorems.{joined-contains}
use Rattle.la_proposer.proofs.lemmas.Theorems.{history-joined, counting_keeps, more_contains}
use Rattle.la_shared.specs.History.{HasEntry}
use Rattle.la_shared.specs.Passes.{Known}
use Rattle.la_runner.specs.Certificates.{mine_at}
use Rattle.la_runner.specs.Sound.{IsSound, HasReply, WasTold}
use Rattle.la_runner.specs.Following.{GoOn, Beyond, FollowsProposer, SubmitsNothing, Goes, IsLearnt, IfLearnt, StaysOpen, IsOpenOrWhole}
use Rattle.la_runner.proofs.Passing.{on_refl}

-- ## Counted replies

pub reply_push : (cs : List Counted) (c : Counted) (a : ℕ) (r : Reply) → HasReply (cs ++ c ∷ []) a r
    → HasReply cs a r ⊎ ((c.from ≡ a) × (c.reply ≡ r))
reply_push [] c a r (inl e) = inr e
reply_push [] c a r (inr e) = absurd e
reply_push (d ∷ cs) c a r (inl e) = inl (inl e)
reply_push (d ∷ cs) c a r (inr e) = elim (reply_push cs c a r e) [ inl old ↦ inl (inr old) | inr new ↦ inr new ]

yes_is : (r : Reply) → is_yes r ≡ true → r ≡ Yes
yes_is Yes e = refl
yes_is (No s) e = absurd (true≢false (sym e))

pub said_yes_has : (cs : List Counted) (a : ℕ) → said_yes cs a ≡ true → HasReply cs a Yes
said_yes_has [] a e = absurd (true≢false (sym e))
said_yes_has (c ∷ cs) a e = elim (or_cases ((c.from == a) && is_yes c.reply) (said_yes cs a) e) [
  | inl here ↦ let both = and_parts (c.from == a) (is_yes c.reply) here in inl (eqb-true c.from a both.0, yes_is c.reply both.1)
  | inr there ↦ inr (said_yes_has cs a there)
]

refused_cases : (s : Histories) (r : Reply) (u : Update) → ContainsUpdate (with_refusal s r) u
    → ContainsUpdate s u ⊎ ((w : Histories) × (r ≡ No w) × ContainsUpdate w u)
refused_cases s Yes u e = inl e
refused_cases s (No w) u e = elim (contains-join_cases s w u e) [ inl old ↦ inl old | inr new ↦ inr (w, refl, new) ]

-- what a refinement adds, some counted refusal has
joined_cases : (s : Histories) (cs : List Counted) (u : Update) → ContainsUpdate (joined_with_refusals s cs) u
    → ContainsUpdate s u ⊎ ((b : ℕ) × (w : Histories) × HasReply cs b (No w) × ContainsUpdate w u)
joined_cases s [] u e = inl e
joined_cases s (c ∷ cs) u e = elim (joined_cases (with_refusal s c.reply) cs u e) [
  | inl first ↦ elim (refused_cases s c.reply u first) [ inl old ↦ inl old | inr new ↦ inr (c.from, new.0, inl (refl, new.1), new.2) ]
  | inr later ↦ inr (later.0, later.1, inr later.2, later.3)
]

nothing_is : (ds : List ObjectOp) → is_nothing ds ≡ true → ds ≡ []
nothing_is [] e = refl
nothing_is (d ∷ ds) e = absurd (true≢false (sym e))

-- with more of a replica's updates, a set has no others of another replica
others_had : (s : Histories) (own : ℕ) (ds : List ObjectOp) (u : Update) → u.id.replica ≢ own
    → ContainsUpdate (with_more s own ds) u → ContainsUpdate s u
others_had s own ds u other e =
    contains-object_op s u
    (subst (λ h. object_op_number h u.id.number ≡ Some (object_op_of u))
    (history-with_other s own (history s own ++ ds) u.id.replica other)
    (object_op-contains (with_more s own ds) u e))

verdict_learns : (x y : Bool) → cond x Learns (cond y Refines Waits) ≡ Learns → x ≡ true
verdict_learns true y e = refl
verdict_learns false true e = absurd (cc)
verdict_learns false false e = absurd (cc)

pub learns_majority : (votes : List ℕ) (cs : List Counted) → verdict votes cs ≡ Learns
    → IsTrue (is_majority votes (said_yes cs))
learns_majority votes cs e =
    verdict_learns (is_majority votes (said_yes cs)) (has_refusal cs && is_majority votes (has_counted cs)) e

-- ## A reply that counts

more_count : (s : Histories) (own : ℕ) (ds : List ObjectOp) → own < 8
    → count (with_more s own ds) own ≡ count s own + length ds
more_count s own ds small =
    ap length (history-with_same s own (history s own ++ ds) own small refl) ∙ length-append (history s own) ds

module _ (p : ProposerState) (ps qs : List Known) (a : ℕ) (r : Reply) (is : IsSound p qs) (go : GoOn ps qs)
    (entry : HasEntry (mine_at qs a) p.updates r) (fresh : r ≡ Yes → Beyond ps qs a p.updates) (fits : Fits p r)
    (asking : p.is_asking ≡ true) (new : has_counted p.tally a ≡ false) (in_group : a < length p.votes) where
  small : p.own < 8
  small = let known = is.proposer.known in let few = is.proposer.few in omega arith

  counted_now : (b : ℕ) (t : Reply) → HasReply (tally_with p.tally a r) b t → HasEntry (mine_at qs b) p.updates t
  counted_now b t y = elim (reply_push p.tally (record { from = a; reply = r }) b t y) [
    | inl old ↦ is.counted b t old
    | inr new ↦ subst (λ (z : ℕ × Reply). HasEntry (mine_at qs z.0) p.updates z.1) (λ i. (new.0 i, new.1 i)) entry
  ]

  fresh_now : (b : ℕ) → HasReply (tally_with p.tally a r) b Yes → HasReply p.tally b Yes ⊎ Beyond ps qs b p.updates
  fresh_now b y = elim (reply_push p.tally (record { from = a; reply = r }) b Yes y) [
    | inl old ↦ inl old
    | inr new ↦ inr (subst (λ z. Beyond ps qs z p.updates) new.0 (fresh new.1))
  ]

  told_now : (u : Update) → ContainsUpdate (joined_with_refusals p.updates (tally_with p.tally a r)) u
      → u.id.replica ≢ p.own → WasTold qs u
  told_now u here other = elim (joined_cases p.updates (tally_with p.tally a r) u here) [
    | inl old ↦ is.told u old other
    | inr new ↦ elim (cases_Bool (has_update p.updates u)) [
      | inl has ↦ is.told u ((has_update-Decides p.updates u).0 has) other
      | inr lacks ↦ (new.0, p.updates, new.1, counted_now new.0 (No new.1) new.2, new.3, λ has. true≢false (sym ((has_update-Decides p.updates u).1 has) ∙ lacks))
    ]
  ]

  joined_same : history (joined_with_refusals p.updates (tally_with p.tally a r)) p.own ≡ history p.updates p.own
  joined_same =
      history-joined p.updates p.own (tally_with p.tally a r)
      (counting_keeps p a r is.proposer asking in_group new fits).own_known

  sound_by : (v : Verdict) → IsProposerState (after_verdict (with_reply p a r) v)
      → IsSound (after_verdict (with_reply p a r) v) qs
  sound_by Waits now = record { proposer = now; rests = is.rests; asks_own = is.asks_own; sizes = is.sizes; are = is.are; within = is.within; counted = counted_now; told = is.told }
  sound_by Refines now = record {
    proposer = now;
    rests = is.rests;
    asks_own = λ _. subst (λ k. 1 ≤ k) (sym (ap length joined_same)) (is.asks_own asking);
    sizes = is.sizes;
    are = is.are;
    within =
        λ b s t e.
        subset-trans s p.updates (joined_with_refusals p.updates (tally_with p.tally a r)) (is.within b s t e)
        (joined-contains p.updates (tally_with p.tally a r));
    counted = λ b t y. absurd y;
    told = told_now;
  }
  sound_by Learns now =
      cond_both (is_nothing p.waiting) (closed (with_reply p a r)) (after_opening (with_reply p a r))
      (λ q. IsProposerState q → IsSound q qs)
      (λ e state. record {
        proposer = state;
        rests = λ _. nothing_is p.waiting e;
        asks_own = λ asked. absurd (true≢false (sym asked));
        sizes = is.sizes;
        are = is.are;
        within = is.within;
        counted = λ b t y. absurd y;
        told = is.told;
      })
      (λ e state. record {
        proposer = state;
        rests = λ idle. absurd (true≢false idle);
        asks_own =
            λ _. let more = more_count p.updates p.own p.waiting small in let had = is.asks_own asking in omega arith;
        sizes = is.sizes;
        are = is.are;
        within =
            λ b s t x.
            subset-trans s p.updates (with_more p.updates p.own p.waiting) (is.within b s t x)
            (more_contains p.updates p.own p.waiting small);
        counted = λ b t y. absurd y;
        told = λ u here other. is.told u (others_had p.updates p.own p.waiting u other here) other;
      })
      now

  follows_by : (v : Verdict) → FollowsProposer p (after_verdict (with_reply p a r) v) ps qs
  follows_by Waits = record {
    votes = refl;
    own = refl;
    cap = refl;
    passes = go;
    number = omega arith;
    grows = subset-refl p.updates;
    same = λ _. refl;
    fresh = λ b y. elim (fresh_now b y) [ inl old ↦ inl (refl, old) | inr new ↦ inr new ];
  }
  follows_by Refines = record {
    votes = refl;
    own = refl;
    cap = refl;
    passes = go;
    number = omega arith;
    grows = joined-contains p.updates (tally_with p.tally a r);
    same = λ e. absurd (omega arith);
    fresh = λ b y. absurd y;
  }
  follows_by Learns =
      cond_both (is_nothing p.waiting) (closed (with_reply p a r)) (after_opening (with_reply p a r))
      (λ q. FollowsProposer p q ps qs)
      (λ e. record {
        votes = refl;
        own = refl;
        cap = refl;
        passes = go;
        number = omega arith;
        grows = subset-refl p.updates;
        same = λ _. refl;
        fresh = λ b y. absurd y;
      })
      (λ e. record {
        votes = refl;
        own = refl;
        cap = refl;
        passes = go;
        number = omega arith;
        grows = more_contains p.updates p.own p.waiting small;
        same = λ x. absurd (omega arith);
        fresh = λ b y. absurd y;
      })

  submits_by : (v : Verdict) → SubmitsNothing p (after_verdict (with_reply p a r) v)
  submits_by Waits = refl
  submits_by Refines =
      ap (λ h. h ++ p.waiting)
      (history-joined p.updates p.own (tally_with p.tally a r)
      (counting_keeps p a r is.proposer asking in_group new fits).own_known)
  submits_by Learns =
      cond_both (is_nothing p.waiting) (closed (with_reply p a r)) (after_opening (with_reply p a r)) (SubmitsNothing p)
      (λ e. refl)
      (λ e.
      append-nil (history (with_more p.updates p.own p.waiting) p.own)
      ∙ history-with_same p.updates p.own (history p.updates p.own ++ p.waiting) p.own small refl)

  learnt_by : (v : Verdict) → v ≡ verdict_of (with_reply p a r)
      → IfLearnt (heard_by (with_reply p a r) v) (IsLearnt p ps qs p.number)
  learnt_by Waits e = tt
  learnt_by Refines e = tt
  learnt_by Learns e =
      let now : List Counted = tally_with p.tally a r in
      let most = learns_majority p.votes now (sym e) in
      record {
        own = (said_yes now, most, λ b y. counted_now b Yes (said_yes_has now b y));
        number = omega arith;
        grown = subset-refl p.updates;
        same = λ _. refl;
        since = (
          said_yes now,
          most,
          λ b y. elim (fresh_now b (said_yes_has now b y)) [ inl old ↦ inl (refl, old) | inr new ↦ inr new ],
        );
        taken = (p.waiting, refl);
        some = is.asks_own asking;
      }

  stays_by : (v : Verdict) → StaysOpen (heard_by (with_reply p a r) v) p (after_verdict (with_reply p a r) v)
  stays_by Waits = (asking, refl)
  stays_by Refines = (asking, omega arith)
  stays_by Learns =
      cond_both (is_nothing p.waiting) (closed (with_reply p a r)) (after_opening (with_reply p a r))
      (λ q. IsOpenOrWhole q p.updates)
      (λ e. inr (let none = ap length (nothing_is p.waiting e) in omega arith))
      (λ e. inl refl)

  module _ (heard : Heard) (q : ProposerState) (state : IsProposerState q) (counted : counts p a p.number ≡ true)
      (said_is : heard ≡ heard_of p a p.number r) (is_after : q ≡ after_reply p a p.number r) where
    after_is : after_counting (with_reply p a r) ≡ q
    after_is = sym (is_after ∙ ap (λ b. cond b (after_counting (with_reply p a r)) p) counted)

    heard_is : heard_counting (with_reply p a r) ≡ heard
    heard_is = sym (said_is ∙ ap (λ b. cond b (heard_counting (with_reply p a r)) said.Ignored) counted)

    hears_sound : IsSound q qs
    hears_sound =
        subst (λ z. IsSound z qs) after_is
        (sound_by (verdict_of (with_reply p a r)) (subst IsProposerState (sym after_is) state))

    hears_follows : FollowsProposer p q ps qs
    hears_follows = subst (λ z. FollowsProposer p z ps qs) after_is (follows_by (verdict_of (with_reply p a r)))

    hears_nothing : SubmitsNothing p q
    hears_nothing = subst (SubmitsNothing p) after_is (submits_by (verdict_of (with_reply p a r)))

    hears_learnt : IfLearnt heard (IsLearnt p ps qs p.number)
    hears_learnt =
        subst (λ h. IfLearnt h (IsLearnt p ps qs p.number)) heard_is (learnt_by (verdict_of (with_reply p a r)) refl)

    hears_stays : StaysOpen heard p q
    hears_stays =
        subst (λ (z : Heard × ProposerState). StaysOpen z.0 p z.1) (λ i. (heard_is i, after_is i))
        (stays_by (verdict_of (with_reply p a r)))

    -- what a reply that counts leaves, and what it comes to
    pub hears : Goes p ps q qs × IfLearnt heard (IsLearnt p ps qs p.number) × StaysOpen heard p q
    hears = (record { sound = hears_sound; follows = hears_follows; nothing = hears_nothing }, hears_learnt, hears_stays)

-- the ballot is open, and an acceptor has not counted there
pub counts_open : (p : ProposerState) (a : ℕ) → p.is_asking ≡ true → has_counted p.tally a ≡ false
    → counts p a p.number ≡ true
counts_open p a asking none =
    ap₂ (λ b d. b && ((p.number == p.number) && not d)) asking none ∙ ap (λ b. b && true) (eq-eqb p.number p.number refl)

-- ## A submission

pub submission_asks : (p : ProposerState) (d : ObjectOp) → (after_submission p d).is_asking ≡ true
submission_asks p d =
    cond_both p.is_asking (with_waiting p d) (after_opening (with_waiting p d)) (λ q. q.is_asking ≡ true) (λ e. e)
    (λ e. refl)

module _ (p : ProposerState) (ps : List Known) (d : ObjectOp) (is : IsSound p ps) where
  small_own : p.own < 8
  small_own = let known = is.proposer.known in let few = is.proposer.few in omega arith

  pub submission_sound : IsProposerState (after_submission p d) → IsSound (after_submission p d) ps
  submission_sound now =
      cond_both p.is_asking (with_waiting p d) (after_opening (with_waiting p d)) (λ q. IsProposerState q → IsSound q ps)
      (λ e state. record {
        proposer = state;
        rests = λ idle. absurd (true≢false (sym e ∙ idle));
        asks_own = is.asks_own;
        sizes = is.sizes;
        are = is.are;
        within = is.within;
        counted = is.counted;
        told = is.told;
      })
      (λ e state. record {
        proposer = state;
        rests = λ idle. absurd (true≢false idle);
        asks_own =
            λ _.
            let more = more_count p.updates p.own (p.waiting ++ d ∷ []) small_own in
            let long = length-append p.waiting (d ∷ []) in omega arith;
        sizes = is.sizes;
        are = is.are;
        within =
            λ b s t x.
            subset-trans s p.updates (with_more p.updates p.own (p.waiting ++ d ∷ [])) (is.within b s t x)
            (more_contains p.updates p.own (p.waiting ++ d ∷ []) small_own);
        counted = λ b t y. absurd y;
        told = λ u here other. is.told u (others_had p.updates p.own (p.waiting ++ d ∷ []) u other here) other;
      })
      now

  pub submission_follows : FollowsProposer p (after_submission p d) ps ps
  submission_follows =
      cond_both p.is_asking (with_waiting p d) (after_opening (with_waiting p d)) (λ q. FollowsProposer p q ps ps)
      (λ e. record {
        votes = refl;
        own = refl;
        cap = refl;
        passes = on_refl ps;
        number = omega arith;
        grows = subset-refl p.updates;
        same = λ _. refl;
        fresh = λ b y. inl (refl, y);
      })
      (λ e. record {
        votes = refl;
        own = refl;
        cap = refl;
        passes = on_refl ps;
        number = omega arith;
        grows = more_contains p.updates p.own (p.waiting ++ d ∷ []) small_own;
        same = λ x. absurd (omega arith);
        fresh = λ b y. absurd y;
      })

  pub submission_adds : all_submitted (after_submission p d) ≡ all_submitted p ++ d ∷ []
  submission_adds =
      cond_both p.is_asking (with_waiting p d) (after_opening (with_waiting p d))
      (λ q. all_submitted q ≡ all_submitted p ++ d ∷ [])
      (λ e. sym (append_assoc (history p.updates p.own) p.waiting (d ∷ [])))
      (λ e. append-nil (history (with_more p.updates p.own (p.waiting ++ d ∷ [])) p.own)
      ∙ history-with_same p.updates p.own (history p.updates p.own ++ (p.waiting ++ d ∷ [])) p.own small_own refl
      ∙ sym (append_assoc (history p.updates p.own) p.waiting (d ∷ [])))
