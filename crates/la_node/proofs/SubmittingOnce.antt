-- A proposer that submits once in an instance, whatever replies it hears: it is idle for good once it
-- has learnt.
use Rattle.std.proofs.Common.{◌≡◌, ℕ, ◌≤◌, ◌==◌, ◌&&◌, Bool, true, false, cond, [], ◌∷◌, ◌++◌, length, Option, Some, IsSome, refl, ap, sym, ◌∙◌, subst, arith}
use Rattle.std.proofs.lemmas.Bool.{true≢false}
use Rattle.std.proofs.lemmas.List.{length-append}
use Rattle.std.proofs.lemmas.Option.{none-some, same_Some}
use Rattle.la_set.specs.ObjectOps.{ObjectOp}
use Rattle.la_set.specs.Histories.{Histories, history}
use Rattle.la_set.specs.Inclusion.{is_larger}
use Rattle.la_set.proofs.lemmas.Inclusions.{subset-count}
use Rattle.la_acceptor.specs.declared.reply.Reply.{Reply}
use Rattle.la_acceptor.specs.declared.reply.Reply.TheVariants as replied
use Rattle.la_proposer.specs.declared.ballot.Ballot.{Ballot}
use Rattle.la_proposer.specs.declared.heard.Heard.{Heard}
use Rattle.la_proposer.specs.declared.heard.Heard.TheVariants as heard
use Rattle.la_proposer.specs.declared.tally.Verdict.{Verdict}
use Rattle.la_proposer.specs.declared.tally.Verdict.TheVariants.{Waits, Refines, Learns}
use Rattle.la_proposer.specs.ProposerState.{ProposerState, submitted, is_nothing, closed, with_waiting, with_reply, counts, verdict_of, heard_by, heard_counting, heard_of, after_opening, after_verdict, after_counting, after_reply, after_submission}
use Rattle.la_proposer.proofs.lemmas.Growing.{takes_all}
use Rattle.la_proposer.proofs.lemmas.Theorems.{joined-contains}
use Rattle.la_replica.specs.declared.instance.Instance.{Instance}
use Rattle.la_replica.specs.declared.out.Said.TheVariants as said
use Rattle.la_replica.specs.declared.sender.Sender.{Sender}
use Rattle.la_replica.specs.Whole.{Message, Body, Offer, Yes, No, Tell}
use Rattle.la_replica.specs.Steps.{learnt_in, said_of, last_learnt_after, receives_body}
use Rattle.la_replica.specs.Steps as steps
use Rattle.la_node.specs.Nodes.{SubmitsOnce}

-- ## A proposer that submits once

both_left : (b c : Bool) → (b && c) ≡ true → b ≡ true
both_left true c e = refl
both_left false c e = absurd (true≢false (sym e))

-- what counts is to an open ballot
pub counts_open : (p : ProposerState) (from ballot : ℕ) → counts p from ballot ≡ true → p.is_asking ≡ true
counts_open p from ballot e = both_left p.is_asking _ e

module _ (p : ProposerState) (learnt : Option Ballot) (is : SubmitsOnce p learnt) where
  pub none_learnt : p.is_asking ≡ true → IsSome learnt → ⊥
  none_learnt asks some = true≢false (sym asks ∙ (is.learnt_idles some).0)

  learns : (from ballot : ℕ) (reply : Reply) (w : Bool) → is_nothing p.waiting ≡ w → p.is_asking ≡ true → let q = with_reply p from reply in SubmitsOnce (cond w (closed q) (after_opening q)) (Some (record { number = ballot; updates = q.updates }))
  learns from ballot reply false e asks = absurd (true≢false (sym (ap is_nothing is.waits) ∙ e))
  learns from ballot reply true e asks = record {
    known = is.known;
    cap = is.cap;
    waits = is.waits;
    asks = λ f. absurd (true≢false (sym f));
    learnt_idles = λ some. (refl, is.asks asks);
    unused = is.unused;
  }

  verdict_once : (from ballot : ℕ) (reply : Reply) (v : Verdict) → p.is_asking ≡ true → let q = with_reply p from reply in SubmitsOnce (after_verdict q v) (last_learnt_after learnt ballot (heard_by q v))
  verdict_once from ballot reply Waits asks = record { known = is.known; cap = is.cap; waits = is.waits; asks = is.asks; learnt_idles = is.learnt_idles; unused = is.unused }
  verdict_once from ballot reply Refines asks =
      let q = with_reply p from reply in
      let more = subset-count p.updates (after_verdict q Refines).updates (joined-contains p.updates q.tally) p.own in
      let some = is.asks asks in
      record {
        known = is.known;
        cap = is.cap;
        waits = is.waits;
        asks = λ e. omega (arith, some, more);
        learnt_idles = λ s. absurd (none_learnt asks s);
        unused = λ z. absurd (omega (arith, some, more, z));
      }
  verdict_once from ballot reply Learns asks = learns from ballot reply (is_nothing p.waiting) refl asks

  pub replied_once : (from ballot : ℕ) (reply : Reply)
      → SubmitsOnce (after_reply p from ballot reply) (last_learnt_after learnt ballot (heard_of p from ballot reply))
  replied_once from ballot reply = go (counts p from ballot) refl
    where
      q : ProposerState
      q = with_reply p from reply

      go : (b : Bool) → counts p from ballot ≡ b
          → SubmitsOnce (cond b (after_counting q) p)
          (last_learnt_after learnt ballot (cond b (heard_counting q) heard.Ignored))
      go false e = is
      go true e = verdict_once from ballot reply (verdict_of q) (counts_open p from ballot e)

  -- a reply submits nothing at a proposer that has submitted nothing
  pub replied_before : (from ballot : ℕ) (reply : Reply) → 1 ≤ submitted (after_reply p from ballot reply)
      → 1 ≤ submitted p
  replied_before from ballot reply some = go (counts p from ballot) refl some
    where
      q : ProposerState
      q = with_reply p from reply

      go : (b : Bool) → counts p from ballot ≡ b → 1 ≤ submitted (cond b (after_counting q) p) → 1 ≤ submitted p
      go false e h = h
      go true e h = is.asks (counts_open p from ballot e)

  -- its one submission opens a ballot
  pub submitted_once : (d : ObjectOp) → submitted p ≡ 0 → SubmitsOnce (after_submission p d) learnt
  submitted_once d none = go p.is_asking refl
    where
      q : ProposerState
      q = with_waiting p d

      one : 1 ≤ submitted (after_opening q)
      one =
          let all = ap length (takes_all q is.known) in
          omega
          (arith, all, length-append (history p.updates p.own) (p.waiting ++ d ∷ []), length-append p.waiting (d ∷ []))

      go : (b : Bool) → p.is_asking ≡ b → SubmitsOnce (cond b q (after_opening q)) learnt
      go true e = let some = is.asks e in absurd (omega (arith, some, none))
      go false e = record {
        known = is.known;
        cap = is.cap;
        waits = refl;
        asks = λ f. one;
        learnt_idles = λ some. let h = (is.learnt_idles some).1 in absurd (omega (arith, h, none));
        unused = λ z. absurd (omega (arith, z, one));
      }

-- ## An instance

-- how an instance of an object goes on
pub record Advances (x y : Instance) : Type 0 where
  pub once : SubmitsOnce y.proposer y.learnt
  pub learnt : IsSome x.learnt → y.learnt ≡ x.learnt
  pub submitted : 1 ≤ submitted y.proposer → 1 ≤ submitted x.proposer

-- what was learnt stays, since no reply counts then
learnt_still : (p : ProposerState) (o : Option Ballot) → SubmitsOnce p o → (from ballot : ℕ) (reply : Reply) → IsSome o
    → last_learnt_after o ballot (heard_of p from ballot reply) ≡ o
learnt_still p o is from ballot reply some = go (counts p from ballot) refl
  where
    go : (b : Bool) → counts p from ballot ≡ b
        → last_learnt_after o ballot (cond b (heard_counting (with_reply p from reply)) heard.Ignored) ≡ o
    go false e = refl
    go true e = absurd (none_learnt p o is (counts_open p from ballot e) some)

same_advances : (x y : Instance) → y.proposer ≡ x.proposer → y.learnt ≡ x.learnt → SubmitsOnce x.proposer x.learnt
    → Advances x y
same_advances x y pe le is = record {
  once = subst (λ (z : ProposerState × Option Ballot). SubmitsOnce z.0 z.1) (λ j. (sym pe j, sym le j)) is;
  learnt = λ some. le;
  submitted = λ some. subst (λ z. 1 ≤ submitted z) pe some;
}

reply_advances : (s : Sender) (x : Instance) (view : Histories) (m : Message) (reply : Reply)
    → SubmitsOnce x.proposer x.learnt → Advances x (steps.hears s x view m reply).at
reply_advances s x view m reply is = record {
  once = replied_once x.proposer x.learnt is m.from m.ballot reply;
  learnt = learnt_still x.proposer x.learnt is m.from m.ballot reply;
  submitted = replied_before x.proposer x.learnt is m.from m.ballot reply;
}

pub body_advances : (s : Sender) (x : Instance) (view : Histories) (m : Message) (b : Body)
    → SubmitsOnce x.proposer x.learnt → Advances x (receives_body s x view m b).at
body_advances s x view m (Offer offered) is = same_advances x _ refl refl is
body_advances s x view m Yes is = reply_advances s x view m replied.Yes is
body_advances s x view m (No accepted) is = reply_advances s x view m (replied.No accepted) is
body_advances s x view m (Tell told) is = same_advances x _ refl refl is

-- ## A learning

told_none : (b c : Bool) (told s : Histories)
    → learnt_in (cond b (cond c (said.Took told) said.Kept) said.Ignored) ≡ Some s → ⊥
told_none true true told s e = none-some s e
told_none true false told s e = none-some s e
told_none false c told s e = none-some s e

-- a reply by which a set is learnt counts, and the set is kept
learning_counts : (p : ProposerState) (from ballot : ℕ) (reply : Reply) (s : Histories)
    → learnt_in (said_of (heard_of p from ballot reply)) ≡ Some s → counts p from ballot ≡ true
learning_counts p from ballot reply s e = go (counts p from ballot) e
  where
    go : (b : Bool) → learnt_in (said_of (cond b (heard_counting (with_reply p from reply)) heard.Ignored)) ≡ Some s
        → b ≡ true
    go true h = refl
    go false h = absurd (none-some s h)

learning_keeps : (o : Option Ballot) (n : ℕ) (h : Heard) (s : Histories) → learnt_in (said_of h) ≡ Some s → last_learnt_after o n h ≡ Some (record { number = n; updates = s })
learning_keeps o n heard.Counted s e = absurd (none-some s e)
learning_keeps o n heard.Ignored s e = absurd (none-some s e)
learning_keeps o n (heard.Refined b) s e = absurd (none-some s e)
learning_keeps o n (heard.Learnt t next) s e = ap (λ u. Some (record { number = n; updates = u })) (same_Some t s e)

-- what it comes to where it is a reply; nothing else learns
abbrev pub Counting : Instance → Message → Body → Type 0
Counting x m (Offer offered) = ⊥
Counting x m Yes = counts x.proposer m.from m.ballot ≡ true
Counting x m (No accepted) = counts x.proposer m.from m.ballot ≡ true
Counting x m (Tell told) = ⊥

pub body_counts : (s : Sender) (x : Instance) (view : Histories) (m : Message) (b : Body) (set : Histories)
    → learnt_in (receives_body s x view m b).said ≡ Some set → Counting x m b
body_counts s x view m (Offer offered) set e = none-some set e
body_counts s x view m Yes set e = learning_counts x.proposer m.from m.ballot replied.Yes set e
body_counts s x view m (No accepted) set e = learning_counts x.proposer m.from m.ballot (replied.No accepted) set e
body_counts s x view m (Tell told) set e = told_none (s.instance == 0) (is_larger view told) told set e

pub body_learns : (s : Sender) (x : Instance) (view : Histories) (m : Message) (b : Body) (set : Histories) → learnt_in (receives_body s x view m b).said ≡ Some set → (x.proposer.is_asking ≡ true) × ((receives_body s x view m b).at.learnt ≡ Some (record { number = m.ballot; updates = set }))
body_learns s x view m (Offer offered) set e = absurd (none-some set e)
body_learns s x view m Yes set e = (
  counts_open x.proposer m.from m.ballot (learning_counts x.proposer m.from m.ballot replied.Yes set e),
  learning_keeps
      x.learnt m.ballot (heard_of x.proposer m.from m.ballot replied.Yes) set e,
)
body_learns s x view m (No accepted) set e = (
  counts_open x.proposer m.from m.ballot (learning_counts x.proposer m.from m.ballot (replied.No accepted) set e),
  learning_keeps x.learnt m.ballot (heard_of x.proposer m.from m.ballot (replied.No accepted)) set e,
)
body_learns s x view m (Tell told) set e = absurd (told_none (s.instance == 0) (is_larger view told) told set e)
