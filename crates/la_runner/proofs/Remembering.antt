-- What had counted still counts, whatever replies are heard.
use Rattle.std.proofs.Common.{◌≡◌, ◌≢◌, ◌⊎◌, inl, inr, ℕ, ◌<◌, ◌≤◌, Bool, true, false, true≢false, cond, List, [], ◌∷◌, ◌++◌, Some, refl, ap, sym, ◌∙◌, subst, arith, append_assoc, append-nil, ◌&&◌, ◌==◌, not, eq-eqb}
use Rattle.std.specs.List.{slice_get, slice_set}
use Rattle.std.proofs.lemmas.Bool.{cases_eq, cases_Bool, eqb-true}
use Rattle.std.proofs.lemmas.Option.{slice_get_within}
use mathlib.Core.List.{IsPrefix}
use Rattle.la_acceptor.specs.declared.reply.Reply.{Reply}
use Rattle.la_proposer.specs.declared.tally.Verdict.{Verdict}
use Rattle.la_proposer.specs.declared.tally.Verdict.TheVariants.{Waits, Refines, Learns}
use Rattle.la_proposer.specs.Tally.{has_counted}
use Rattle.la_proposer.specs.ProposerState.{ProposerState, with_reply, counts, is_nothing, closed, after_opening, after_verdict, after_counting, after_reply, verdict_of}
use Rattle.la_shared.specs.declared.entry.Entry.{Entry}
use Rattle.la_shared.specs.History.{kept_if}
use Rattle.la_shared.specs.Passes.{Known}
use Rattle.la_shared.proofs.lemmas.Theorems.{prefix_self}
use Rattle.la_runner.specs.Certificates.{mine_of, mine_at}
use Rattle.la_runner.specs.Heard.{Answered, entries_at, after_answers, Hears, HearsMost, StillCounts}
use Rattle.la_runner.proofs.Certified.{mine_at_is}
use Rattle.la_runner.proofs.Passing.{prefix_trans, get-set_same, get-set_other}

-- ## One reply

-- it leaves the ballot with all that had counted, ends it, or opens a later one
data Turns (p q : ProposerState) : Type 0 where
  stays : q.number ≡ p.number → IsPrefix p.tally q.tally → Turns p q
  ends : q.number ≡ p.number → q.is_asking ≡ false → Turns p q
  opens : p.number < q.number → Turns p q

module _ (p : ProposerState) (a n : ℕ) (r : Reply) where
  abbrev counting : ProposerState
  counting = with_reply p a r

  learning_turns : (v : Bool) → Turns p (cond v (closed counting) (after_opening counting))
  learning_turns true = ends refl refl
  learning_turns false = opens (omega arith)

  verdict_turns : (v : Verdict) → Turns p (after_verdict counting v)
  verdict_turns Waits = stays refl (record { from = a; reply = r } ∷ [], refl)
  verdict_turns Refines = opens (omega arith)
  verdict_turns Learns = learning_turns (is_nothing p.waiting)

  reply_turns : Turns p (after_reply p a n r)
  reply_turns = go (counts p a n)
    where
      go : (v : Bool) → Turns p (cond v (after_counting counting) p)
      go true = verdict_turns (verdict_of counting)
      go false = stays refl (prefix_self p.tally)

  -- where no ballot is open it is ignored
  ignored : p.is_asking ≡ false → after_reply p a n r ≡ p
  ignored e = ap (λ b. cond (b && ((p.number == n) && not (has_counted p.tally a))) (after_counting counting) p) e

-- ## A list of them

abbrev after_one : ProposerState → Answered → ProposerState
after_one p x = after_reply p x.acceptor p.number x.entry.reply

one_turns : (p : ProposerState) (x : Answered) → Turns p (after_one p x)
one_turns p x = reply_turns p x.acceptor p.number x.entry.reply

rests : (p : ProposerState) (xs : List Answered) → p.is_asking ≡ false → after_answers p xs ≡ p
rests p [] e = refl
rests p (x ∷ xs) e = ap (λ q. after_answers q xs) (ignored p x.acceptor p.number x.entry.reply e) ∙ rests p xs e

grows : (p : ProposerState) (xs : List Answered) → p.number ≤ (after_answers p xs).number
grows p [] = omega arith
grows p (x ∷ xs) = go (after_one p x) (one_turns p x) (grows (after_one p x) xs)
  where
    go : (q : ProposerState) → Turns p q → q.number ≤ (after_answers q xs).number
        → p.number ≤ (after_answers q xs).number
    go q (stays n t) le = omega (arith, n, le)
    go q (ends n e) le = omega (arith, n, le)
    go q (opens lt) le = omega (arith, lt, le)

-- as long as the same ballot is open
counted_stay : (p : ProposerState) (xs : List Answered) → (after_answers p xs).is_asking ≡ true
    → (after_answers p xs).number ≡ p.number → IsPrefix p.tally (after_answers p xs).tally
counted_stay p [] asks same = prefix_self p.tally
counted_stay p (x ∷ xs) asks same = go (after_one p x) (one_turns p x) asks same (counted_stay (after_one p x) xs)
  where
    go : (q : ProposerState) → Turns p q → (after_answers q xs).is_asking ≡ true
        → (after_answers q xs).number ≡ p.number
        → ((after_answers q xs).is_asking ≡ true → (after_answers q xs).number ≡ q.number
        → IsPrefix q.tally (after_answers q xs).tally) → IsPrefix p.tally (after_answers q xs).tally
    go q (stays n t) last is rest = prefix_trans p.tally q.tally (after_answers q xs).tally t (rest last (is ∙ sym n))
    go q (ends n idle) last is rest =
        absurd (true≢false (sym last ∙ ap (λ (z : ProposerState). z.is_asking) (rests q xs idle) ∙ idle))
    go q (opens lt) last is rest = absurd (omega (arith, grows q xs, lt, is))

-- where a ballot is open, what had counted in it still counts
pub still_counts : (p q : ProposerState) (ps qs : List Known) (missed : List Answered) → Hears p q ps qs missed
    → (q.number ≡ p.number → q.updates ≡ p.updates) → q.is_asking ≡ true → StillCounts p q
still_counts p q ps qs missed h same asks = record {
  offers = same;
  counted = λ e. subst (λ (z : ProposerState). IsPrefix p.tally z.tally) (sym h.leads)
      (counted_stay p h.heard (ap (λ (z : ProposerState). z.is_asking) (sym h.leads) ∙ asks)
      (ap (λ (z : ProposerState). z.number) (sym h.leads) ∙ e));
}

-- ## One offer after another

answers_then : (p : ProposerState) (xs ys : List Answered)
    → after_answers (after_answers p xs) ys ≡ after_answers p (xs ++ ys)
answers_then p [] ys = refl
answers_then p (x ∷ xs) ys = answers_then (after_one p x) xs ys

kept_then : (v : Bool) (e : Entry) (es fs : List Entry) → kept_if v e (es ++ fs) ≡ kept_if v e es ++ fs
kept_then true e es fs = refl
kept_then false e es fs = refl

entries_then : (a : ℕ) (xs ys : List Answered) → entries_at a (xs ++ ys) ≡ entries_at a xs ++ entries_at a ys
entries_then a [] ys = refl
entries_then a (x ∷ xs) ys =
    ap (kept_if (x.acceptor == a) x.entry) (entries_then a xs ys)
    ∙ kept_then (x.acceptor == a) x.entry (entries_at a xs) (entries_at a ys)

pub hears_nothing : (p : ProposerState) (ps : List Known) → Hears p p ps ps []
hears_nothing p ps = record { heard = []; recorded = λ a. sym (append-nil (mine_at ps a)); leads = refl }

pub hears_then : (p q r : ProposerState) (ps qs rs : List Known) (missed : List Answered) → Hears p q ps qs []
    → Hears q r qs rs missed → Hears p r ps rs missed
hears_then p q r ps qs rs missed f g = record {
  heard = f.heard ++ g.heard;
  recorded = λ a.
      g.recorded a
      ∙ ap (λ l. l ++ entries_at a (g.heard ++ missed)) (f.recorded a)
      ∙ append_assoc (mine_at ps a) (entries_at a (f.heard ++ [])) (entries_at a (g.heard ++ missed))
      ∙ ap (λ l. mine_at ps a ++ l)
      (sym (entries_then a (f.heard ++ []) (g.heard ++ missed))
      ∙ ap (entries_at a)
      (ap (λ l. l ++ (g.heard ++ missed)) (append-nil f.heard) ∙ sym (append_assoc f.heard g.heard missed)));
  leads = g.leads ∙ ap (λ z. after_answers z g.heard) f.leads ∙ answers_then p f.heard g.heard;
}

pub misses_then : (p q r : ProposerState) (ps qs rs : List Known) → Hears p q ps qs [] → HearsMost q r qs rs
    → HearsMost p r ps rs
misses_then p q r ps qs rs f g = (g.0, g.1, hears_then p q r ps qs rs g.0 f g.2)

-- ## What one offer leaves

module _ (ps : List Known) (a : ℕ) (k w : Known) (at : slice_get ps a ≡ Some k) where
  mine_before : mine_at ps a ≡ k.mine
  mine_before = mine_at_is ps a ∙ ap mine_of at

  mine_after : mine_at (slice_set ps a w) a ≡ w.mine
  mine_after = mine_at_is (slice_set ps a w) a ∙ ap mine_of (get-set_same ps a w (slice_get_within ps a k at))

  mine_beside : (b : ℕ) → b ≢ a → mine_at (slice_set ps a w) b ≡ mine_at ps b
  mine_beside b ne = mine_at_is (slice_set ps a w) b ∙ ap mine_of (get-set_other ps a b w ne) ∙ sym (mine_at_is ps b)

  module _ (e : Entry) where
    abbrev one : List Answered
    one = record { acceptor = a; entry = e } ∷ []

    here : entries_at a one ≡ e ∷ []
    here = ap (λ v. kept_if v e []) (eq-eqb a a refl)

    none_beside : (b : ℕ) → b ≢ a → entries_at b one ≡ []
    none_beside b ne = go (cases_Bool (a == b))
      where
        go : (a == b ≡ true) ⊎ (a == b ≡ false) → kept_if (a == b) e [] ≡ []
        go (inl same) = absurd (ne (sym (eqb-true a b same)))
        go (inr other) = ap (λ v. kept_if v e []) other

    pub one_recorded : w.mine ≡ k.mine ++ e ∷ [] → (b : ℕ)
        → mine_at (slice_set ps a w) b ≡ mine_at ps b ++ entries_at b one
    one_recorded more b = elim (cases_eq b a) [
      | inl same ↦ subst (λ c. mine_at (slice_set ps a w) c ≡ mine_at ps c ++ entries_at c one) (sym same) (mine_after ∙ more ∙ ap (λ l. l ++ e ∷ []) (sym mine_before) ∙ ap (λ l. mine_at ps a ++ l) (sym here))
      | inr ne ↦ mine_beside b ne ∙ sym (append-nil (mine_at ps b)) ∙ ap (λ l. mine_at ps b ++ l) (sym (none_beside b ne))
    ]

  pub none_recorded : w.mine ≡ k.mine → (b : ℕ) → mine_at (slice_set ps a w) b ≡ mine_at ps b ++ []
  none_recorded same b = elim (cases_eq b a) [
    | inl is ↦ subst (λ c. mine_at (slice_set ps a w) c ≡ mine_at ps c ++ []) (sym is) (mine_after ∙ same ∙ sym mine_before ∙ sym (append-nil (mine_at ps a)))
    | inr ne ↦ mine_beside b ne ∙ sym (append-nil (mine_at ps b))
  ]
