-- Each acceptor counts once, so no more replies count than the group has acceptors.
use Rattle.std.proofs.Common.{◌≡◌, ℕ, zero, suc, ◌+◌, ◌<◌, ◌≤◌, ◌==◌, ◌||◌, Bool, true, false, cond, List, [], ◌∷◌, ◌++◌, length, refl, ap, sym, ◌∙◌, arith, inl, inr}
use Rattle.std.proofs.lemmas.Bool.{true≢false, cases_lt, eq-eqb}
use Rattle.std.proofs.lemmas.List.{length-append}
use Rattle.std.proofs.lemmas.List.Folds.{list_any-append}
use Rattle.la_acceptor.specs.declared.reply.Reply.{Reply}
use Rattle.la_proposer.specs.declared.tally.Counted.{Counted}
use Rattle.la_proposer.specs.Majority.{how_many}
use Rattle.la_proposer.specs.Tally.{tally_with, has_counted}
use Rattle.la_proposer.specs.ProposerState.{ProposerState}
use Rattle.la_proposer.specs.Invariant.{IsProposerState}

one_of : (b : Bool) (m n : ℕ) → m ≤ n → cond b 1 0 + m ≤ suc n
one_of true m n le = omega arith
one_of false m n le = omega arith

most : (n : ℕ) (p : ℕ → Bool) → how_many n p ≤ n
most zero p = omega arith
most (suc n) p = one_of (p n) (how_many n p) n (most n p)

-- where the one test passes, the other does
both : (a b : Bool) (m n : ℕ) → (a ≡ true → b ≡ true) → m ≤ n → cond a 1 0 + m ≤ cond b 1 0 + n
both true true m n more le = omega arith
both true false m n more le = absurd (true≢false (sym (more refl)))
both false true m n more le = omega arith
both false false m n more le = omega arith

-- only the other one does
other : (a b : Bool) (m n : ℕ) → a ≡ false → b ≡ true → m ≤ n → cond a 1 0 + m + 1 ≤ cond b 1 0 + n
other true b m n e f le = absurd (true≢false e)
other false false m n e f le = absurd (true≢false (sym f))
other false true m n e f le = omega arith

more_than : (a b : Bool) (m n : ℕ) → (a ≡ true → b ≡ true) → m + 1 ≤ n → cond a 1 0 + m + 1 ≤ cond b 1 0 + n
more_than a b m n more le = omega (arith, both a b (m + 1) n more le)

-- a test that passes all that another one passes
module _ (p q : ℕ → Bool) (more : (r : ℕ) → p r ≡ true → q r ≡ true) where
  as_many : (n : ℕ) → how_many n p ≤ how_many n q
  as_many zero = omega arith
  as_many (suc n) = both (p n) (q n) (how_many n p) (how_many n q) (more n) (as_many n)

  -- and one that the other does not
  one_more : (k : ℕ) → p k ≡ false → q k ≡ true → (n : ℕ) → k < n → how_many n p + 1 ≤ how_many n q
  one_more k out into zero lt = absurd (omega arith)
  one_more k out into (suc n) lt = elim (cases_lt k n) [
    | inl below ↦ more_than (p n) (q n) (how_many n p) (how_many n q) (more n) (one_more k out into n below)
    | inr le ↦ (let here : k ≡ n = omega arith in other (p n) (q n) (how_many n p) (how_many n q) (ap p (sym here) ∙ out) (ap q (sym here) ∙ into) (as_many n))
  ]

-- one reply more, of an acceptor that has not counted
pub counts_once : (tally : List Counted) (from n : ℕ) (reply : Reply) → from < n → has_counted tally from ≡ false
    → length tally ≤ how_many n (has_counted tally)
    → length (tally_with tally from reply) ≤ how_many n (has_counted (tally_with tally from reply))
counts_once tally from n reply lt new le =
    omega (
      arith,
      length-append tally (record { from = from; reply = reply } ∷ []),
      le,
      one_more (has_counted tally) (has_counted (tally_with tally from reply))
          (λ r e. split r ∙ ap (λ v. v || has_counted here r) e) from new
          (split from ∙ ap (λ v. v || has_counted here from) new ∙ itself) n lt,
    )
  where
    here : List Counted
    here = record { from = from; reply = reply } ∷ []

    split : (r : ℕ) → has_counted (tally ++ here) r ≡ (has_counted tally r || has_counted here r)
    split r = list_any-append (λ (c : Counted). c.from == r) tally here

    itself : has_counted here from ≡ true
    itself = ap (λ b. b || false) (eq-eqb from from refl)

pub few_counted : (p : ProposerState) → IsProposerState p → length p.tally ≤ 8
few_counted p is = omega (arith, is.once, most (length p.votes) (has_counted p.tally), is.few)
