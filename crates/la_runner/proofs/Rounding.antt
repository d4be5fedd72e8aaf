-- A round, offer by offer.
use Rattle.std.proofs.Common.{◌≡◌, ◌≢◌, ◌⊎◌, inl, inr, ℕ, ◌<◌, ◌≤◌, arith, Bool, true, false, cond, List, length, Option, Some, refl, ap, sym, ◌∙◌, subst}
use Rattle.std.specs.Prelude.{Ok}
use Rattle.std.proofs.lemmas.Bool.{cases_eq}
use mathlib.Core.List.{IsPrefix}
use Rattle.la_set.specs.Histories.{Histories, count}
use Rattle.la_proposer.specs.declared.heard.Heard.{Heard}
use Rattle.la_proposer.specs.declared.heard.Heard.TheVariants as said
use Rattle.la_proposer.specs.declared.ballot.Ballot.{Ballot}
use Rattle.la_proposer.specs.declared.heard.Status.{Status}
use Rattle.la_proposer.specs.declared.heard.Status.TheVariants.{Idle, Asking}
use Rattle.la_proposer.specs.ProposerState.{ProposerState, submitted, status_of}
use Rattle.la_proposer.specs.Inputs.{all_submitted}
use Rattle.la_shared.specs.Passes.{Known}
use Rattle.la_shared.proofs.lemmas.Theorems.{prefix_self}
use Rattle.la_runner.specs.Following.{Goes, IsLearnt, IfLearnt, StaysOpen, IsOpenOrWhole, SubmitsNothing}
use Rattle.la_runner.specs.declared.learned.Learned.{Learned}
use Rattle.la_runner.specs.Rounds.{IsOpenAnswer}
use Rattle.la_runner.proofs.Going.{learnt_later}
use Rattle.la_runner.proofs.Updating.{submitted_is}

pub status_is : (b : Bool) (n m : ℕ) → Asking n ≡ (cond b (Asking m) Idle) → (b ≡ true) × (n ≡ m)
status_is true n m e = (refl, cc)
status_is false n m e = absurd (cc)

pub prefix_same : {A : Type 0} (xs ys : List A) → xs ≡ ys → IsPrefix xs ys
prefix_same xs ys e = subst (IsPrefix xs) e (prefix_self xs)

-- learnt after some offers of the round
pub round_learnt : (p : ProposerState) (ps : List Known) (q : ProposerState) (qs : List Known) (r : ProposerState)
    (rs : List Known) (n : ℕ) (s : Histories) → Goes p ps q qs → Goes q qs r rs → n ≡ p.number → q.number ≡ p.number
    → IsLearnt q qs rs q.number s → IsLearnt p ps rs n s
round_learnt p ps q qs r rs n s f g is same l =
    subst (λ k. IsLearnt p ps rs k s) (same ∙ sym is)
    (learnt_later p q ps qs rs q.number s f.follows (prefix_same (all_submitted q) (all_submitted p) f.nothing)
    g.follows.passes l)

pub if_learnt : (h : Heard) (s : Histories) (next : Option Ballot) (P : Histories → Type 0) → h ≡ said.Learnt s next
    → IfLearnt h P → P s
if_learnt h s next P e l = subst (λ z. IfLearnt z P) e l

pub stays_open : (h : Heard) (p q : ProposerState) → (h ≡ said.Counted) ⊎ (h ≡ said.Ignored) → StaysOpen h p q
    → (q.is_asking ≡ true) × (q.number ≡ p.number)
stays_open h p q (inl e) s = subst (λ z. StaysOpen z p q) e s
stays_open h p q (inr e) s = subst (λ z. StaysOpen z p q) e s

pub refined_asks : (h : Heard) (b : Ballot) (p q : ProposerState) → h ≡ said.Refined b → StaysOpen h p q
    → q.is_asking ≡ true
refined_asks h b p q e s = (subst (λ z. StaysOpen z p q) e s).0

pub learnt_asks : (h : Heard) (s : Histories) (next : Option Ballot) (p q : ProposerState) → h ≡ said.Learnt s next
    → StaysOpen h p q → IsOpenOrWhole q s
learnt_asks h s next p q e o = subst (λ z. StaysOpen z p q) e o

-- learnt after some rounds
pub rounds_learnt : (p : ProposerState) (ps : List Known) (q : ProposerState) (qs : List Known) (r : ProposerState)
    (rs : List Known) (n : ℕ) (s : Histories) → Goes p ps q qs → Goes q qs r rs → IsLearnt q qs rs n s
    → IsLearnt p ps rs n s
rounds_learnt p ps q qs r rs n s f g l =
    learnt_later p q ps qs rs n s f.follows (prefix_same (all_submitted q) (all_submitted p) f.nothing) g.follows.passes l

-- ## Whether a ballot is open after a round

-- a learnt set that lacks something leaves one open
pub open_still : (p q : ProposerState) (o : Option Learned) (l : Learned) (own mine n : ℕ) → o ≡ Some l
    → IsOpenAnswer (Ok o) q → own ≡ q.own → mine ≡ submitted p → SubmitsNothing p q → n ≡ count l.updates own → n < mine
    → q.is_asking ≡ true
open_still p q o l own mine n is open_is own_is mine_is same n_is few =
    elim (subst (λ z. IsOpenAnswer (Ok z) q) is open_is) [
      | inl asks ↦ asks
      | inr whole ↦
          let all = sym (submitted_is q) ∙ ap length same ∙ submitted_is p in
          let had = n_is ∙ ap (count l.updates) own_is in
          absurd (omega (arith, whole, all, had, mine_is, few))
    ]

-- where another ballot is open, its number is larger
pub number_grows : (first : ℕ) (p q : ProposerState) (a b : Status) → p.is_asking ≡ true → q.is_asking ≡ true
    → a ≡ status_of p → b ≡ status_of q → b ≢ a → first ≤ p.number → p.number ≤ q.number → first < q.number
number_grows first p q a b before after a_is b_is other le more = elim (cases_eq q.number p.number) [
  | inl e ↦ absurd (other (b_is ∙ ap (λ t. cond t (Asking q.number) Idle) after ∙ ap Asking e ∙ sym (ap (λ t. cond t (Asking p.number) Idle) before) ∙ sym a_is))
  | inr ne ↦ omega (arith, ne, le, more)
]
