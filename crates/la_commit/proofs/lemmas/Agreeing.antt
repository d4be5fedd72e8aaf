-- Why participants agree: votes of comparable sets, and what outcomes are made of.
use Rattle.std.proofs.Common.{◌≡◌, ℕ, ◌==◌, ◌<◌, Bool, true, false, List, [], ◌∷◌, length, All, Any, Contains, refl, ap, sym, ◌∙◌, arith, inl, inr}
use Rattle.std.specs.Bool.{IsTrue}
use Rattle.std.proofs.lemmas.Bool.{eqb-true}
use Rattle.std.proofs.lemmas.List.Sums.{AllPass-from_list_all, list_all-from_AllPass}
use Rattle.std.proofs.lemmas.List.Elements.{All-contains, All-filter}
use Rattle.la_set.specs.Histories.{Histories}
use Rattle.la_set.specs.Inclusion.{IsSubset, AreComparable}
use Rattle.la_set.proofs.lemmas.Filters.{Contains-first}
use Rattle.la_commit.specs.declared.vote.Vote.{Vote}
use Rattle.la_commit.specs.declared.outcome.Outcome.TheVariants.{Commit}
use Rattle.la_commit.specs.Votes.{votes, sole_votes, is_sole}
use Rattle.la_commit.specs.Outcomes.{are_all_sole, outcome_by, outcome, value_of}
use Rattle.la_commit.specs.Laws.{HasVoteFor, SoleValuesAgree, OutcomesAgree, UnanimousCommit}
use Rattle.la_commit.proofs.lemmas.Casting.{votes-subset, vote-sole_votes, sole_votes-subset}

-- ## The first agreement

pub vote-of_sole : (s : Histories) (value : ℕ) (x : Vote) → IsTrue (is_sole s value) → Contains (votes s) x
    → x.value ≡ value
vote-of_sole s value x sole has =
    eqb-true x.value value
    (All-contains (λ y. (y.value == value) ≡ true) (votes s) x
    (AllPass-from_list_all (λ y. y.value == value) (votes s) sole) has)

within-agree : (a b : Histories) (v w : ℕ) → IsSubset a b → HasVoteFor a v → IsTrue (is_sole b w) → v ≡ w
within-agree a b v w sub (k, x, lt, is, of) sole = sym of ∙ vote-of_sole b w x sole (votes-subset a b x sub (k, lt, is))

pub sole_values-agree : SoleValuesAgree
sole_values-agree a b v w comparable in_a in_b sole_a sole_b = elim comparable [
  | inl sub ↦ within-agree a b v w sub in_a sole_b
  | inr sub ↦ sym (within-agree b a w v sub in_b sole_a)
]

-- ## The second agreement

some_member : (vs : List Vote) → 0 < length vs → (x : Vote) × Contains vs x
some_member [] some = absurd (omega arith)
some_member (x ∷ xs) some = (x, Contains-first x xs)

member-some : (vs : List Vote) (x : Vote) → Contains vs x → 0 < length vs
member-some vs x (k, lt, is) = omega arith

-- where all votes are sole, each vote is
pub all_sole-sole : (s : Histories) (x : Vote) → are_all_sole s ≡ true → Contains (votes s) x → x.sole ≡ true
all_sole-sole s x all has =
    All-contains (λ y. y.sole ≡ true) (votes s) x (AllPass-from_list_all (λ y. y.sole) (votes s) all) has

commit_by : (all : Bool) (vs : List Vote) (own v : ℕ) → outcome_by all vs own ≡ Commit v
    → (all ≡ true) × Any (λ x. x.value ≡ v) vs
commit_by all [] own v e = cc
commit_by true (x ∷ xs) own v e = (refl, (0, x, omega arith, refl, cc))
commit_by false (x ∷ xs) own v e = cc

value_by : (all : Bool) (vs : List Vote) (own w : ℕ) → All (λ x. x.value ≡ w) vs → 0 < length vs
    → value_of (outcome_by all vs own) ≡ w
value_by all [] own w each some = absurd (omega arith)
value_by true (x ∷ xs) own w each some = each 0 x (omega arith)
value_by false (x ∷ xs) own w each some = each 0 x (omega arith)

-- a set with a vote that is comparable with one whose votes are all sole has a sole vote
sole_in_both : (a b : Histories) (x : Vote) → AreComparable a b → are_all_sole a ≡ true → Contains (sole_votes a) x
    → 0 < length (votes b) → 0 < length (sole_votes b)
sole_in_both a b x comparable all has some = elim comparable [
  | inl sub ↦ member-some (sole_votes b) x (sole_votes-subset a b x sub has)
  | inr sub ↦
      let y = some_member (votes b) some in
      member-some (sole_votes b) y.0
      (vote-sole_votes b y.0 y.1 (all_sole-sole a y.0 all (votes-subset b a y.0 sub y.1)))
]

pub outcomes-agree : OutcomesAgree
outcomes-agree a b own other v w comparable each_a each_b some committed =
    let by = commit_by (are_all_sole a) (sole_votes a) own v committed in
    go by.0 by.1
  where
    go : are_all_sole a ≡ true → Any (λ x. x.value ≡ v) (sole_votes a) → value_of (outcome b other) ≡ v
    go all (k, x, lt, is, of) =
        let same : w ≡ v = sym (All-contains (λ y. y.value ≡ w) (sole_votes a) x each_a (k, lt, is)) ∙ of in
        value_by (are_all_sole b) (sole_votes b) other w each_b (sole_in_both a b x comparable all (k, lt, is) some)
        ∙ same

commits_by : (vs : List Vote) (own v : ℕ) → All (λ x. x.value ≡ v) vs → 0 < length vs
    → outcome_by true vs own ≡ Commit v
commits_by [] own v each some = absurd (omega arith)
commits_by (x ∷ xs) own v each some = ap Commit (each 0 x (omega arith))

pub unanimous-commit : UnanimousCommit
unanimous-commit s own v some each =
    let y = some_member (votes s) some in
    let sole : y.0.sole ≡ true = ap (λ (x : Vote). x.sole) (All-contains (λ x. x ≡ record { value = v; sole = true }) (votes s) y.0 each y.1) in
    let all : are_all_sole s ≡ true =
    list_all-from_AllPass (λ x. x.sole) (votes s) (λ k d lt. ap (λ (x : Vote). x.sole) (each k d lt)) in
    let values : All (λ (x : Vote). x.value ≡ v) (sole_votes s) =
    All-filter (λ (x : Vote). x.sole) (λ (x : Vote). x.value ≡ v) (votes s)
    (λ k d lt. ap (λ (x : Vote). x.value) (each k d lt)) in
    ap (λ b. outcome_by b (sole_votes s) own) all
    ∙ commits_by (sole_votes s) own v values (member-some (sole_votes s) y.0 (vote-sole_votes s y.0 y.1 sole))
