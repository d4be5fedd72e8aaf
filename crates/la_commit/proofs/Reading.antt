-- Reading a set's votes, update after update.
use Rattle.std.proofs.Common.{◌≡◌, ℕ, suc, ◌+◌, Bool, true, false, List, [], ◌∷◌, take, drop, filter, Option, Some, None, refl, ap, ◌∙◌, add-one}
use Rattle.std.specs.Prelude.{option_and_then}
use Rattle.std.specs.List.{filter_map, list_all, slice_get}
use Rattle.std.proofs.lemmas.List.Folds.{list_all-append}
use Rattle.std.proofs.lemmas.List.Elements.{filter-append}
use Rattle.la_set.specs.declared.update.Update.{Update}
use Rattle.la_set.specs.Histories.{Histories, updates}
use Rattle.la_commit.specs.declared.vote.Vote.{Vote}
use Rattle.la_commit.specs.Votes.{vote_of, votes}
use Rattle.la_commit.proofs.lemmas.Listed.{filter_map-skip, filter_map-more, filter_map-at}

-- the vote at a place, if the update there is one
abbrev pub vote_at : Histories → ℕ → Option Vote
vote_at s i = option_and_then (λ (u : Update). vote_of u.op) (slice_get (updates s) i)

-- the votes among the first so many updates
abbrev pub votes_before : Histories → ℕ → List Vote
votes_before s i = filter_map (λ u. vote_of u.op) (take i (updates s))

pub all-skip : (p : Vote → Bool) (s : Histories) (i : ℕ) → vote_at s i ≡ None → list_all p (votes_before s i) ≡ true
    → list_all p (votes_before s (i + 1)) ≡ true
all-skip p s i none before = rw (add-one i) (ap (list_all p) (filter_map-skip _ (updates s) i none) ∙ before)

pub all-more : (p : Vote → Bool) (s : Histories) (i : ℕ) (v : Vote) → vote_at s i ≡ Some v → p v ≡ true
    → list_all p (votes_before s i) ≡ true → list_all p (votes_before s (i + 1)) ≡ true
all-more p s i v at passes before =
    rw (add-one i)
    (ap (list_all p) (filter_map-more _ (updates s) i v at) ∙ list_all-append p (votes_before s i) (v ∷ [])
    ∙ rw (before, passes) refl)

pub all-fails : (p : Vote → Bool) (s : Histories) (i : ℕ) (v : Vote) → vote_at s i ≡ Some v → p v ≡ false
    → list_all p (votes_before s i) ≡ true → list_all p (votes s) ≡ false
all-fails p s i v at fails before =
    ap (list_all p) (filter_map-at _ (updates s) i v at) ∙ list_all-append p (votes_before s i) _
    ∙ rw (before, fails) refl

pub none-skip : (p : Vote → Bool) (s : Histories) (i : ℕ) → vote_at s i ≡ None → filter p (votes_before s i) ≡ []
    → filter p (votes_before s (i + 1)) ≡ []
none-skip p s i none before = rw (add-one i) (ap (filter p) (filter_map-skip _ (updates s) i none) ∙ before)

pub none-more : (p : Vote → Bool) (s : Histories) (i : ℕ) (v : Vote) → vote_at s i ≡ Some v → p v ≡ false
    → filter p (votes_before s i) ≡ [] → filter p (votes_before s (i + 1)) ≡ []
none-more p s i v at fails before =
    rw (add-one i)
    (ap (filter p) (filter_map-more _ (updates s) i v at) ∙ filter-append p (votes_before s i) (v ∷ [])
    ∙ rw (before, fails) refl)

pub first-found : (p : Vote → Bool) (s : Histories) (i : ℕ) (v : Vote) → vote_at s i ≡ Some v → p v ≡ true
    → filter p (votes_before s i) ≡ [] → slice_get (filter p (votes s)) 0 ≡ Some v
first-found p s i v at passes before =
    let later = filter_map (λ (u : Update). vote_of u.op) (drop (suc i) (updates s)) in
    let found : filter p (votes s) ≡ v ∷ filter p later =
    ap (filter p) (filter_map-at _ (updates s) i v at) ∙ filter-append p (votes_before s i) (v ∷ later)
    ∙ rw (before, passes) refl in
    ap (λ vs. slice_get vs 0) found
