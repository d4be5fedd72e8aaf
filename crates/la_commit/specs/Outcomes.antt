-- What a participant returns: by the set that it learnt in the second agreement.
use Rattle.std.specs.Prelude.{ℕ, Bool, true, false, List, [], ◌∷◌, Option, None, option_map, if◌then◌else◌}
use Rattle.std.specs.List.{list_all}
use Rattle.la_set.specs.Histories.{Histories}
use Rattle.la_commit.specs.declared.outcome.Outcome.{Outcome}
use Rattle.la_commit.specs.declared.outcome.Outcome.TheVariants.{Commit, Adopt}
use Rattle.la_commit.specs.declared.vote.Vote.{Vote}
use Rattle.la_commit.specs.Votes.{votes, sole_votes, own_vote}
use Rattle.la_commit.specs.Instances.{is_second_instance}

-- every vote of a set says that its value is the sole one
abbrev pub are_all_sole : Histories → Bool
are_all_sole s = list_all (λ v. v.sole) (votes s)

-- the outcome where these are the sole votes, in the order of their ids, and all are sole or not:
-- by the first of them; the own value, where there is none
abbrev pub outcome_by : (all_sole : Bool) → List Vote → (own : ℕ) → Outcome
outcome_by all_sole [] own = Adopt own
outcome_by all_sole (v ∷ more) own = if all_sole then Commit v.value else Adopt v.value

-- the outcome of a participant with this value that learnt this set
abbrev pub outcome : (second : Histories) → (own : ℕ) → Outcome
outcome s own = outcome_by (are_all_sole s) (sole_votes s) own

-- the same, with the value of the participant's own vote in the set
abbrev pub outcome_of : (second : Histories) → (participant : ℕ) → Option Outcome
outcome_of s p = option_map (λ (v : Vote). outcome s v.value) (own_vote s p)

-- the outcome by a set that p learnt in i: where this is a second instance
abbrev pub outcome_in : (i p : ℕ) → Histories → Option Outcome
outcome_in i p learnt = if is_second_instance i then outcome_of learnt p else None

abbrev pub value_of : Outcome → ℕ
value_of (Commit value) = value
value_of (Adopt value) = value

abbrev pub is_commit : Outcome → Bool
is_commit (Commit value) = true
is_commit (Adopt value) = false
