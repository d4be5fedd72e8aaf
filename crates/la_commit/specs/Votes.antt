-- The votes of an adopt-commit object. A participant votes for its value in a first agreement; once
-- it has learnt a set there, it votes in a second one, and says whether all votes of that set have
-- its value. In each agreement its vote is its first update; updates that are no votes are passed
-- over.
use Rattle.std.specs.Prelude.{◌≡◌, ℕ, ◌==◌, Bool, false, List, filter, filter_map, Option, Some, None, option_map, option_and_then, if◌then◌else◌}
use Rattle.std.specs.List.{list_all}
use Rattle.la_set.specs.declared.update.Op.{Op}
use Rattle.la_set.specs.declared.update.Op.TheVariants as op
use Rattle.la_set.specs.declared.update.Update.{Update}
use Rattle.la_set.specs.ObjectOps.{ObjectOp}
use Rattle.la_set.specs.Histories.{Histories, get, updates}
use Rattle.la_commit.specs.declared.vote.Vote.{Vote}

-- the vote that an operation casts, if it is one
abbrev pub vote_of : Op → Option Vote
vote_of (op.Vote value sole) = Some (record { value = value; sole = sole })
vote_of (op.Inc x) = None
vote_of (op.Dec x) = None
vote_of (op.Raise x) = None
vote_of (op.Put x) = None
vote_of (op.Remove tags) = None
vote_of op.Mark = None

-- the operation that casts it
abbrev pub op_of : Vote → Op
op_of v = op.Vote v.value v.sole

-- the votes of a set, in the order of their ids
abbrev pub votes : Histories → List Vote
votes s = filter_map (λ u. vote_of u.op) (updates s)

-- those that say that their value is the sole one
abbrev pub sole_votes : Histories → List Vote
sole_votes s = filter (λ v. v.sole) (votes s)

-- every vote of a set has this value
abbrev pub is_sole : Histories → (value : ℕ) → Bool
is_sole s value = list_all (λ v. v.value == value) (votes s)

-- a participant's own vote in a set: that of its first update
abbrev pub own_vote : Histories → (participant : ℕ) → Option Vote
own_vote s p =
    option_and_then (λ (u : Update). vote_of u.op) (get s (record { replica = p; number = 1 }))

abbrev pub HoldsVote : Histories → (participant : ℕ) → Vote → Type 0
HoldsVote s p v = own_vote s p ≡ Some v

-- the value that a vote proposes: one that is not said to be the sole one
abbrev pub proposal : Vote → Option ℕ
proposal v = if v.sole then None else Some v.value

-- the value that a participant proposed, by its own vote in a set of the first agreement
abbrev pub proposed : Histories → (participant : ℕ) → Option ℕ
proposed s p = option_and_then proposal (own_vote s p)

-- the vote for a value in the first agreement
abbrev pub first_vote_for : (value : ℕ) → Vote
first_vote_for value = record { value = value; sole = false }

-- and in the second one, where this set was learnt in the first
abbrev pub second_vote_for : (first : Histories) → (value : ℕ) → Vote
second_vote_for first value = record { value = value; sole = is_sole first value }

-- the second vote of a participant that learnt this set in the first agreement, by its own vote
-- there
abbrev pub second_vote : (first : Histories) → (participant : ℕ) → Option Vote
second_vote first p = option_map (second_vote_for first) (proposed first p)

-- ## As updates

-- what casts a vote on an adopt-commit object: under this object's number
abbrev pub casts : (commit : ℕ) → Vote → ObjectOp
casts k v = record { object = k; op = op_of v }

-- the vote of a proposal
abbrev pub first_vote : (commit value : ℕ) → ObjectOp
first_vote k value = casts k (first_vote_for value)
