-- How contracts see a participant between two calls.
use Rattle.std.specs.Prelude.{ℕ}
use Rattle.la_commit.specs.declared.vote.Vote.{Vote}

-- a participant that has proposed this value, and waits for the first agreement
pub record Proposed : Type 0 where
  pub participant : ℕ
  pub value : ℕ

-- a participant that has given out this vote, and waits for the second agreement
pub record Voted : Type 0 where
  pub participant : ℕ
  pub vote : Vote
