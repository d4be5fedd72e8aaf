-- How the participants of an adopt-commit object vote: in its first instance, and once they have
-- learnt a set there, in its second one.
use Rattle.std.specs.Prelude.{ℕ, Option, Some, None, if◌then◌else◌}
use Rattle.la_set.specs.ObjectOps.{ObjectOp}
use Rattle.la_set.specs.Histories.{Histories}
use Rattle.la_commit.specs.declared.vote.Vote.{Vote}
use Rattle.la_commit.specs.Votes.{proposed, second_vote_for, second_vote as learnt_vote, casts}
use Rattle.la_commit.specs.Instances.{is_first_instance, commit_of, second_instance}

-- an update of a replica in an instance
pub record Submission : Type 0 where
  pub instance : ℕ
  pub replica : ℕ
  pub object_op : ObjectOp

-- the vote that a replica gives in the second instance, where it learns this set in i and i is a
-- first instance
abbrev pub vote_in : (i r : ℕ) → Histories → Option Vote
vote_in i r learnt = if is_first_instance i then learnt_vote learnt r else None

-- the second vote of a participant with this value, if it has one, once this set is learnt
abbrev pub second_vote_of : (commit replica : ℕ) → Histories → Option ℕ → Option Submission
second_vote_of k r learnt None = None
second_vote_of k r learnt (Some value) = Some (record {
  instance = second_instance k;
  replica = r;
  object_op = casts k (second_vote_for learnt value);
})

-- the second vote that a set leads to which r learnt in i: where this is a first instance
abbrev pub second_vote_in : (i r : ℕ) → Histories → Option Submission
second_vote_in i r learnt =
    if is_first_instance i then second_vote_of (commit_of i) r learnt (proposed learnt r) else None
