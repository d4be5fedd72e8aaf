-- What a replica has submitted, by number.
use Rattle.std.specs.Prelude.{ℕ, ◌+◌, ◌==◌, Bool, List, [], length, slice_get, Option, Some, None}
use Rattle.la_set.specs.ObjectOps.{ObjectOp}
use Rattle.la_set.specs.Histories.{object_op_number}
use Rattle.la_proposer.specs.Inputs.{all_submitted}
use Rattle.la_commit.specs.Instances.{first_instance}
use Rattle.la_replica.specs.declared.instance.Instance.{Instance}
use Rattle.la_replica.specs.ReplicaState.{ReplicaState}

abbrev pub submissions_at : Option Instance → List ObjectOp
submissions_at None = []
submissions_at (Some x) = all_submitted x.proposer

-- in instance 0, the oldest first
abbrev pub submissions_by : ReplicaState → List ObjectOp
submissions_by n = submissions_at (slice_get n.instances 0)

-- under a number, from 1
abbrev pub submission_under : ReplicaState → (number : ℕ) → Option ObjectOp
submission_under n number = object_op_number (submissions_by n) number

-- the number that comes next
abbrev pub is_next_number : ReplicaState → (number : ℕ) → Bool
is_next_number n number = number == length (submissions_by n) + 1

-- the first that was submitted in a list of them
abbrev pub first_of : Option Instance → Option ObjectOp
first_of x = object_op_number (submissions_at x) 1

-- the vote that a replica gave first for an adopt-commit object: what it proposed to that
abbrev pub proposal_by : ReplicaState → (commit : ℕ) → Option ObjectOp
proposal_by n commit = first_of (slice_get n.instances (first_instance commit))
