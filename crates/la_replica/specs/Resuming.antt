-- When a replica may be taken up again from its parts: a test that computes.
use Rattle.std.specs.Prelude.{ℕ, ◌+◌, ◌*◌, ◌≤◌, ◌==◌, nat_lt, nat_le, nat_eq, Bool, ◌&&◌, List, length, Option, Some, None, if◌then◌else◌}
use Rattle.std.specs.List.{list_all}
use Rattle.std.specs.Cmp.Lexicographic.{pointwise}
use Rattle.la_set.specs.Histories.{Histories}
use Rattle.la_commit.specs.declared.instance.TheConstants.{MAX_COMMITS}
use Rattle.la_proposer.specs.declared.votes.Votes.{Votes}
use Rattle.la_proposer.specs.Majority.{votes_of}
use Rattle.la_replica.specs.declared.instance.Instance.{Instance}
use Rattle.la_replica.specs.ReplicaState.{ReplicaState}
use Rattle.la_replica.specs.Invariant.{IsReplicaState}

-- an instance's proposer is this replica of the group
abbrev pub is_instance_of : List ℕ → ℕ → Instance → Bool
is_instance_of votes own x = pointwise nat_eq x.proposer.votes votes && (x.proposer.own == own)

-- a replica of its group, with instance 0 and no more instances than a group may have, each with
-- this replica's proposer
unfoldable pub may_resume_replica : ReplicaState → Bool
may_resume_replica r =
    nat_lt r.own (length r.votes)
    && (nat_le (length r.votes) 8
    && (nat_le 1 (length r.instances)
    && (nat_le (length r.instances) (2 * MAX_COMMITS + 1)
    && list_all (is_instance_of r.votes r.own) r.instances)))

-- what the test decides: the state is a replica's
pub record IsResumableReplica (r : ReplicaState) : Type 0 where
  pub is_replica : IsReplicaState r
  pub has_first : 1 ≤ length r.instances

-- what the parts are those of
abbrev pub replica_from : Votes → (own : ℕ) → List Instance → (view : Histories) → ReplicaState
replica_from votes own instances view = record {
  votes = votes_of votes;
  own = own;
  instances = instances;
  view = view;
}

-- and this, where it may be taken up again
abbrev pub resumed_replica : ReplicaState → Option ReplicaState
resumed_replica r = if may_resume_replica r then Some r else None
