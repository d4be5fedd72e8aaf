-- When a node may be made of a replica that is taken up again: tests that compute.
use Rattle.std.specs.Prelude.{ℕ, zero, suc, ◌*◌, ◌%◌, ◌==◌, nat_lt, nat_le, Bool, true, false, not, ◌&&◌, ◌||◌, List, [], ◌∷◌, length, slice_get, Option, Some, None, is_some, if◌then◌else◌}
use Rattle.std.specs.List.{list_all}
use Rattle.la_set.specs.Inclusion.{is_subset}
use Rattle.la_proposer.specs.declared.ballot.Ballot.{Ballot}
use Rattle.la_proposer.specs.ProposerState.{ProposerState, submitted}
use Rattle.la_commit.specs.declared.instance.TheConstants.{MAX_COMMITS}
use Rattle.la_commit.specs.Instances.{first_instance, second_instance}
use Rattle.la_replica.specs.declared.instance.Instance.{Instance}
use Rattle.la_node.specs.Nodes.{NodeState}

-- an instance of an adopt-commit object, whose proposer submits at most once, and is idle for good
-- once it has learnt a set
abbrev pub submits_once : ProposerState → Option Ballot → Bool
submits_once p learnt =
    nat_lt p.own 8
    && ((p.cap == 1)
    && ((length p.waiting == 0)
    && ((not p.is_asking || nat_le 1 (submitted p))
    && ((not (is_some learnt) || (not p.is_asking && nat_le 1 (submitted p)))
    && (nat_le 1 (submitted p) || (p.number == 0))))))

abbrev pub instance_submits_once : Instance → Bool
instance_submits_once x = submits_once x.proposer x.learnt

-- in the second of two instances nothing was submitted, or in the first a set was learnt
abbrev pub follows_in : (first second : Option Instance) → Bool
follows_in (Some x) (Some y) = is_some x.learnt || (submitted y.proposer == 0)
follows_in (Some x) None = true
follows_in None second = true

-- so it is in those of object k
abbrev pub second_follows : List Instance → (k : ℕ) → Bool
second_follows xs k = follows_in (slice_get xs (first_instance k)) (slice_get xs (second_instance k))

-- and of each object below n
unfoldable pub seconds_follow : List Instance → (n : ℕ) → Bool
seconds_follow xs zero = true
seconds_follow xs (suc k) = second_follows xs k && seconds_follow xs k

-- instance 0, and then two for each object
unfoldable pub are_participants : List Instance → Bool
are_participants [] = false
are_participants (x ∷ xs) =
    (length xs % 2 == 0)
    && (nat_le (length xs) (2 * MAX_COMMITS)
    && (list_all instance_submits_once xs && seconds_follow (x ∷ xs) MAX_COMMITS))

-- the shelf has absorbed no more than the view, and the replica is a participant
abbrev pub may_resume_node : NodeState → Bool
may_resume_node n = is_subset n.shelf.view n.replica.view && are_participants n.replica.instances

-- the node, where it may be taken up again
abbrev pub resumed_node : NodeState → Option NodeState
resumed_node n = if may_resume_node n then Some n else None
