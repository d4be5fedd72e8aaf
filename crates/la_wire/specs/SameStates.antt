-- Whether two states are one, as a test that computes.
use Rattle.std.specs.Prelude.{◌==◌, nat_eq, Bool, true, false, ◌&&◌, Option, Some, None}
use Rattle.std.specs.Cmp.Lexicographic.{pointwise}
use Rattle.la_set.specs.declared.counts.Counts.{Counts}
use Rattle.la_set.specs.Histories.{Histories}
use Rattle.la_set.specs.Inclusion.{is_subset}
use Rattle.la_set.specs.ObjectOps.{bool_eq}
use Rattle.la_acceptor.specs.declared.reply.Reply.{Reply}
use Rattle.la_acceptor.specs.declared.reply.Reply.TheVariants.{Yes, No}
use Rattle.la_proposer.specs.declared.ballot.Ballot.{Ballot}
use Rattle.la_proposer.specs.declared.tally.Counted.{Counted}
use Rattle.la_proposer.specs.Changes.{last_of}
use Rattle.la_proposer.specs.ProposerState.{ProposerState}
use Rattle.la_proposer.specs.Resuming.{submissions_of}
use Rattle.la_replica.specs.declared.instance.Instance.{Instance}
use Rattle.la_replica.specs.ReplicaState.{ReplicaState}

abbrev pub is_same_set : Histories → Histories → Bool
is_same_set a b = is_subset b a && is_subset a b

abbrev pub is_same_ballot : Ballot → Ballot → Bool
is_same_ballot a b = (a.number == b.number) && is_same_set a.updates b.updates

abbrev pub is_same_learnt : Option Ballot → Option Ballot → Bool
is_same_learnt None None = true
is_same_learnt (Some a) (Some b) = is_same_ballot a b
is_same_learnt _ _ = false

abbrev pub is_same_reply : Reply → Reply → Bool
is_same_reply Yes Yes = true
is_same_reply (No a) (No b) = is_same_set a b
is_same_reply _ _ = false

abbrev pub is_same_counted : Counted → Counted → Bool
is_same_counted c d = (c.from == d.from) && is_same_reply c.reply d.reply

abbrev pub are_same_counts : Counts → Counts → Bool
are_same_counts c d = pointwise nat_eq c.of d.of

-- what waits is told by the submissions
abbrev pub is_same_proposer : ProposerState → ProposerState → Bool
is_same_proposer p q =
    pointwise nat_eq p.votes q.votes
    && ((p.own == q.own)
    && ((p.cap == q.cap)
    && (is_same_ballot (last_of p) (last_of q)
    && (bool_eq p.is_asking q.is_asking
    && (pointwise is_same_counted p.tally q.tally
    && (is_same_set (submissions_of p) (submissions_of q)
    && pointwise are_same_counts p.reported q.reported))))))

unfoldable pub is_same_instance : Instance → Instance → Bool
is_same_instance x y =
    is_same_set x.acceptor y.acceptor
    && (is_same_proposer x.proposer y.proposer
    && is_same_learnt x.learnt y.learnt)

unfoldable pub is_same_state : ReplicaState → ReplicaState → Bool
is_same_state r s =
    pointwise nat_eq r.votes s.votes
    && ((r.own == s.own)
    && (is_same_set r.view s.view
    && pointwise is_same_instance r.instances s.instances))
