use Rattle.std.proofs.Common.{◌≢◌, ◌+◌, Some, refl, sym, subst, arith}
use Rattle.la_commit.specs.Instances.{commit_of}
use Rattle.la_commit.specs.Votes.{casts}
use Rattle.la_replica.specs.Whole.{Out}
use Rattle.la_replica.specs.ReplicaState.{submits}
use Rattle.la_replica.specs.Bases.{AreToldIn}
use Rattle.la_node.proofs.Participants.{led_is}
use Rattle.la_node.proofs.lemmas.Telling.{both_told}
use Rattle.la_node.proofs.participant.commit_both.Goals as goal

pub returns-clause-both : goal.returns-clause-both
returns-clause-both c =
    let next = c.args.instance + 1 in let then = c.commit.new.self in let after = c.commit-2.new.self in
    let vote = c.in_ok-voted.ensures in
    let other : next ≢ c.args.change.instance = λ e. omega (arith, e, c.requires.here) in
    let apart : c.args.change.instance ≢ c.in_ok-voted.cast.instance =
    λ e. omega (arith, e, c.requires.here, vote.changes) in
    let cast : Out = record { said = c.in_ok-voted.voted.said; mail = vote.sent } in
    record {
      then = then;
      cast = cast;
      first = c.commit.ensures.done;
      second =
          led_is then after cast c.in_ok-voted.cast (submits then next (casts (commit_of c.args.instance) c.args.vote))
          (vote.leads then (c.commit.ensures.beside next other)).1 c.commit-2.ensures.done;
      is = λ j. record { said = c.args.out.said; voted = Some (record { instance = vote.voted_in j; said = cast.said }); mail = vote.last j };
      told =
          λ offered told.
          subst (AreToldIn after offered) (sym vote.adds)
          (both_told c.args.receiver.now then after offered c.args.change c.in_ok-voted.cast next c.args.out.mail
          vote.added told c.commit.ensures.done
          (c.commit-2.ensures.beside c.args.change.instance apart) (c.commit.ensures.beside next other) vote.told
          c.commit-2.ensures.done);
      said = refl;
    }
