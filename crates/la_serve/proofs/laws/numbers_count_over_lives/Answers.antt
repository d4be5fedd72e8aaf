use Rattle.la_serve.proofs.Once.{over_lives}
use Rattle.la_serve.proofs.laws.numbers_count_over_lives.Goals as goal

pub returns : goal.returns
returns g c =
    over_lives
    (record {
      is = λ p may. ((c.proposers_may_be_resumed.ensures.decides p).0 may).is_proposer;
      submission = c.proposers_may_be_resumed.ensures.submission;
      reply = c.proposers_may_be_resumed.ensures.reply;
      adds = c.replies_submit_nothing.ensures.submission;
      none = c.replies_submit_nothing.ensures.reply;
    })
    g.D.Disk.seen g.D.Disk.may_leave g.D.Disk.moment g.D.Disk.left_since c.node_lives_are_one_run.ensures
