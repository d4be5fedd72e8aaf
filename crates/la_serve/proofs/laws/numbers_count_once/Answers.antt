use Rattle.la_serve.proofs.Once.{numbers_count}
use Rattle.la_serve.proofs.laws.numbers_count_once.Goals as goal

pub returns : goal.returns
returns c =
    numbers_count
    (record {
      is = λ p may. ((c.proposers_may_be_resumed.ensures.decides p).0 may).is_proposer;
      submission = c.proposers_may_be_resumed.ensures.submission;
      reply = c.proposers_may_be_resumed.ensures.reply;
      adds = c.replies_submit_nothing.ensures.submission;
      none = c.replies_submit_nothing.ensures.reply;
    })
    (record {
      numbered = c.numbers_are_read_apart.ensures.submits;
      written = c.numbers_are_read_apart.ensures.written;
    })
