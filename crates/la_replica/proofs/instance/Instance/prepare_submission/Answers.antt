use Rattle.std.proofs.Common.{rules}
use Rattle.la_proposer.specs.Changes.{after_commit}
use Rattle.la_replica.proofs.Sending.{told_all}
use Rattle.la_replica.proofs.instance.Instance.prepare_submission.Goals as goal

pub returns-clause-ok : goal.returns-clause-ok
returns-clause-ok c = record {
  step = search rules;
  from = search rules;
  told =
      λ offered.
      told_all (after_commit c.args.self.now.proposer c.in_ok-opened.change) c.args.sender.now.instance offered
      c.new-mail.result c.offer_next.new.mail c.new-mail.ensures (c.in_ok-offer_next.ensures.told offered);
  instance = search rules;
  agreed = search rules;
}
