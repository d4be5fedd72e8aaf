use Rattle.std.proofs.Common.{subst}
use Rattle.la_set.specs.Inclusion.{IsSubset}
use Rattle.la_runner.proofs.Larger.{answer_contains}
use Rattle.la_runner.proofs.instance.ask_one.Goals as goal

pub reply_grown-requires : goal.reply_grown-requires
reply_grown-requires g c = record {
  grown =
      λ refused e.
      subst (λ s. IsSubset s refused) c.updates.ensures
      (answer_contains c.args.pass.now c.offer_grown.new.pass c.updates.result.now c.in_ok-reply.reply
      c.in_ok-reply.ensures.ok refused e);
}
