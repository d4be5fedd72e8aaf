use Rattle.std.proofs.Common.{ap, ◌∙◌}
use Rattle.la_set.specs.Counts.{counts_of}
use Rattle.la_proposer.proofs.Refusing.{known-grown}
use Rattle.la_proposer.proofs.proposer.Proposer.reply_grown.Goals as goal

pub hear-requires : goal.hear-requires
hear-requires c = record {
  known = λ refused e. known-grown c.args.self.now.updates c.counts-base.result refused
      (c.counts-base.ensures.counts ∙ ap counts_of c.updates.ensures) (c.requires.grown refused e);
}
