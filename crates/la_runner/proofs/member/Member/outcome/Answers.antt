use Rattle.la_runner.proofs.Proposing.{no_outcome}
use Rattle.la_runner.proofs.member.Member.outcome.Goals as goal

pub returns-then-commit-ge-MAX_COMMITS : goal.returns-then-commit-ge-MAX_COMMITS
returns-then-commit-ge-MAX_COMMITS c =
    no_outcome c.self.inside c.args.self.now c.args.commit c.self.view_is c.self.invariant c.if-commit-ge-MAX_COMMITS.true
