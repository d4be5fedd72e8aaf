use Rattle.std.proofs.Common.{sym, arith, ◌∙◌}
use Rattle.la_node.proofs.Resuming.{each-Decides, fails_at}
use Rattle.la_node.proofs.resumed.seconds_follow.Goals as goal

pub returns : goal.returns
returns c = sym ((each-Decides c.args.instances.now 16).1 (λ k lt. c.loop-commit.invariant k (omega arith)))

pub returns-then-not-second_follows : goal.returns-then-not-second_follows
returns-then-not-second_follows c =
    fails_at c.args.instances.now 16 c.loop-commit.commit (omega arith)
    (sym c.second_follows.ensures ∙ c.if-not-second_follows.true)
