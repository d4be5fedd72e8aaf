use Rattle.std.proofs.Common.{arith, sym, ◌∙◌}
use Rattle.la_set.proofs.lemmas.Joins.{join-nothing}
use Rattle.la_set.proofs.Joining.{joining-more, joining-represented, joining-keeps}
use Rattle.la_set.proofs.set.UpdateSet.join.Goals as goal

pub returns-then-has_no_more-clause-ok : goal.returns-then-has_no_more-clause-ok
returns-then-has_no_more-clause-ok c =
    sym (join-nothing c.args.self.now c.args.other.now (c.has_no_more.ensures.0 c.if-has_no_more.true))

pub loop-replica-preserved : goal.loop-replica-preserved
loop-replica-preserved c =
    joining-more c.args.self.now c.args.other.now c.loop-replica.of c.loop-replica.replica c.loop-replica.invariant
    (omega arith) c.index-of-replica.result _ c.catch_up.new.mine
    c.history_of.ensures.updates c.history_of.ensures.limit c.in_ok-catch_up.ensures

pub keeping-requires : goal.keeping-requires
keeping-requires c =
    joining-keeps c.args.self.now c.args.other.now c.loop-replica.of c.loop-replica.replica c.loop-replica.invariant
    (omega arith) c.allocator-alloc.ensures

pub returns-clause-ok : goal.returns-clause-ok
returns-clause-ok c =
    c.in_ok-self.ensures
    ∙ joining-represented c.args.self.now c.args.other.now c.loop-replica.of c.loop-replica.replica
    c.loop-replica.invariant (omega arith)
