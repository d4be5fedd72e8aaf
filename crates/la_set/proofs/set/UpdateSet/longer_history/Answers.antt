use Rattle.std.proofs.Common.{◌≡◌, ◌∙◌, arith, subst, IfOk}
use Rattle.la_set.proofs.Joining.{longer-first, longer-second}
use Rattle.la_set.proofs.set.UpdateSet.longer_history.Goals as goal

pub returns-then-count_of : goal.returns-then-count_of
returns-then-count_of c =
    subst (λ us. IfOk c.of.result (λ list. list ≡ us))
    (c.history_of.ensures.updates
    ∙ longer-second c.args.self.now c.args.other.now c.requires.compatible c.args.replica (omega arith))
    c.of.ensures

pub returns : goal.returns
returns c =
    subst (λ us. IfOk c.of-2.result (λ list. list ≡ us))
    (c.history_of-2.ensures.updates ∙ longer-first c.args.self.now c.args.other.now c.args.replica (omega arith))
    c.of-2.ensures
