use Rattle.std.proofs.Common.{sym}
use Rattle.la_orset.proofs.Absorbed.{index_none, index_some}
use Rattle.la_orset.proofs.or_set.take_one.Goals as goal

pub returns-in_default-clause-live : goal.returns-in_default-clause-live
returns-in_default-clause-live c =
    λ gone are ix. index_none c.args.puts.now gone c.args.id c.args.live.now are (sym c.in_default.ensures.answer) ix

pub returns-in-Some-remove-clause-live : goal.returns-in-Some-remove-clause-live
returns-in-Some-remove-clause-live c =
    λ gone are ix.
    index_some c.args.puts.now gone c.args.id c.in-Some.named.element c.args.live.now c.remove.new.self
    (sym c.in-Some.ensures.answer) c.remove.ensures ix

pub returns-in_default-remove-clause-live : goal.returns-in_default-remove-clause-live
returns-in_default-remove-clause-live c =
    λ gone are ix.
    index_some c.args.puts.now gone c.args.id c.in-Some.named.element c.args.live.now c.remove.new.self
    (sym c.in-Some.ensures.answer) c.remove.ensures ix
