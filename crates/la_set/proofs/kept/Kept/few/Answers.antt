use Rattle.std.proofs.Common.{[], ◌++◌, ap, sym, ◌∙◌}
use Rattle.la_set.specs.Kept.{lists_of, cut_of}
use Rattle.la_set.specs.Representation.{four_of}
use Rattle.la_set.proofs.kept.Kept.few.Goals as goal

pub returns-in-Few-clause-lists : goal.returns-in-Few-clause-lists
returns-in-Few-clause-lists c =
    ap lists_of c.in-Few.is ∙ ap (λ low. four_of low ++ four_of []) (sym c.deref.ensures)

pub returns-in-Few-clause-uncut : goal.returns-in-Few-clause-uncut
returns-in-Few-clause-uncut c = ap (λ k. (cut_of k).replica) c.in-Few.is ∙ c.if-replica-eq-REPLICAS.true
