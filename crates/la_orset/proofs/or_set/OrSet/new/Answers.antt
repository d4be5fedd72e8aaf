use Rattle.std.proofs.Common.{ap, ◌∙◌}
use Rattle.la_object.specs.declared.state.State.TheVariants.{Set}
use Rattle.la_orset.specs.Puts.{adds_of, gone_of}
use Rattle.la_orset.proofs.Absorbed.{adds_empty, gone_empty, index_empty}
use Rattle.la_orset.proofs.or_set.OrSet.new.Goals as goal

pub invariant_of-result : goal.invariant_of-result
invariant_of-result c = record { indexed = index_empty c.new.result _ c.new-3.result c.new.ensures c.new-3.ensures }

pub returns : goal.returns
returns c =
    λ i.
    Set ((ap adds_of c.new.ensures ∙ adds_empty) i)
    (((λ j. gone_of (c.new-2.ensures j) (c.new.ensures j)) ∙ gone_empty) i)
