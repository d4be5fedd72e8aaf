use Rattle.std.proofs.Common.{length, refl, ap, ◌∙◌, arith}
use Rattle.la_set.specs.Histories.{empty}
use Rattle.la_set.proofs.lemmas.SetHistories.{history-empty}
use Rattle.la_set.proofs.Representation.{IsRepresentation-from, represented-from, none_each, uncut}
use Rattle.la_set.proofs.set.UpdateSet.new.Goals as goal

pub invariant_of-result : goal.invariant_of-result
invariant_of-result c = IsRepresentation-from _ empty refl none_each (λ r. omega (arith, ap length (history-empty r)))

pub returns : goal.returns
returns c = uncut _ 0 ∙ represented-from _ empty none_each
