use Rattle.std.proofs.Common.{sym, ◌∙◌}
use Rattle.la_set.proofs.lemmas.Comparable.{comparable-compatible, larger-first, larger-second, second_grows}
use Rattle.la_set.proofs.lemmas.Decisions.{is_subset-Decides}
use Rattle.la_set.proofs.set.UpdateSet.take_larger.Goals as goal

pub contains_compatible-requires : goal.contains_compatible-requires
contains_compatible-requires c = comparable-compatible c.args.self.now c.args.other c.requires

pub returns-then-not-contains_compatible-clause-larger : goal.returns-then-not-contains_compatible-clause-larger
returns-then-not-contains_compatible-clause-larger c =
    larger-second c.args.self.now c.args.other c.requires
    (sym c.contains_compatible.ensures ∙ c.if-not-contains_compatible.true)

pub returns-then-not-contains_compatible-clause-grows : goal.returns-then-not-contains_compatible-clause-grows
returns-then-not-contains_compatible-clause-grows c =
    second_grows c.args.self.now c.args.other c.requires
    (sym c.contains_compatible.ensures ∙ c.if-not-contains_compatible.true)

pub returns-else-not-contains_compatible-clause-larger : goal.returns-else-not-contains_compatible-clause-larger
returns-else-not-contains_compatible-clause-larger c =
    larger-first c.args.self.now c.args.other (sym c.contains_compatible.ensures ∙ c.if-not-contains_compatible.false)

pub returns-else-not-contains_compatible-clause-has : goal.returns-else-not-contains_compatible-clause-has
returns-else-not-contains_compatible-clause-has c =
    (is_subset-Decides c.args.other c.args.self.now).0
    (sym c.contains_compatible.ensures ∙ c.if-not-contains_compatible.false)
