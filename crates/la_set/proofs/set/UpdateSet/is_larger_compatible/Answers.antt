use Rattle.std.proofs.Common.{sym, ◌∙◌}
use Rattle.la_set.proofs.lemmas.Inclusions.{compatible-sym}
use Rattle.la_set.proofs.lemmas.Comparable.{counts-subset, larger-within, larger-without}
use Rattle.la_set.proofs.set.UpdateSet.is_larger_compatible.Goals as goal

pub returns-then-has_no_more : goal.returns-then-has_no_more
returns-then-has_no_more c =
    let a = c.args.self.now in let b = c.args.other.now in
    let within = counts-subset b a (compatible-sym a b c.requires) c.has_no_more.result c.has_no_more.ensures in
    let again = c.has_no_more-then-has_no_more in
    larger-within b a (sym within ∙ c.if-has_no_more.true) again.result
    (counts-subset a b c.requires again.result again.ensures)

pub returns-else-has_no_more : goal.returns-else-has_no_more
returns-else-has_no_more c =
    let a = c.args.self.now in let b = c.args.other.now in
    larger-without b a c.has_no_more.result c.if-has_no_more.false
    (counts-subset b a (compatible-sym a b c.requires) c.has_no_more.result c.has_no_more.ensures)
