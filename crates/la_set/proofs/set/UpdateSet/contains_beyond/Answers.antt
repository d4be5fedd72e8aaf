use Rattle.std.proofs.lemmas.Bool.{both_ways}
use Rattle.la_set.proofs.lemmas.Inclusions.{subset-count, subset-counts, compatible-sym, compatible-superset}
use Rattle.la_set.proofs.lemmas.Decisions.{is_subset-from}
use Rattle.la_set.proofs.set.UpdateSet.contains_beyond.Goals as goal

pub returns-then-has_no_more-clause-subset : goal.returns-then-has_no_more-clause-subset
returns-then-has_no_more-clause-subset c =
    let a = c.args.self.now in let b = c.args.other.now in (
      λ agree.
          subset-counts b a (compatible-sym a b (c.agrees_beyond.ensures.0 agree))
          (c.has_no_more.ensures.0 c.if-has_no_more.true),
      λ sub. c.agrees_beyond.ensures.1 (compatible-superset a b sub),
    )

pub returns-then-has_no_more-clause-value : goal.returns-then-has_no_more-clause-value
returns-then-has_no_more-clause-value c =
    is_subset-from c.agrees_beyond.result c.args.other.now c.args.self.now (returns-then-has_no_more-clause-subset c)

pub returns-else-has_no_more-clause-subset : goal.returns-else-has_no_more-clause-subset
returns-else-has_no_more-clause-subset c = (
  λ fewer. absurd (both_ways _ c.if-has_no_more.false fewer),
  λ sub. c.has_no_more.ensures.1 (subset-count c.args.other.now c.args.self.now sub),
)

pub returns-else-has_no_more-clause-value : goal.returns-else-has_no_more-clause-value
returns-else-has_no_more-clause-value c =
    is_subset-from c.has_no_more.result c.args.other.now c.args.self.now (returns-else-has_no_more-clause-subset c)
