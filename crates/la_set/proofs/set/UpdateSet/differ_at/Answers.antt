use Rattle.std.proofs.Common.{List, MatchOption, length, arith, sym, subst, inl, inr}
use Rattle.std.proofs.lemmas.Bool.{cases_lt}
use Rattle.std.specs.Option.{option_copied}
use Rattle.la_set.specs.declared.update.Update.{Update}
use Rattle.la_set.specs.Histories.{history, numbered}
use Rattle.la_set.specs.Links.{items_of}
use Rattle.la_set.specs.Agreement.{Agree, AgreeBelow, IsFirstDifference}
use Rattle.la_set.specs.Counts.{count_in}
use Rattle.la_set.specs.declared.set.TheConstants.{MAX_NUMBER}
use Rattle.la_set.proofs.Rebuilding.{within-agree, within-agree-all, difference_below}
use Rattle.la_set.proofs.set.UpdateSet.differ_at.Goals as goal

pub returns-then-of-known-clause-first : goal.returns-then-of-known-clause-first
returns-then-of-known-clause-first c =
    let a = c.args.self.now in let b = c.args.other.now in let r = c.args.replica in
    within-agree-all a b c.args.base c.requires.same r
    (elim (cases_lt (length (history a r)) (length (history b r))) [
      | inl lt ↦ inl (omega (arith, lt, c.if-of-known.true, c.of-known.ensures, c.of.ensures, c.requires.both))
      | inr le ↦ inr (omega (arith, le, c.if-of-known.true, c.of-known.ensures, c.of.ensures, c.requires.both))
    ])

pub first_difference_from-requires : goal.first_difference_from-requires
first_difference_from-requires c =
    let a = c.args.self.now in let b = c.args.other.now in let r = c.args.replica in
    subst
    (AgreeBelow (items_of (option_copied c.history_of-mine.result))
    (items_of (option_copied c.history_of-theirs.result))) (sym c.of-known.ensures)
    (subst (λ vs. AgreeBelow (items_of (option_copied c.history_of-mine.result)) vs (count_in c.args.base r))
    (sym c.history_of-theirs.ensures.updates)
    (subst (λ us. AgreeBelow us (numbered r 1 (history b r)) (count_in c.args.base r)) (sym c.history_of-mine.ensures.updates)
    (within-agree a b c.args.base c.requires.same r)))

pub returns-clause-first : goal.returns-clause-first
returns-clause-first c =
    let mine = items_of (option_copied c.history_of-mine.result) in
    let found = λ (us vs : List Update). MatchOption c.first_difference_from.result (Agree us vs) (λ place. IsFirstDifference us vs place) in
    let b = numbered c.args.replica 1 (history c.args.other.now c.args.replica) in
    subst (λ us. found us b) c.history_of-mine.ensures.updates
    (subst (found mine) c.history_of-theirs.ensures.updates c.first_difference_from.ensures)

pub returns-clause-limit : goal.returns-clause-limit
returns-clause-limit c =
    difference_below (items_of (option_copied c.history_of-mine.result))
    (items_of (option_copied c.history_of-theirs.result)) MAX_NUMBER c.history_of-mine.ensures.limit
    c.first_difference_from.result c.first_difference_from.ensures
