-- Lives one after another.
use Rattle.std.proofs.Common.{ℕ, List, [], ◌∷◌, ◌++◌, Option, Some, take, refl, sym, ◌∙◌, ap}
use Rattle.la_journal.specs.Machine.{steps_from}
use Rattle.la_journal.specs.Lives.{LivesAreOneRun}
use Rattle.la_journal.proofs.StepsMore.{from_append}

module _ {S C : Type 0} (leads : List ℕ → Option S) (step : S → C → Option S) where
  pub one_run : LivesAreOneRun leads step
  one_run first [] file are = ([], refl, are)
  one_run first (l ∷ lives) file are =
      let later = one_run are.1 lives file are.4 in
      let n = are.2.0 in (
        take n l.calls ++ later.0,
        (n, later.0, are.2.1, are.2.2, refl, later.1),
        later.2
            ∙ ap (steps_from step later.0) (sym are.3 ∙ are.2.3)
            ∙ sym (from_append step (take n l.calls) later.0 (Some first)),
      )
