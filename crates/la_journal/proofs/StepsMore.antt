-- One call more.
use Rattle.std.proofs.Common.{◌≡◌, List, [], ◌∷◌, ◌++◌, Option, None, refl}
use Rattle.la_journal.specs.Machine.{goes_on, steps_from}

pub from_append : {S C : Type 0} (step : S → C → Option S) (xs ys : List C) (state : Option S)
    → steps_from step (xs ++ ys) state ≡ steps_from step ys (steps_from step xs state)
from_append step [] ys state = refl
from_append step (x ∷ xs) ys state = from_append step xs ys (goes_on step state x)

pub none_stays : {S C : Type 0} (step : S → C → Option S) (calls : List C) → steps_from step calls None ≡ None
none_stays step [] = refl
none_stays step (c ∷ calls) = none_stays step calls
