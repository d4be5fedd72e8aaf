-- A max register: what it takes from an operation, what it answers by its updates, and its state,
-- the largest value so far.
use Rattle.std.specs.Prelude.{ℕ, max, Bool, true, false, List, fold}
use Rattle.la_set.specs.declared.update.Op.{Op}
use Rattle.la_set.specs.declared.update.Op.TheVariants.{Raise}
use Rattle.la_set.specs.declared.update.Update.{Update}
use Rattle.la_object.specs.declared.query.Query.{Query}
use Rattle.la_object.specs.declared.query.Query.TheVariants.{Largest}
use Rattle.la_object.specs.declared.query.Answer.{Answer}
use Rattle.la_object.specs.declared.query.Answer.TheVariants.{Largest as LargestIs, Foreign}
use Rattle.la_object.specs.declared.state.State.{State}
use Rattle.la_object.specs.declared.state.State.TheVariants.{Max}

-- the operations of a max register
abbrev pub raises : Op → Bool
raises (Raise n) = true
raises _ = false

-- the value that an operation raises to
abbrev pub raised : Op → ℕ
raised (Raise n) = n
raised _ = 0

-- the largest value that is raised to, and 0 where there is none
abbrev pub largest : List Update → ℕ
largest us = fold (λ m u. max m (raised u.op)) 0 us

-- what a max register with these updates answers
abbrev pub register_value : List Update → Query → Answer
register_value us Largest = LargestIs (largest us)
register_value us _ = Foreign

-- one step of the largest value
abbrev pub register_after : ℕ → Update → State
register_after most u = Max (max most (raised u.op))

-- what a max register with this largest value answers
abbrev pub register_reply : ℕ → Query → Answer
register_reply most Largest = LargestIs most
register_reply most _ = Foreign
