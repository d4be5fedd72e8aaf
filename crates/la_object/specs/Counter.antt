-- A counter: what it takes from an operation, what it answers by its updates, and its state, the
-- sum of its increments and that of its decrements.
use Rattle.std.specs.Prelude.{ℕ, ◌+◌, ◌≤◌, Bool, true, false, List, sum_by, ℤ, pos, ◌-ℤ◌, int_le}
use Rattle.la_set.specs.declared.update.Op.{Op}
use Rattle.la_set.specs.declared.update.Op.TheVariants.{Inc, Dec}
use Rattle.la_set.specs.declared.update.Update.{Update}
use Rattle.la_object.specs.declared.counter.TheConstants.{MAX_SUM}
use Rattle.la_object.specs.declared.query.Query.{Query}
use Rattle.la_object.specs.declared.query.Query.TheVariants.{Total, AtLeast}
use Rattle.la_object.specs.declared.query.Answer.{Answer}
use Rattle.la_object.specs.declared.query.Answer.TheVariants.{Total as TotalIs, Reached, Foreign}
use Rattle.la_object.specs.declared.state.State.{State}
use Rattle.la_object.specs.declared.state.State.TheVariants.{Counter}

-- the operations of a counter
abbrev pub counts : Op → Bool
counts (Inc n) = true
counts (Dec n) = true
counts _ = false

-- what an operation adds, and what it takes
abbrev pub increment : Op → ℕ
increment (Inc n) = n
increment _ = 0

abbrev pub decrement : Op → ℕ
decrement (Dec n) = n
decrement _ = 0

-- the sum of the increments, and that of the decrements
abbrev pub ups : List Update → ℕ
ups us = sum_by (λ u. increment u.op) us

abbrev pub downs : List Update → ℕ
downs us = sum_by (λ u. decrement u.op) us

-- the increments less the decrements
abbrev pub total : (up down : ℕ) → ℤ
total up down = pos up -ℤ pos down

-- whether a total is at least a number, which one below zero is not
abbrev pub reaches : (total : ℤ) → (bound : ℕ) → Bool
reaches total bound = int_le (pos bound) total

-- what a counter with these updates answers
abbrev pub counter_value : List Update → Query → Answer
counter_value us Total = TotalIs (total (ups us) (downs us))
counter_value us (AtLeast bound) = Reached (reaches (total (ups us) (downs us)) bound)
counter_value us _ = Foreign

-- one step of a counter's two sums
abbrev pub counter_after : ℕ → ℕ → Update → State
counter_after up down u = Counter (up + increment u.op) (down + decrement u.op)

-- what a counter with these two sums answers
abbrev pub counter_reply : ℕ → ℕ → Query → Answer
counter_reply up down Total = TotalIs (total up down)
counter_reply up down (AtLeast bound) = Reached (reaches (total up down) bound)
counter_reply up down _ = Foreign

-- the two sums leave room for one more step
abbrev pub CounterHasRoom : ℕ → ℕ → Type 0
CounterHasRoom up down = (up ≤ MAX_SUM) × (down ≤ MAX_SUM)
