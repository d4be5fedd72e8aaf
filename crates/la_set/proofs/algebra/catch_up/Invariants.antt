use Rattle.std.proofs.Common.{◌≡◌, ◌≤◌, length}
use Rattle.std.specs.Option.{option_copied}
use Rattle.la_set.specs.Links.{items_of}
use Rattle.la_set.proofs.Joining.{up_to}
use Rattle.la_set.proofs.algebra.catch_up.Given as goal

abbrev pub invariant-loop-place : goal.invariant-loop-place
invariant-loop-place l = record { so_far : l.mine ≡ up_to l.initial.mine (items_of (option_copied l.theirs)) l.place; from : length l.initial.mine ≤ l.place }
