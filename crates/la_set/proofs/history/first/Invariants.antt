use Rattle.std.proofs.Common.{◌≡◌, ◌≤◌, length, take}
use Rattle.std.specs.Option.{option_copied}
use Rattle.la_set.specs.Links.{items_of}
use Rattle.la_set.proofs.history.first.Given as goal

abbrev pub invariant-loop-at : goal.invariant-loop-at
invariant-loop-at g l = record { front : items_of (option_copied l.at) ≡ take (length (items_of (option_copied l.at))) (items_of (option_copied l.link)); enough : l.len ≤ length (items_of (option_copied l.at)) }
