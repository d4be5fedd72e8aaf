use Rattle.std.proofs.Common.{◌≡◌, take}
use Rattle.std.specs.List.{list_all}
use Rattle.la_node.specs.Links.{is_counted}
use Rattle.la_node.proofs.link.are_counted.Given as goal

abbrev pub invariant-loop-place : goal.invariant-loop-place
invariant-loop-place l = l.all ≡ list_all (is_counted l.counts) (take l.place l.told.more)
