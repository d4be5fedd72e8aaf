use Rattle.std.proofs.Common.{◌≡◌, fold, take}
use Rattle.la_node.specs.Links.{reaching}
use Rattle.la_node.proofs.link.reach_of.Given as goal

abbrev pub invariant-loop-place : goal.invariant-loop-place
invariant-loop-place l = l.reach ≡ fold reaching l.delta.base (take l.place l.delta.more)
