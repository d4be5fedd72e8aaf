use Rattle.std.proofs.Common.{◌≡◌, drop}
use Rattle.la_object.specs.Shelves.{kind_at}
use Rattle.la_serve.proofs.objects.Objects.kind_of.Given as goal

-- what is left of the rows says as much as all of them
abbrev pub invariant-loop-here : goal.invariant-loop-here
invariant-loop-here l = kind_at (drop l.here-index l.here-items) l.number ≡ kind_at l.here-items l.number
