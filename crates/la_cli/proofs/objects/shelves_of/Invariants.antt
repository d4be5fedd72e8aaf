use Rattle.std.proofs.Common.{◌≡◌, replicate}
use Rattle.la_cli.specs.Shelves.{all_states_of, standard_objects}
use Rattle.la_cli.proofs.objects.shelves_of.Given as goal

abbrev pub invariant-loop : goal.invariant-loop
invariant-loop g l = all_states_of g.B.Replicated.state l.all.items ≡ replicate l.counter standard_objects
