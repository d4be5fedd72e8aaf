use Rattle.std.proofs.Common.{◌≡◌, map}
use Rattle.la_runner.specs.Instances.{state_of}
use Rattle.la_runner.proofs.PassByPass.{ShowingAll, told_of_all}
use Rattle.la_runner.proofs.showing.show_instances.Given as goal

abbrev pub invariant-loop-at : goal.invariant-loop-at
invariant-loop-at l = record {
  same : map state_of l.from.items ≡ map state_of l.initial.from.items;
  shown : ShowingAll (told_of_all l.initial.from.items) (map state_of l.initial.to.items) l.at
      (map state_of l.to.items);
}
