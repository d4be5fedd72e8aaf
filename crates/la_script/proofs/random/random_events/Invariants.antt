use Rattle.std.proofs.Common.{◌≡◌, ◌*◌, map}
use Rattle.std.specs.List.{range_with_len}
use Rattle.rand_pcg.specs.Lcg.{advance}
use Rattle.rand_pcg.specs.Pcg.{multiplier_64}
use Rattle.la_script.specs.RandomEvents.{generator, random_event}
use Rattle.la_script.proofs.random.random_events.Given as goal

abbrev pub invariant-loop-number : goal.invariant-loop-number
invariant-loop-number l = record {
  at : l.generator ≡ advance 64 multiplier_64 (2 * l.number) (generator l.seed);
  so_far : l.events ≡ map (random_event l.seed l.replicas) (range_with_len 0 l.number);
}
