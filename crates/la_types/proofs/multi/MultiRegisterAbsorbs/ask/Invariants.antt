use Rattle.std.proofs.Common.{◌≡◌, None, get_or}
use Rattle.std.specs.List.{filter_map, range_with_len}
use Rattle.la_types.specs.Multis.{beyond_seen}
use Rattle.la_types.proofs.multi.MultiRegisterAbsorbs.ask.Given as goal

abbrev pub invariant-loop-replica : goal.invariant-loop-replica
invariant-loop-replica l =
    l.values.items ≡ filter_map (λ r. beyond_seen l.self.state.seen r (get_or l.self.state.last r None))
    (range_with_len 0 l.replica)
