use Rattle.std.specs.Prelude.{◌≡◌, ◌++◌, map, vec_items}
use Rattle.std.specs.List.{All}
use Rattle.std.specs.Vec.Iter.{into_iter_items}
use Rattle.la_runner.specs.Runs.{IsReadyMember}
use Rattle.la_runner.proofs.running.start_all.Given as goal

abbrev pub invariant-loop-work : goal.invariant-loop-work
invariant-loop-work g l = record {
  started : map (λ h. h.promise.0.value) (vec_items l.handles) ++ into_iter_items l.work-iterator
      ≡ vec_items l.fn.works;
  ready : All (λ w. IsReadyMember l.group w.member w.shelf) (into_iter_items l.work-iterator);
}
