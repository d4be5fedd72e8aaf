use Rattle.std.specs.Prelude.{◌≡◌, ◌++◌, map, length, vec_items}
use Rattle.std.specs.Vec.Iter.{into_iter_items}
use Rattle.la_runner.specs.Runs.{place_of, places}
use Rattle.la_runner.proofs.runs.starts.Given as goal

abbrev pub invariant-loop-member : goal.invariant-loop-member
invariant-loop-member g l = record {
  begun : map (λ s. place_of s.member s.shelf s.jobs.items) (vec_items l.starts)
      ++ places (into_iter_items l.member-iterator) (into_iter_items l.shelves) (into_iter_items l.jobs)
      ≡ places (vec_items l.fn.members) (vec_items l.fn.shelves) (vec_items l.fn.jobs);
  shelves_left : length (into_iter_items l.shelves) ≡ length (into_iter_items l.member-iterator);
  jobs_left : length (into_iter_items l.jobs) ≡ length (into_iter_items l.member-iterator);
}
