use Rattle.std.specs.Prelude.{◌≡◌, List, ◌++◌, length, vec_items, vec_len}
use Rattle.std.specs.List.{AllZip}
use Rattle.std.specs.Vec.Iter.{into_iter_items}
use Rattle.la_runner.specs.Runs.{IsWorkOf}
use Rattle.la_runner.proofs.running.prepare.Given as goal

abbrev pub invariant-loop : goal.invariant-loop
invariant-loop g l = vec_len l.inboxes ≡ l.counter

-- whatever works are made of what is left, with those so far they are all; there is a channel for each
-- that is left
abbrev pub invariant-loop-start : goal.invariant-loop-start
invariant-loop-start g l = record {
  made : (rest : List _)
      → AllZip (λ s w. IsWorkOf s.member s.shelf s.jobs.items w.member w.shelf w.jobs.items)
      (into_iter_items l.start-iterator) rest
      → AllZip (λ s w. IsWorkOf s.member s.shelf s.jobs.items w.member w.shelf w.jobs.items) (vec_items l.fn.starts)
      (vec_items l.works ++ rest);
  channels : vec_len l.inboxes ≡ length (into_iter_items l.start-iterator);
}
